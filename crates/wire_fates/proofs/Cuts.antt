-- The first of some calls, of which something holds.
use Rattle.std.proofs.Common.{◌≡◌, inl, inr, ℕ, ◌+◌, ◌<◌, ◌≤◌, List, Some}
use Rattle.std.proofs.Common.{sym, ap, ◌∙◌, subst, arith}
use Rattle.std.specs.Prelude.{slice_get}
use Rattle.std.proofs.lemmas.Option.{same_Some}
use Rattle.std.proofs.lemmas.Bool.{cases_eq}
use Rattle.wire_runs.specs.Plan.{Event}
use Rattle.wire_fates.specs.Cuts.{IsCut}

-- the border is at `low`, at `high` or between
pub record IsNarrowed (holds : Event → Type 0) (calls : List Event) (low high : ℕ) : Type 0 where
  pub below : (k : ℕ) (z : Event) → k < low → slice_get calls k ≡ Some z → holds z
  pub above : (k : ℕ) (z : Event) → high ≤ k → slice_get calls k ≡ Some z → holds z → ⊥

pub narrowed_cut : (holds : Event → Type 0) (calls : List Event) (low high : ℕ) → high ≤ low → IsNarrowed holds calls low high → IsCut holds calls low
narrowed_cut holds calls low high le n = record { below = n.below; above = λ k z ge e. n.above k z (omega (arith, le, ge)) e }

-- what holds of a call holds of those in front of it
abbrev pub HoldsInFront : (Event → Type 0) → List Event → Type 0
HoldsInFront holds calls = (k l : ℕ) (y z : Event) → k < l → slice_get calls k ≡ Some y → slice_get calls l ≡ Some z → holds z → holds y

module _ (holds : Event → Type 0) (calls : List Event) (front : HoldsInFront holds calls) where
  pub low_rises : (low high m : ℕ) (z : Event) → slice_get calls m ≡ Some z → holds z → IsNarrowed holds calls low high → IsNarrowed holds calls (m + 1) high
  low_rises low high m z is h n = record {
    below = λ k y lt e. elim (cases_eq k m) [
      | inl same ↦ subst holds (same_Some z y (sym is ∙ ap (slice_get calls) (sym same) ∙ e)) h
      | inr other ↦ front k m y z (omega (arith, lt, other)) e is h
    ];
    above = n.above;
  }

  pub high_falls : (low high m : ℕ) (z : Event) → slice_get calls m ≡ Some z → (holds z → ⊥) → IsNarrowed holds calls low high → IsNarrowed holds calls low m
  high_falls low high m z is not n = record {
    below = n.below;
    above = λ k y le e h. elim (cases_eq k m) [
      | inl same ↦ not (subst holds (same_Some y z (sym e ∙ ap (slice_get calls) same ∙ is)) h)
      | inr other ↦ not (front m k z y (omega (arith, le, other)) is e h)
    ];
  }

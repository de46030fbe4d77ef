-- Gets that wait.
use Rattle.std.proofs.Common.{◌≡◌, ℕ, suc, ◌<◌, false, Option, Some, None, sym, ◌∙◌, subst, arith}
use Rattle.std.proofs.lemmas.Bool.{true≢false}
use Rattle.wire_types.specs.declared.Event.{Event as CodeEvent}
use Rattle.wire_runs.specs.Plan.{Plan, Event, Get, kind, event_of}
use Rattle.wire_runs.specs.Puts.{stored}
use Rattle.wire_runs.specs.Order.{Stores}
use Rattle.wire_runs.proofs.Basics.{stored_stays}
use Rattle.wire_plan.proofs.KeyRows.{none_or_some}
use Rattle.wire_library_laws.specs.Library.{Family}
use Rattle.wire_library_laws.specs.Portable.{EndsFirst, Lacks, Lacked, IsThereFirst}
use Rattle.wire_portable.specs.declared.libraries.Library.{Library}
use Rattle.wire_portable.specs.Libraries.{family_of, has, only_v4}
use Rattle.wire_portable.specs.Commits.{IsLastOf}
use Rattle.wire_portable.specs.Judging.{IsEndedNear, IsEndedFar, HasEnded, IsFineMate}
use Rattle.wire_portable.proofs.Sets.{not_flaky, not_at_once}
use Rattle.wire_portable.proofs.Firsts.{earlier_ends}
use Rattle.wire_portable.proofs.Keys.{there_missing}

module _ (plan : Plan) (p key : ℕ) (g : Event) where
  -- where the last has ended first, so have all
  pub all_lacking : (found : Option CodeEvent) → IsLastOf (Lacks plan p key) found → HasEnded plan g found →
      (c : Event) → Lacks plan p key c → EndsFirst plan c g
  all_lacking None none first c l = absurd (none c l)
  all_lacking (Some e) last first c l = earlier_ends plan c (event_of e) g last.0.is_live (l.its ∙ sym last.0.its) (last.1 c l) first

  pub all_lacked : (found : Option CodeEvent) → IsLastOf (Lacked plan p key) found → HasEnded plan g found →
      (c : Event) → Lacked plan p key c → EndsFirst plan c g
  all_lacked None none first c l = absurd (none c l)
  all_lacked (Some e) last first c l = earlier_ends plan c (event_of e) g last.0.is_live (l.its ∙ sym last.0.its) (last.1 c l) first

  pub ended_near : (library : Library) → ((c : Event) → Lacks plan p key c → EndsFirst plan c g) → ((c : Event) → Lacked plan p key c → EndsFirst plan c g) → IsEndedNear (family_of library) plan p key g
  ended_near library first flaky = record { first = first; flaky = λ f. flaky }

  pub ended_others : (library : Library) → has only_v4 library ≡ false → ((c : Event) → Lacks plan p key c → EndsFirst plan c g) → IsEndedNear (family_of library) plan p key g
  ended_others library not first = record { first = first; flaky = λ f. absurd (not_flaky library not f) }

  pub far_others : (library : Library) → has only_v4 library ≡ false → IsEndedFar (family_of library) plan p key g
  far_others library not at_once = absurd (true≢false (sym at_once ∙ not_at_once library not))

  -- where the key of another get comes later than the last commit that lacks this one
  pub mate_later : (library : Library) (h : Event) (e : CodeEvent) → has only_v4 library ≡ false → IsLastOf (Lacks plan p key) (Some e) →
      ((q other : ℕ) → kind plan h ≡ Some (Get q other) → e.proc.number ≡ q → stored plan q other (suc e.at) ≡ None) → IsFineMate (family_of library) plan p key g h
  mate_later library h e not last later other is ne a b c l has_it =
      let le = last.1 c l in
      absurd (there_missing plan p other (suc e.at) (stored_stays plan p other (suc c.at) (suc e.at) (omega (arith, le)) (has_it (not_at_once library not))) (later p other is last.0.its))

  pub mate_ends_one : (family : Family) (h : Event) → EndsFirst plan g h → IsFineMate family plan p key g h
  mate_ends_one family h first other is ne a b c l has_it = absurd (a first)

  pub mate_ends_other : (family : Family) (h : Event) → EndsFirst plan h g → IsFineMate family plan p key g h
  mate_ends_other family h first other is ne a b c l has_it = absurd (b first)

  pub mate_after : (family : Family) (h : Event) → IsThereFirst plan p key h → IsFineMate family plan p key g h
  mate_after family h there other is ne a b c l has_it = there

-- a store after an event leaves the key missing after it
pub store_later : (plan : Plan) (p key n : ℕ) (x : Event) → x.proc ≡ p → Stores plan x key → n < x.at → stored plan p key (suc n) ≡ None
store_later plan p key n x its stores lt = none_or_some _ (λ s. there_missing plan p key x.at (stored_stays plan p key (suc n) x.at lt s) (subst (λ q. stored plan q key x.at ≡ None) its stores.nothing_before))

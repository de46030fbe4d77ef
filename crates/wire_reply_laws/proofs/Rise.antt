-- Keys rise along chains.
use Rattle.std.proofs.Common.{◌≡◌, ℕ, zero, suc, ◌<◌, Some, ◌⊎◌, inl, inr, sym, ◌∙◌, subst, arith}
use Rattle.std.proofs.lemmas.Bool.{cases_eq}
use Rattle.wire_runs.specs.Plan.{Plan, Event, Kind, kind}
use Rattle.wire_runs.specs.Order.{Live, Before, edge, further}
use Rattle.wire_runs.specs.Patterns.{Pattern, Cast}
use Rattle.wire_runs.proofs.Basics.{event_within}
use Rattle.wire_runs.proofs.Due.{coming_event, live_may}
use Rattle.wire_runs.proofs.Histories.{after_live}
use Rattle.wire_runs.proofs.Images.{event_at}
use Rattle.wire_size_laws.specs.Stages.{Stages, StageKey, IsLess}
use Rattle.wire_reply_laws.specs.Kept.{plan_key, KeepsStages}

abbrev Lex : ℕ → ℕ → Type 0 → Type 0
Lex a b rest = (a < b) ⊎ ((a ≡ b) × rest)

lex_joined : (a b c : ℕ) {P Q R : Type 0} → (P → Q → R) → Lex a b P → Lex b c Q → Lex a c R
lex_joined a b c f (inl p) (inl q) = inl (omega (arith, p, q))
lex_joined a b c f (inl p) (inr (s, q)) = inl (omega (arith, p, s))
lex_joined a b c f (inr (s, p)) (inl q) = inl (omega (arith, s, q))
lex_joined a b c f (inr (s, p)) (inr (t, q)) = inr (s ∙ t, f p q)

less_joined : (a b c : StageKey) → IsLess a b → IsLess b c → IsLess a c
less_joined a b c =
    lex_joined a.one b.one c.one (lex_joined a.two b.two c.two (lex_joined a.three b.three c.three (λ p q. omega (arith, p, q))))

-- less or the same
abbrev pub AtMost : StageKey → StageKey → Type 0
AtMost a b = IsLess a b ⊎ (a ≡ b)

most_joined : (a b c : StageKey) → AtMost a b → AtMost b c → AtMost a c
most_joined a b c (inl p) (inl q) = inl (less_joined a b c p q)
most_joined a b c (inl p) (inr q) = inl (subst (IsLess a) q p)
most_joined a b c (inr p) q = subst (λ k. AtMost k c) (sym p) q

most_less : (a b c : StageKey) → AtMost a b → IsLess b c → IsLess a c
most_less a b c (inl p) q = less_joined a b c p q
most_less a b c (inr p) q = subst (λ k. IsLess k c) (sym p) q

less_most : (a b c : StageKey) → IsLess a b → AtMost b c → IsLess a c
less_most a b c p (inl q) = less_joined a b c p q
less_most a b c p (inr q) = subst (IsLess a) q p

module _ (stages : Stages) (pattern : Pattern) (cast : Cast) (plan : Plan) (keeps : KeepsStages stages pattern cast plan) where
  abbrev key : Event → StageKey
  key = plan_key stages pattern cast plan

  abbrev at : ℕ → ℕ → Event
  at p n = record { proc = p; at = n }

  along_from : (p n m : ℕ) (k : Kind) → n < m → kind plan (at p m) ≡ Some k → AtMost (key (at p n)) (key (at p m))
  along_from p n zero k lt is = absurd (omega (arith, lt))
  along_from p n (suc m) k lt is = elim (cases_eq n m) [
    | inl s ↦ subst (λ i. AtMost (key (at p i)) (key (at p (suc m)))) (sym s) (keeps.along (at p m) k is)
    | inr ne ↦ (
        let within = event_within plan p (suc m) k is in
        let e = event_at plan p m (omega (arith, within)) in
        most_joined (key (at p n)) (key (at p m)) (key (at p (suc m))) (along_from p n m e.0 (omega (arith, lt, ne)) e.1) (keeps.along (at p m) k is))
  ]

  -- no key of a process is less than an earlier one
  pub rises_along : (x y : Event) (k : Kind) → kind plan y ≡ Some k → x.proc ≡ y.proc → x.at < y.at → AtMost (key x) (key y)
  rises_along x y k is same lt =
      subst (λ (v : Event). AtMost (key v) (key y)) (λ t. record { proc = sym same t; at = x.at }) (along_from y.proc x.at y.at k lt is)

  abbrev pub Goes : Event → Event → Type 0
  Goes x y = IsLess (key x) (key y) ⊎ ((x.proc ≡ y.proc) × (x.at < y.at))

  joined : (x y z : Event) (k l : Kind) → kind plan y ≡ Some k → kind plan z ≡ Some l → Goes x y → Goes y z → Goes x z
  joined x y z k l is there (inl p) (inl q) = inl (less_joined (key x) (key y) (key z) p q)
  joined x y z k l is there (inl p) (inr q) = inl (less_most (key x) (key y) (key z) p (rises_along y z l there q.0 q.1))
  joined x y z k l is there (inr p) (inl q) = inl (most_less (key x) (key y) (key z) (rises_along x y k is p.0 p.1) q)
  joined x y z k l is there (inr p) (inr q) = inr (p.0 ∙ q.0, (let a = p.1 in let b = q.1 in omega (arith, a, b)))

  kind_of : (y : Event) → Live plan y → (k : Kind) × (kind plan y ≡ Some k)
  kind_of y l = coming_event plan y (kind plan y) (live_may l)

  -- what is before an event has a lesser key, or is earlier in its process
  pub rises_before : {x y : Event} → Before plan x y → Goes x y
  rises_before (edge l e m) = keeps.across _ _ e
  rises_before {x = x} (further {y = y} {z = z} b e m) =
      let k = kind_of y (after_live b) in
      let l = kind_of z m in
      joined x y z k.0 l.0 k.1 l.1 (rises_before b) (keeps.across y z e)

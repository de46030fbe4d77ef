-- Which calls come to be made, and what has ended by then.
use Rattle.std.proofs.Common.{◌≡◌, ℕ, ◌-◌, ◌≤◌, inl, inr, refl, sym, ◌∙◌, subst, arith}
use Rattle.std.proofs.lemmas.Bool.{cases_eq}
use Rattle.wire_runs.specs.Plan.{Plan, Event}
use Rattle.wire_runs.specs.Order.{Live, Before}
use Rattle.wire_runs.proofs.Histories.{before_live, joined, same_process}
use Rattle.wire_library_laws.specs.Portable.{IsRightBefore, EndsFirst, IsAsked}

-- the event right before one is the one that is last
pub one_last : (x y g : Event) → IsRightBefore x g → IsRightBefore y g → x ≡ y
one_last x y g a b =
    let p = a.same ∙ sym b.same in
    let m = a.next in
    let n = b.next in
    let i : x.at ≡ y.at = omega (arith, m, n) in λ t. record { proc = p t; at = i t }

-- nothing is before the first event of a process
pub asked_first : (plan : Plan) (g : Event) → g.at ≡ 0 → IsAsked plan g
asked_first plan g z y last = let n = last.next in absurd (omega (arith, n, z))

-- the event right before a call is live
pub asked_live : (plan : Plan) (g last : Event) → IsRightBefore last g → Live plan last → IsAsked plan g
asked_live plan g last is l y other = subst (Live plan) (one_last last y g is other) l

pub asked_back : (plan : Plan) (g last : Event) → IsRightBefore last g → IsAsked plan g → Live plan last
asked_back plan g last is asked = asked last is

-- a live call is asked
pub live_asked : (plan : Plan) (g : Event) → Live plan g → IsAsked plan g
live_asked plan g l y last = let n = last.next in before_live (same_process plan y g l last.same (omega (arith, n)))

-- the event right before one that isn't the first
pub last_of : (p at : ℕ) → (at ≡ 0 → ⊥) → IsRightBefore (record { proc = p; at = at - 1 }) (record { proc = p; at = at })
last_of p at some = record { same = refl; next = omega (arith, some) }

-- before the first event of a process nothing has ended
pub none_first : (plan : Plan) (x g : Event) → g.at ≡ 0 → EndsFirst plan x g → ⊥
none_first plan x g z first = let n = first.is.next in omega (arith, n, z)

pub here_first : (plan : Plan) (x g last : Event) → IsRightBefore last g → x ≡ last → EndsFirst plan x g
here_first plan x g last is e = record { last = last; is = is; leads = inl e }

pub before_first : (plan : Plan) (x g last : Event) → IsRightBefore last g → Before plan x last → EndsFirst plan x g
before_first plan x g last is b = record { last = last; is = is; leads = inr b }

pub first_before : (plan : Plan) (x g last : Event) → IsRightBefore last g → (x ≡ last → ⊥) → EndsFirst plan x g → Before plan x last
first_before plan x g last is other first =
    let same = one_last first.last last g first.is is in
    elim first.leads [
      | inl e ↦ absurd (other (e ∙ same))
      | inr b ↦ subst (Before plan x) same b
    ]

-- what is earlier in a process has ended too
pub earlier_ends : (plan : Plan) (x y g : Event) → Live plan y → x.proc ≡ y.proc → x.at ≤ y.at → EndsFirst plan y g → EndsFirst plan x g
earlier_ends plan x y g l same le first = elim (cases_eq x.at y.at) [
  | inl e ↦ subst (λ z. EndsFirst plan z g) (λ t. record { proc = sym same t; at = sym e t }) first
  | inr ne ↦ record {
    last = first.last;
    is = first.is;
    leads = inr (elim first.leads [
      | inl e ↦ subst (Before plan x) e (same_process plan x y l same (omega (arith, le, ne)))
      | inr b ↦ joined (same_process plan x y l same (omega (arith, le, ne))) b
    ]);
  }
]

-- What fences have brought of a process's data to a node.
use Rattle.std.proofs.Common.{◌≡◌, ◌∙◌, ap, sym, refl, subst, ℕ, zero, suc, ◌+◌, ◌-◌, ◌≤◌, ◌<◌, List, Bool, true, false, cond, ◌&&◌, Option, Some, None, inl, inr, arith}
use Rattle.std.specs.Prelude.{slice_set}
use Rattle.wire_types.specs.declared.Proc.{Proc}
use Rattle.wire_runs.specs.State.{start}
use Rattle.wire_runs.specs.Step.{IsInterleaving, run}
use Rattle.wire_runs.proofs.Due.{reachable_sound}
use Rattle.wire_core.proofs.Steps.{get_set}
use Rattle.std.proofs.lemmas.Bool.{false_from_ne_true, cases_lt, leb-true, and_parts}
use Rattle.std.proofs.Math.Bool.{and-false}
use Rattle.wire_runs.specs.Plan.{Plan, Kind, Arrive, kind_at, event_count}
use Rattle.wire_runs.specs.Puts.{stored}
use Rattle.wire_runs.specs.Fences.{arrivals, is_complete, is_collecting, has_node}
use Rattle.wire_scripts.specs.Scripts.{Scripts, set_at}
use Rattle.wire_scripts.specs.Planned.{plan_of}
use Rattle.wire_fence.specs.FenceTable.{FenceTable, AreFencesOf, fence_at, collects_in, reaches_in}
use Rattle.wire_runs.specs.Sight.{has_brought, delivered, delivered_with, stored_at_with}
use Rattle.wire_runs.proofs.Basics.{arrivals_step, arrivals_rise, list_all_at_member}
use Rattle.wire_plan.specs.Meetings.{fence_members, IsMet}
use Rattle.wire_core.specs.Met.{brings_with, brings_at, stored_at}
use Rattle.wire_core.specs.Looks.{BringNothing, IsLook, AreLooks, stored_or}
use Rattle.wire_core.specs.declared.looks.Look.{Look}

-- the three looks at a fence tell whether it has brought its members' data
pub brings_told : (s : Scripts) (table : FenceTable) (cut : ℕ → ℕ) (p at number node : ℕ) (members : List ℕ) (collect : Bool) → AreFencesOf s table →
    kind_at (plan_of s) p at ≡ Some (Arrive members collect) → (m : IsMet s table (record { proc = p; at = at }) number) → (complete collects reaches : Bool) →
    complete ≡ is_complete (plan_of s) cut m.fence.members m.fence.nth → collects ≡ collects_in (fence_at table number) → reaches ≡ reaches_in table node (fence_at table number) →
    (complete && (collects && reaches)) ≡ brings_at (plan_of s) cut p node at
brings_told s table cut p at number node members collect fences is m complete collects reaches complete_is collects_is reaches_is =
    let plan = plan_of s in
    let fence = m.fence in
    let over = (fences.each number fence m.there).is in
    let its_members : fence.members ≡ set_at s.sets fence.set = ap (λ f. f.members) over in
    let collecting : collects ≡ is_collecting plan fence.members fence.nth =
    collects_is ∙ ap collects_in m.there ∙ ap (λ f. f.collects) over ∙ ap (λ ms. is_collecting plan ms fence.nth) (sym its_members) in
    let reaching : reaches ≡ has_node plan fence.members node =
    reaches_is ∙ ap (reaches_in table node) m.there ∙ fences.nodes fence.set node ∙ ap (λ ms. has_node plan ms node) (sym its_members) in
    let same : fence.members ≡ members = m.members ∙ ap fence_members is in
    (λ i. complete_is i && (collecting i && (sym m.member i && reaching i)))
    ∙ ap (λ j. has_brought plan cut p node fence.members j) (sym m.nth)
    ∙ ap (λ ms. has_brought plan cut p node ms (arrivals plan p ms (suc at))) same
    ∙ ap (brings_with plan cut p node at) (sym is)

-- what an event adds to what was delivered
pub delivered_more : (plan : Plan) (cut : ℕ → ℕ) (p node key n : ℕ) → delivered plan cut p node key (suc n) ≡ cond (brings_at plan cut p node n) (stored plan p key n) (delivered plan cut p node key n)
delivered_more plan cut p node key n = go (kind_at plan p n)
  where
    either : (b : Bool) (here before : Option ℕ) → stored_at_with b here before ≡ cond b here before
    either true here before = refl
    either false here before = refl

    go : (o : Option Kind) → delivered_with plan cut p node key n (delivered plan cut p node key n) o ≡ cond (brings_with plan cut p node n o) (stored plan p key n) (delivered plan cut p node key n)
    go (Some (Arrive members collect)) = either (has_brought plan cut p node members (arrivals plan p members (suc n))) (stored plan p key n) (delivered plan cut p node key n)
    go _ = refl

-- an arrival that isn't done has brought nothing
pub later_brings_nothing : (plan : Plan) (cut : ℕ → ℕ) (p node n : ℕ) → cut p ≤ n → brings_at plan cut p node n ≡ false
later_brings_nothing plan cut p node n late = go (kind_at plan p n) refl
  where
    go : (o : Option Kind) → kind_at plan p n ≡ o → brings_with plan cut p node n o ≡ false
    go (Some (Arrive members collect)) is = false_from_ne_true _ (λ h.
        let parts = and_parts _ _ h in
        let more = and_parts _ _ (and_parts _ _ parts.1).1 in
        let there = leb-true _ _ (list_all_at_member _ members p parts.0 more.0) in
        let next = arrivals_step plan p members collect n is in
        let up = arrivals_rise plan p members (cut p) n late in
        omega (arith, there, next, up))
    go _ is = refl

-- so all is told by the events that are done
pub delivered_done : (plan : Plan) (cut : ℕ → ℕ) (p node key n : ℕ) → cut p ≤ n → delivered plan cut p node key n ≡ delivered plan cut p node key (cut p)
delivered_done plan cut p node key zero late = let same : 0 ≡ cut p = omega (arith, late) in ap (delivered plan cut p node key) same
delivered_done plan cut p node key (suc n) late = step (delivered_done plan cut p node key n)
  where
    step : (cut p ≤ n → delivered plan cut p node key n ≡ delivered plan cut p node key (cut p)) → delivered plan cut p node key (suc n) ≡ delivered plan cut p node key (cut p)
    step before = elim (cases_lt n (cut p)) [
      | inl lt ↦ let same : suc n ≡ cut p = omega (arith, lt, late) in ap (delivered plan cut p node key) same
      | inr ge ↦
          delivered_more plan cut p node key n
          ∙ ap (λ b. cond b (stored plan p key n) (delivered plan cut p node key n)) (later_brings_nothing plan cut p node n ge)
          ∙ before ge
    ]

-- an arrival at a fence that doesn't collect, or doesn't reach the node, brings nothing to it in any cut
pub may_not : (s : Scripts) (table : FenceTable) (p at number node : ℕ) (members : List ℕ) (collect : Bool) → AreFencesOf s table → kind_at (plan_of s) p at ≡ Some (Arrive members collect) →
    IsMet s table (record { proc = p; at = at }) number → (collects_in (fence_at table number) && reaches_in table node (fence_at table number)) ≡ false → (cut : ℕ → ℕ) →
    brings_at (plan_of s) cut p node at ≡ false
may_not s table p at number node members collect fences is m none cut =
    let complete = is_complete (plan_of s) cut m.fence.members m.fence.nth in
    sym (brings_told s table cut p at number node members collect fences is m complete (collects_in (fence_at table number)) (reaches_in table node (fence_at table number)) refl refl refl)
    ∙ ap (λ b. complete && b) none
    ∙ and-false complete

-- where no event brings anything, what was delivered stays
pub delivered_idle : (plan : Plan) (cut : ℕ → ℕ) (p node key from to : ℕ) → ((n : ℕ) → from ≤ n → n < to → brings_at plan cut p node n ≡ false) → from ≤ to →
    delivered plan cut p node key to ≡ delivered plan cut p node key from
delivered_idle plan cut p node key from zero none le = let same : 0 ≡ from = omega (arith, le) in ap (delivered plan cut p node key) same
delivered_idle plan cut p node key from (suc to) none le = step (delivered_idle plan cut p node key from to (λ n ge lt. none n ge (omega (arith, lt))))
  where
    step : (from ≤ to → delivered plan cut p node key to ≡ delivered plan cut p node key from) → delivered plan cut p node key (suc to) ≡ delivered plan cut p node key from
    step before = elim (cases_lt to from) [
      | inl lt ↦ let same : suc to ≡ from = omega (arith, lt, le) in ap (delivered plan cut p node key) same
      | inr ge ↦
          delivered_more plan cut p node key to
          ∙ ap (λ b. cond b (stored plan p key to) (delivered plan cut p node key to)) (none to ge (omega arith))
          ∙ before ge
    ]

pub delivered_still : (plan : Plan) (cut : ℕ → ℕ) (p node key from to : ℕ) → BringNothing plan p node from to → from ≤ to → delivered plan cut p node key to ≡ delivered plan cut p node key from
delivered_still plan cut p node key from to none le = delivered_idle plan cut p node key from to (λ n ge lt. none n ge lt cut) le

-- a look with no event
pub look_none : (plan : Plan) (look : Look) → look.seen ≡ 0 → look.last ≡ 0 → look.before ≡ 0 → IsLook plan look
look_none plan look seen last before = record {
  last_seen = omega (arith, last);
  before_last = omega (arith, before);
  after = λ n ge lt cut. absurd (omega (arith, seen, lt));
  between = λ n ge lt cut. absurd (omega (arith, last, lt));
}

-- with one event more, which may bring something
pub look_found : (plan : Plan) (look : Look) → IsLook plan look → IsLook plan (record { owner = look.owner; node = look.node; seen = look.seen + 1; last = look.seen + 1; before = look.last })
look_found plan look is = record {
  last_seen = omega arith;
  before_last = let le = is.last_seen in omega (arith, le);
  after = λ n ge lt cut. absurd (omega (arith, ge, lt));
  between = λ n ge lt cut. is.after n ge (omega (arith, lt)) cut;
}

-- with one event more, which brings nothing
pub look_passed : (plan : Plan) (look : Look) → IsLook plan look → ((cut : ℕ → ℕ) → brings_at plan cut look.owner.number look.node look.seen ≡ false) →
    IsLook plan (record { owner = look.owner; node = look.node; seen = look.seen + 1; last = look.last; before = look.before })
look_passed plan look is none = record {
  last_seen = let le = is.last_seen in omega (arith, le);
  before_last = is.before_last;
  after = λ n ge lt cut. elim (cases_lt n look.seen) [
    | inl low ↦ is.after n ge low cut
    | inr high ↦ let same : look.seen ≡ n = omega (arith, lt, high) in ap (brings_at plan cut look.owner.number look.node) (sym same) ∙ none cut
  ];
  between = is.between;
}

pub or_nothing : (plan : Plan) (p key : ℕ) (o : Option ℕ) → stored_or plan p key o None ≡ stored_at plan p key o
or_nothing plan p key None = refl
or_nothing plan p key (Some n) = refl

pub put_look : (plan : Plan) (looks : List Look) (i : ℕ) (look : Look) → AreLooks plan looks → IsLook plan look → AreLooks plan (slice_set looks i look)
put_look plan looks i look are is = λ k l at. elim (get_set looks i look k l at) [
  | inl same ↦ subst (IsLook plan) (sym same.1) is
  | inr other ↦ are k l other.1
]

-- of which process and node it is
pub look_of : (plan : Plan) (look : Look) (owner : Proc) (node : ℕ) → IsLook plan look → look.owner ≡ owner → look.node ≡ node → BringNothing plan owner.number node look.last look.seen
    × BringNothing plan owner.number node look.before (look.last - 1)
look_of plan look owner node is own there = (
  subst (λ (o : Proc). BringNothing plan o.number node look.last look.seen) own (subst (λ n. BringNothing plan look.owner.number n look.last look.seen) there is.after),
  subst (λ (o : Proc). BringNothing plan o.number node look.before (look.last - 1)) own (subst (λ n. BringNothing plan look.owner.number n look.before (look.last - 1)) there is.between),
)

-- no more events are done than there are
pub done_within : (plan : Plan) (w : List ℕ) (p : ℕ) → IsInterleaving plan start w → (run plan w).done p ≤ event_count plan p
done_within plan w p legal = (reachable_sound plan (run plan w) (w, legal, refl)).within p

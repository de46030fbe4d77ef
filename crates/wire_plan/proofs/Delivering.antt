-- Which arrivals bring data, and a key, to a node.
use Rattle.std.proofs.Common.{◌≡◌, ◌∙◌, ap, sym, subst, refl, ℕ, suc, ◌<◌, ◌≤◌, ◌↔◌, List, Bool, true, ◌&&◌, Option, Some, None, option_map, arith, inl, inr}
use Rattle.std.proofs.lemmas.Bool.{cases_lt, cases_eq, and_parts, and_from}
use Rattle.wire_runs.specs.Plan.{Plan, Event, Arrive, kind_at}
use Rattle.wire_runs.specs.Fences.{arrivals, is_full, is_collecting, has_node}
use Rattle.wire_types.specs.declared.Event.{Event as CodeEvent}
use Rattle.wire_runs.specs.Puts.{own, stored, stored_with}
use Rattle.wire_scripts.specs.Scripts.{Scripts, set_at}
use Rattle.wire_scripts.specs.Planned.{plan_of}
use Rattle.wire_fence.specs.FenceTable.{FenceTable, AreFencesOf, fence_at, fence_over, full_in, collects_in, reaches_in}
use Rattle.wire_runs.specs.Order.{IsArrival}
use Rattle.wire_plan.specs.Index.{BringsData, IsDelivering, IsNextDelivery, IsSent}
use Rattle.wire_plan.specs.Bringing.{BringsTo, IsBringingFrom, IsFirstFrom}
use Rattle.wire_plan.specs.Meetings.{IsMet, fence_members}
use Rattle.wire_runs.proofs.Basics.{arrivals_step, arrivals_rise}

abbrev pub here : ℕ → ℕ → Event
here p at = record { proc = p; at = at }

-- a process arrives at a fence once
earlier_arrival : (plan : Plan) (p a b : ℕ) (members : List ℕ) (j : ℕ) → IsArrival plan members j (here p a) → IsArrival plan members j (here p b) → a < b → ⊥
earlier_arrival plan p a b members j first second lt =
    let rise = arrivals_rise plan p members (suc a) b lt in
    let step = arrivals_step plan p members second.collect b second.is in
    let one = first.nth in
    let two = second.nth in
    omega (arith, rise, step, one, two)

arrives_once : (plan : Plan) (p a b : ℕ) (members : List ℕ) (j : ℕ) → IsArrival plan members j (here p a) → IsArrival plan members j (here p b) → a ≡ b
arrives_once plan p a b members j first second = elim (cases_lt a b) [
  | inl lt ↦ absurd (earlier_arrival plan p a b members j first second lt)
  | inr ge ↦ elim (cases_lt b a) [
    | inl lt ↦ absurd (earlier_arrival plan p b a members j second first lt)
    | inr le ↦ omega (arith, ge, le)
  ]
]

-- what a delivering arrival brings was stored before it
pub sent_there : (plan : Plan) (p key node at : ℕ) → IsDelivering plan p key node at → IsSent plan p key at
sent_there plan p key node at d =
    let same = arrives_once plan p d.brings.away.at at d.members d.j d.brings.away.arrival d.arrival in
    record { put = d.brings.away.put; committed = subst (λ n. stored plan p key n ≡ Some d.brings.away.put) same d.brings.away.committed; admitted = d.brings.away.admitted }

-- a delivering arrival brings data to the node
pub brings_there : (plan : Plan) (p key node at : ℕ) → IsDelivering plan p key node at → BringsTo plan node (here p at)
brings_there plan p key node at d = record {
  brings = record { members = d.members; j = d.j; arrival = d.arrival; full = d.brings.away.full; collecting = d.brings.away.collecting };
  reaches = d.brings.reaches;
}

-- and an arrival that brings data brings what was stored before it
pub delivers_there : (plan : Plan) (p key node at : ℕ) → BringsTo plan node (here p at) → IsSent plan p key at → IsDelivering plan p key node at
delivers_there plan p key node at b sent = record {
  members = b.brings.members;
  j = b.brings.j;
  arrival = b.brings.arrival;
  brings = record {
    away = record {
      full = b.brings.full;
      collecting = b.brings.collecting;
      member = b.brings.arrival.member;
      at = at;
      put = sent.put;
      arrival = b.brings.arrival;
      committed = sent.committed;
      admitted = sent.admitted;
    };
    reaches = b.reaches;
  };
}

-- an arrival stores nothing
arrival_stores_nothing : (plan : Plan) (p key at : ℕ) (members : List ℕ) (collect : Bool) → kind_at plan p at ≡ Some (Arrive members collect) → IsSent plan p key (suc at) → IsSent plan p key at
arrival_stores_nothing plan p key at members collect is sent = record {
  put = sent.put;
  committed = sym (ap (stored_with (own plan p key at) (stored plan p key at)) is) ∙ sent.committed;
  admitted = sent.admitted;
}

module _ (plan : Plan) (p key node from c start : ℕ) (sent : (at : ℕ) → IsSent plan p key at ↔ c < at) (first : from ≤ start) (second : c ≤ start) where
  -- so what is first stored at an event isn't stored by an arrival
  later : (at : ℕ) → start ≤ at → BringsTo plan node (here p at) → IsDelivering plan p key node at
  later at le b = delivers_there plan p key node at b ((sent at).1 (elim (cases_eq c at) [
    | inl same ↦
        let is = subst (λ n. kind_at plan p n ≡ Some (Arrive b.brings.members b.brings.arrival.collect)) (sym same) b.brings.arrival.is in
        let before = (sent c).0 (arrival_stores_nothing plan p key c b.brings.members b.brings.arrival.collect is ((sent (suc c)).1 (omega arith))) in
        absurd (omega (arith, before))
    | inr other ↦ omega (arith, le, second, other)
  ]))

  -- a delivery comes after the commit
  not_lower : ((n : ℕ) → from ≤ n → c ≤ n → start ≤ n) → (at : ℕ) → from ≤ at → IsDelivering plan p key node at → IsBringingFrom plan p node start (here p at)
  not_lower least at le d =
      let lt = (sent at).0 (sent_there plan p key node at d) in
      record { proc = refl; from_there = least at le (omega (arith, lt)); brings = brings_there plan p key node at d }

  -- the first arrival that brings data to the node from the commit on delivers, and none does before
  pub next_found : ((n : ℕ) → from ≤ n → c ≤ n → start ≤ n) → (found : Option CodeEvent) → IsFirstFrom plan p node start found →
      IsNextDelivery plan p key node from (option_map (λ (e : CodeEvent). e.at) found)
  next_found least None none = λ at le d. none (here p at) (not_lower least at le d)
  next_found least (Some e) f =
      let a = f.0 in
      let above = a.from_there in (
        omega (arith, first, above),
        later e.at above (subst (λ q. BringsTo plan node (here q e.at)) a.proc a.brings),
        λ other le lt d. let no = f.1 (here p other) (not_lower least other le d) in omega (arith, no, lt),
      )

-- p's event number `at` is its arrival at the fence of this number in the table
module _ (s : Scripts) (table : FenceTable) (fences : AreFencesOf s table) (p at number node : ℕ) (members : List ℕ) (collect : Bool) (is : kind_at (plan_of s) p at ≡ Some (Arrive members collect))
    (m : IsMet s table (here p at) number) where
  over : m.fence ≡ fence_over s m.fence.set m.fence.nth
  over = (fences.each number m.fence m.there).is

  its_set : set_at s.sets m.fence.set ≡ m.fence.members
  its_set = sym (ap (λ f. f.members) over)

  full_is : full_in (fence_at table number) ≡ is_full (plan_of s) m.fence.members m.fence.nth
  full_is = ap full_in m.there ∙ ap (λ f. f.full) over ∙ ap (λ ms. is_full (plan_of s) ms m.fence.nth) its_set

  collects_is : collects_in (fence_at table number) ≡ is_collecting (plan_of s) m.fence.members m.fence.nth
  collects_is = ap collects_in m.there ∙ ap (λ f. f.collects) over ∙ ap (λ ms. is_collecting (plan_of s) ms m.fence.nth) its_set

  reaches_is : reaches_in table node (fence_at table number) ≡ has_node (plan_of s) m.fence.members node
  reaches_is = ap (reaches_in table node) m.there ∙ fences.nodes m.fence.set node ∙ ap (λ ms. has_node (plan_of s) ms node) its_set

  its_members : m.fence.members ≡ members
  its_members = m.members ∙ ap fence_members is

  arrives : IsArrival (plan_of s) m.fence.members m.fence.nth (here p at)
  arrives = record {
    collect = collect;
    is = is ∙ ap (λ ms. Some (Arrive ms collect)) (sym its_members);
    member = m.member;
    nth = m.nth;
  }

  -- whether it brings data is what the table tells of its fence
  pub where_bringing : (full_in (fence_at table number) && collects_in (fence_at table number)) ≡ true → BringsData (plan_of s) (here p at)
  where_bringing told =
      let both = and_parts (full_in (fence_at table number)) _ told in
      record {
        members = m.fence.members;
        j = m.fence.nth;
        arrival = arrives;
        full = sym full_is ∙ both.0;
        collecting = sym collects_is ∙ both.1;
      }

  same_members : (others : List ℕ) (c : Bool) → kind_at (plan_of s) p at ≡ Some (Arrive others c) → others ≡ m.fence.members
  same_members others c other = ap fence_members (sym other ∙ is) ∙ sym its_members

  pub bringing_where : BringsData (plan_of s) (here p at) → (full_in (fence_at table number) && collects_in (fence_at table number)) ≡ true
  bringing_where d =
      let ms = same_members d.members d.arrival.collect d.arrival.is in
      let j : d.j ≡ m.fence.nth = sym d.arrival.nth ∙ ap (λ x. arrivals (plan_of s) p x (suc at)) ms ∙ m.nth in
      and_from _ _ (full_is ∙ ap (is_full (plan_of s) m.fence.members) (sym j) ∙ ap (λ x. is_full (plan_of s) x d.j) (sym ms) ∙ d.full)
      (collects_is ∙ ap (is_collecting (plan_of s) m.fence.members) (sym j) ∙ ap (λ x. is_collecting (plan_of s) x d.j) (sym ms) ∙ d.collecting)

  -- and whether it brings it to a node
  pub reached_where : (others : List ℕ) (c : Bool) → kind_at (plan_of s) p at ≡ Some (Arrive others c) → reaches_in table node (fence_at table number) ≡ has_node (plan_of s) others node
  reached_where others c other = reaches_is ∙ ap (λ x. has_node (plan_of s) x node) (sym (same_members others c other))

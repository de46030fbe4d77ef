-- No pass takes more pieces than its round has.
use Rattle.std.proofs.Common.{◌≡◌, inl, inr, ℕ, zero, suc, ◌+◌, ◌<◌, ◌≤◌, List, [], ◌∷◌, length, set, sym, ap, ◌∙◌, subst, arith, length-append}
use Rattle.std.proofs.lemmas.Bool.{cases_lt}
use Rattle.std.proofs.lemmas.List.{length-map}
use mathlib.Core.Option.{some, some-ne-none, some-injective}
use lib.ListN.{get_elem?}
use Rattle.crossbeam_deque.specs.Handles as deque
use Rattle.wire_rounds.specs.declared.rule.Piece.{Piece}
use Rattle.wire_rounds.specs.declared.rule.DequeView.{DequeView}
use Rattle.wire_rounds.specs.declared.round.StealRound.{StealRound}
use Rattle.wire_rounds.specs.declared.round.Pass.{Pass}
use Rattle.wire_rounds.specs.Views.{Takes, TookWithin}
use Rattle.wire_rounds.specs.Rules.{weigh}
use Rattle.wire_rounds.specs.Shares.{deal_of, share_of}
use Rattle.wire_rounds.specs.Rounds.{Permit, IsPassOf, workers_of, worker_of, share_at, own_view, permit_views, TookOwn, TookAt, TookNone}
use Rattle.wire_rounds.specs.Taken.{all_of, taken_by, taken_at, TookNoMore, TookOneMore, TakesAreBounded}
use Rattle.wire_rounds.proofs.Deals.{weigh_ones}
use Rattle.wire_rounds.proofs.EachOnce.{sum_to, by_place}
use Rattle.wire_rounds.proofs.Rows.{get_there, taken_there}
use Rattle.wire_rounds.proofs.Sharing.{shares, shares_zero, shares_suc, shares_all, length_deal}

pub within_nothing : (v : DequeView) → v.taken ≡ [] → v.below ≡ 0 → TookWithin v
within_nothing v none start =
    let e : length v.taken ≡ 0 = ap length none in
    (omega (arith, e, start), omega (arith, start))

pub within_more : (v w : DequeView) (x : Piece) → Takes v (x ∷ []) w → TookWithin v → TookWithin w
within_more v w x t h =
    let past = t.2 in
    let inside = t.4 in
    let before = h.0 in
    subst TookWithin (sym t.5) (omega (arith, length-append v.taken (x ∷ []), past, before), omega (arith, inside))

takes_one : (v w : DequeView) (x : Piece) → Takes v (x ∷ []) w → length w.taken ≡ length v.taken + 1
takes_one v w x t = ap (λ (y : DequeView). length y.taken) t.5 ∙ length-append v.taken (x ∷ [])

-- where one hand has one piece more, all of them have
one_more : (vs : List DequeView) (k : ℕ) (v w : DequeView) → get_elem? vs k ≡ some v → length w.taken ≡ length v.taken + 1 → length (all_of (set vs k w)) ≡ length (all_of vs) + 1
one_more [] k v w at more = absurd (some-ne-none v (sym at))
one_more (u ∷ vs) zero v w at more =
    let same : length u.taken ≡ length v.taken = ap (λ (y : DequeView). length y.taken) (some-injective u v at) in
    omega (arith, same, more, length-append w.taken (all_of vs), length-append u.taken (all_of vs))
one_more (u ∷ vs) (suc k) v w at more = omega (arith, one_more vs k v w at more, length-append u.taken (all_of (set vs k w)), length-append u.taken (all_of vs))

length_by : (p : Pass) → length (taken_by p) ≡ length (own_view p).taken + length (all_of (permit_views p))
length_by p = length-append (own_view p).taken (all_of (permit_views p))

pub took_own : (old new : Pass) (x : Piece) → TookOwn old new x → TookOneMore old new
took_own old new x t =
    let more = takes_one (own_view old) (own_view new) x t.0 in
    let same : length (all_of (permit_views new)) ≡ length (all_of (permit_views old)) = ap (λ vs. length (all_of vs)) t.1 in
    omega (arith, more, same, length_by old, length_by new)

pub took_at : (k : ℕ) (old new : Pass) (x : Piece) → TookAt k old new x → TookOneMore old new
took_at k old new x t =
    let more = one_more (permit_views old) k t.0 t.1 t.2 (takes_one t.0 t.1 x t.3) in
    let after : length (all_of (permit_views new)) ≡ length (all_of (set (permit_views old) k t.1)) = ap (λ vs. length (all_of vs)) t.4 in
    let own : length (own_view new).taken ≡ length (own_view old).taken = ap (λ (v : DequeView). length v.taken) t.5 in
    omega (arith, more, after, own, length_by old, length_by new)

pub took_none : (old new : Pass) → TookNone old new → TookNoMore old new
took_none old new t =
    let own : length (own_view new).taken ≡ length (own_view old).taken = ap (λ (v : DequeView). length v.taken) t.0 in
    let same : length (all_of (permit_views new)) ≡ length (all_of (permit_views old)) = ap (λ vs. length (all_of vs)) t.1 in
    omega (arith, own, same, length_by old, length_by new)

-- the first m deques, of which one is the worker's own: no more was taken of them than was dealt to them
within_shares : (own w m workers round n : ℕ) (vs : List DequeView) → ((k : ℕ) → k < m → length (taken_at k vs) ≤ length (share_of k workers round n)) → length (taken_at w vs) ≡ 0
    → own ≤ length (share_of w workers round n)
    → (m ≤ w → sum_to (λ k. weigh (λ _. 1) (taken_at k vs)) m ≤ shares (λ _. 1) m workers round n)
    × (w < m → own + sum_to (λ k. weigh (λ _. 1) (taken_at k vs)) m ≤ shares (λ _. 1) m workers round n)
within_shares own w zero workers round n vs each none mine = (λ _. omega (arith, shares_zero (λ _. 1) workers round n), λ less. absurd (omega arith))
within_shares own w (suc m) workers round n vs each none mine =
    let before = within_shares own w m workers round n vs (λ k less. each k (omega arith)) none mine in
    let next = each m (omega arith) in
    let took = weigh_ones (taken_at m vs) in
    let dealt = weigh_ones (share_of m workers round n) in
    let more = shares_suc (λ _. 1) m workers round n in (
      (λ less. let sum = before.0 (omega arith) in omega (arith, sum, next, took, dealt, more)),
      λ less. elim (cases_lt w m) [
        | inl past ↦ (let sum = before.1 past in omega (arith, sum, next, took, dealt, more))
        | inr here ↦
            let same : m ≡ w = omega arith in
            let sum = before.0 (omega arith) in
            let nothing : length (taken_at m vs) ≡ 0 = ap (λ k. length (taken_at k vs)) same ∙ none in
            let share : length (share_of m workers round n) ≡ length (share_of w workers round n) = ap (λ k. length (share_of k workers round n)) same in
            omega (arith, sum, nothing, share, mine, took, dealt, more)
      ],
    )

within_at : (r : StealRound) (p : Pass) → IsPassOf r p → (k : ℕ) → k < workers_of r → length (taken_at k (permit_views p)) ≤ length (share_at r k)
within_at r p is k less =
    let t = get_there p.permits.items k (omega (arith, is.count)) in
    let s = get_there r.thieves.items k less in
    let permit = is.permits k s.0 t.0 s.1 t.1 in
    let dealt : length (deque.view t.0).dealt ≡ length (share_at r k) = ap length permit.2 in
    let took : length (taken_at k (permit_views p)) ≡ length (deque.view t.0).taken = ap length (taken_there p.permits.items k t.0 t.1) in
    let within = permit.4.0 in
    let below = permit.4.1 in
    omega (arith, dealt, took, within, below)

pub takes_are_bounded : TakesAreBounded
takes_are_bounded r p is =
    let t = get_there p.permits.items (worker_of p) (omega (arith, is.count, is.within)) in
    let none : length (taken_at (worker_of p) (permit_views p)) ≡ 0 = ap length (taken_there p.permits.items (worker_of p) t.0 t.1 ∙ is.unused t.0 t.1) in
    let dealt : length (own_view p).dealt ≡ length (share_at r (worker_of p)) = ap length is.dealt in
    let within = is.bounded.0 in
    let below = is.bounded.1 in
    let sum = (within_shares (length (own_view p).taken) (worker_of p) (workers_of r) (workers_of r) r.round r.ranks (permit_views p)
    (within_at r p is) none (omega (arith, dealt, within, below))).1 is.within in
    let places : sum_to (λ k. weigh (λ _. 1) (taken_at k (permit_views p))) (workers_of r) ≡ weigh (λ _. 1) (all_of (permit_views p)) =
    subst (λ m. sum_to (λ k. weigh (λ _. 1) (taken_at k (permit_views p))) m ≡ weigh (λ _. 1) (all_of (permit_views p)))
    (length-map p.permits.items (λ (u : Permit). deque.view u) ∙ is.count) (by_place (λ _. 1) (permit_views p)) in
    let all = shares_all (λ _. 1) (workers_of r) r.round r.ranks (omega (arith, is.within)) in
    omega (arith, sum, places, all, weigh_ones (deal_of r.round r.ranks), length_deal r.round r.ranks, weigh_ones (all_of (permit_views p)), length_by p)

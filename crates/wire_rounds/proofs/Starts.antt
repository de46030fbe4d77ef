-- How the passes of a round come about.
use Rattle.std.proofs.Common.{◌≡◌, ◌≢◌, ℕ, suc, ◌+◌, ◌-◌, ◌<◌, ◌^◌, List, [], ◌∷◌, ◌++◌, length, map, set, sym, refl, ap, ◌∙◌, subst, ⊎_elim, arith, length-set, length-append}
use mathlib.Core.Option.{some}
use lib.ListN.{get_elem?}
use Rattle.crossbeam_deque.specs.Handles as deque
use Rattle.crossbeam_deque.proofs.Lists.{at_set}
use Rattle.wire_rounds.specs.declared.rule.DequeView.{DequeView}
use Rattle.wire_rounds.specs.declared.round.StealRound.{StealRound}
use Rattle.wire_rounds.specs.declared.round.Pass.{Pass}
use Rattle.wire_rounds.specs.Views.{deque_view, all_parts}
use Rattle.wire_rounds.specs.Shares.{share_of}
use Rattle.wire_rounds.specs.Rounds.{Thief, Permit, ArePassesOf, workers_of, worker_of, own_view, permit_views}
use Rattle.wire_rounds.specs.Taken.{all_of, taken_by, taken_by_all}
use Rattle.wire_rounds.specs.Deques.{EachPair, SameDeque, GaveOne, IsPermitOf, IsStart, Made, Cutting}
use Rattle.wire_rounds.proofs.Rows.{get_snoc, get_within, get_there, get_same}
use Rattle.wire_rounds.proofs.Rising.{rises_nothing}
use Rattle.wire_rounds.proofs.Bounds.{within_nothing}

pub made_more : (round ranks workers : ℕ) (passes : List Pass) (thieves : List Thief) (n : ℕ) (p : Pass) (s : Thief) → Made round ranks workers passes thieves n →
    IsStart (share_of n workers round ranks) n p s
    → Made round ranks workers (passes ++ p ∷ []) (thieves ++ s ∷ []) (n + 1)
made_more round ranks workers passes thieves n p s h new = record {
  passes_so_far = length-append passes (p ∷ []) ∙ ap (λ m. m + 1) h.passes_so_far;
  thieves_so_far = length-append thieves (s ∷ []) ∙ ap (λ m. m + 1) h.thieves_so_far;
  start = λ k q u x y.
      ⊎_elim (λ old.
      let w = get_within passes k q old in
      ⊎_elim (λ old'. h.start k q u old old') (λ (is : (k ≡ length thieves) × (s ≡ u)). absurd (omega (arith, h.passes_so_far, h.thieves_so_far, is.0))) (get_snoc thieves s u k y))
      (λ (is : (k ≡ length passes) × (p ≡ q)).
      ⊎_elim (λ old'. let w = get_within thieves k u old' in absurd (omega (arith, h.passes_so_far, h.thieves_so_far, is.0)))
      (λ (is' : (k ≡ length thieves) × (s ≡ u)).
      let k_is : n ≡ k = sym (is.0 ∙ h.passes_so_far) in
      subst (λ j. IsStart (share_of j workers round ranks) j q u) k_is
      (subst (λ z. IsStart (share_of n workers round ranks) n z u) is.1 (subst (IsStart (share_of n workers round ranks) n p) is'.1 new))) (get_snoc thieves s u k y)) (get_snoc passes p q k x);
}

-- a permit of a deque is one however many were cut before
permit_kept : (first now : List Pass) (n : ℕ) (ts : List Permit) → Cutting first now n → EachPair (λ p t. IsPermitOf p.own t) now ts → EachPair (λ p t. IsPermitOf p.own t) first ts
permit_kept first now n ts h each = (
  sym h.same_length ∙ each.0,
  λ k a t x y.
      let w = get_within first k a x in
      let there = get_there now k (omega (arith, h.same_length)) in
      let b = there.0 in
      let is : IsPermitOf b.own t = each.1 k b t there.1 y in
      let same = h.same k a b x there.1 in
      let dealt : (deque.worker_view b.own).dealt ≡ (deque.worker_view a.own).dealt = ap (λ (v : DequeView). v.dealt) (h.views k a b x there.1) in
      ((is.0.0 ∙ ap (λ q. q.0) same.1.0, is.0.1 ∙ ap (λ q. q.1) same.1.0, is.0.2, is.0.3), is.1 ∙ ap (λ d. deque_view 1 0 d []) dealt),
)

pub cutting_more : (first now next : List Pass) (n : ℕ) (p q : Pass) → Cutting first now n → EachPair GaveOne now next → EachPair (λ p t. IsPermitOf p.own t) now q.permits.items
    → get_elem? next n ≡ some p → q.worker ≡ p.worker → q.own ≡ p.own → Cutting first (set next n q) (n + 1)
cutting_more first now next n p q h cut row at w o = record {
  same_length = length-set next n q ∙ (sym cut.0 ∙ h.same_length);
  same = λ k a b x y.
      ⊎_elim (λ (is : (k ≡ n) × (q ≡ b)). subst (λ z. (z.worker ≡ a.worker) × SameDeque a.own z.own) is.1
      (subst (λ z. (q.worker ≡ a.worker) × SameDeque a.own z) (sym o)
      (subst (λ z. (z ≡ a.worker) × SameDeque a.own p.own) (sym w) (old_same k a p x (subst (λ j. get_elem? next j ≡ some p) (sym is.0) at)))))
      (λ (is : (k ≢ n) × (get_elem? next k ≡ some b)). old_same k a b x is.1) (at_set next n k q b y);
  views = λ k a b x y.
      ⊎_elim (λ (is : (k ≡ n) × (q ≡ b)). subst (λ z. deque.worker_view z.own ≡ deque_view (all_parts - (n + 1)) 0 (deque.worker_view a.own).dealt []) is.1
      (subst (λ z. deque.worker_view z ≡ deque_view (all_parts - (n + 1)) 0 (deque.worker_view a.own).dealt []) (sym o) (old_view k a p x (subst (λ j. get_elem? next j ≡ some p) (sym is.0) at))))
      (λ (is : (k ≢ n) × (get_elem? next k ≡ some b)). old_view k a b x is.1) (at_set next n k q b y);
  permits = λ k b y less.
      ⊎_elim (λ (is : (k ≡ n) × (q ≡ b)). subst (λ z. EachPair (λ p t. IsPermitOf p.own t) first z.permits.items) is.1 (permit_kept first now n q.permits.items h row))
      (λ (is : (k ≢ n) × (get_elem? next k ≡ some b)).
      let old = before k b is.1 in
      let ne = is.0 in
      subst (λ z. EachPair (λ p t. IsPermitOf p.own t) first z.items) (sym (cut.1 k old.0 b old.1 is.1).2) (h.permits k old.0 old.1 (omega arith))) (at_set next n k q b y);
}
  where
    before : (k : ℕ) (b : Pass) → get_elem? next k ≡ some b → (c : Pass) × (get_elem? now k ≡ some c)
    before k b y = let v = get_within next k b y in get_there now k (omega (arith, cut.0))

    old_same : (k : ℕ) (a b : Pass) → get_elem? first k ≡ some a → get_elem? next k ≡ some b → (b.worker ≡ a.worker) × SameDeque a.own b.own
    old_same k a b x y =
        let old = before k b y in
        let c = cut.1 k old.0 b old.1 y in
        let s = h.same k a old.0 x old.1 in
        (c.0 ∙ s.0, (c.1.0 ∙ s.1.0, c.1.1 ∙ s.1.1))

    old_view : (k : ℕ) (a b : Pass) → get_elem? first k ≡ some a → get_elem? next k ≡ some b → deque.worker_view b.own ≡ deque_view (all_parts - (n + 1)) 0 (deque.worker_view a.own).dealt []
    old_view k a b x y =
        let old = before k b y in
        let v = h.views k a old.0 x old.1 in
        let less : (all_parts - n) - 1 ≡ all_parts - (n + 1) = omega arith in
        (cut.1 k old.0 b old.1 y).3 ∙ (ap (λ (u : DequeView). deque_view (u.parts - 1) u.below u.dealt u.taken) v ∙ ap (λ m. deque_view m 0 (deque.worker_view a.own).dealt []) less)

pub cutting_nothing : (round ranks workers : ℕ) (passes : List Pass) (thieves : List Thief) (n : ℕ) → Made round ranks workers passes thieves n → Cutting passes passes 0
cutting_nothing round ranks workers passes thieves n h = record {
  same_length = refl;
  same = λ k a b x y. let is : b ≡ a = same_here k a b x y in (ap (λ z. z.worker) is, (ap (λ z. deque.worker_deque z.own) is, ap (λ z. deque.worker_flavor z.own) is));
  views = λ k a b x y.
      let is : b ≡ a = same_here k a b x y in
      let w = get_within passes k a x in
      let there = get_there thieves k (omega (arith, h.passes_so_far, h.thieves_so_far)) in
      let v = (h.start k a there.0 x there.1).1.1 in
      ap (λ z. deque.worker_view z.own) is ∙ (v ∙ ap (λ (u : DequeView). deque_view all_parts 0 u.dealt []) (sym v));
  permits = λ k b y less. absurd (omega arith);
}
  where
    same_here : (k : ℕ) (a b : Pass) → get_elem? passes k ≡ some a → get_elem? passes k ≡ some b → b ≡ a
    same_here k a b x y = get_same passes k b a y x

pub cutting_parts : (first now : List Pass) (n : ℕ) → Cutting first now n → n + 1 < 2 ^ 64 → (k : ℕ) (p : Pass) → get_elem? now k ≡ some p → 1 < (own_view p).parts
cutting_parts first now n h few k p at =
    let w = get_within now k p at in
    let there = get_there first k (omega (arith, h.same_length)) in
    let v : (own_view p).parts ≡ all_parts - n = ap (λ (u : DequeView). u.parts) (h.views k there.0 p there.1 at) in
    omega arith

-- nothing was taken with this pass
abbrev TookNothing : Pass → Type 0
TookNothing p = ((own_view p).taken ≡ []) × ((k : ℕ) (t : Permit) → get_elem? p.permits.items k ≡ some t → (deque.view t).taken ≡ [])

dealt_nothing : (first now : List Pass) (n : ℕ) → Cutting first now n → n ≡ length first → (k : ℕ) (p : Pass) → get_elem? now k ≡ some p → TookNothing p
dealt_nothing first now n h all k p at =
    let w = get_within now k p at in
    let there = get_there first k (omega (arith, h.same_length)) in
    let less : k < n = omega (arith, h.same_length) in
    let row = h.permits k p at less in (
      ap (λ (u : DequeView). u.taken) (h.views k there.0 p there.1 at),
      λ j t here.
          let w' = get_within p.permits.items j t here in
          let a = get_there first j (omega (arith, row.0)) in
          ap (λ (u : DequeView). u.taken) (row.1 j a.0 t a.1 here).1,
    )

nothing_by_permits : (ts : List Permit) → ((k : ℕ) (t : Permit) → get_elem? ts k ≡ some t → (deque.view t).taken ≡ []) → all_of (map (λ (t : Permit). deque.view t) ts) ≡ []
nothing_by_permits [] none = refl
nothing_by_permits (t ∷ ts) none =
    ap (λ l. l ++ all_of (map (λ (u : Permit). deque.view u) ts)) (none 0 t refl) ∙ nothing_by_permits ts (λ k u at. none (suc k) u at)

nothing_by : (p : Pass) → TookNothing p → taken_by p ≡ []
nothing_by p none = ap (λ l. l ++ all_of (permit_views p)) none.0 ∙ nothing_by_permits p.permits.items none.1

nothing_by_all : (ps : List Pass) → ((k : ℕ) (p : Pass) → get_elem? ps k ≡ some p → TookNothing p) → taken_by_all ps ≡ []
nothing_by_all [] none = refl
nothing_by_all (p ∷ ps) none = ap (λ l. l ++ taken_by_all ps) (nothing_by p (none 0 p refl)) ∙ nothing_by_all ps (λ k q at. none (suc k) q at)

pub dealt_fresh : (first now : List Pass) (n : ℕ) → Cutting first now n → n ≡ length first → taken_by_all now ≡ []
dealt_fresh first now n h all = nothing_by_all now (dealt_nothing first now n h all)

pub dealt_passes : (r : StealRound) (first now : List Pass) (n : ℕ) → Made r.round r.ranks (workers_of r) first r.thieves.items n → Cutting first now n → n ≡ workers_of r → workers_of r < 2 ^ 64 →
    ArePassesOf r now
dealt_passes r first now n made h all few = (
  h.same_length ∙ (made.passes_so_far ∙ all),
  λ k p at.
      let w = get_within now k p at in
      let a = get_there first k (omega (arith, h.same_length)) in
      let less : k < n = omega (arith, h.same_length, made.passes_so_far) in
      let s = get_there r.thieves.items k (omega (arith, made.thieves_so_far)) in
      let begin = made.start k a.0 s.0 a.1 s.1 in
      let same = h.same k a.0 p a.1 at in
      let v = h.views k a.0 p a.1 at in
      let dealt : (deque.worker_view a.0.own).dealt ≡ share_of k (workers_of r) r.round r.ranks = ap (λ (u : DequeView). u.dealt) begin.1.1 in
      let k_is : p.worker ≡ k = same.0 ∙ begin.0 in
      let row = h.permits k p at less in (
        k_is,
        record {
          within = omega (arith, k_is, made.thieves_so_far);
          few = few;
          own = λ t here.
              let st : s.0 ≡ t = get_same r.thieves.items k s.0 t s.1 (subst (λ j. get_elem? r.thieves.items j ≡ some t) k_is here) in
              same.1.0 ∙ (sym begin.2 ∙ ap (λ z. deque.stealer_deque z) st);
          fifo = same.1.1 ∙ begin.1.0;
          parts = (let e : (own_view p).parts ≡ all_parts - n = ap (λ (u : DequeView). u.parts) v in omega arith);
          dealt = ap (λ (u : DequeView). u.dealt) v ∙ (dealt ∙ ap (λ j. share_of j (workers_of r) r.round r.ranks) (sym k_is));
          count = sym row.0 ∙ (made.passes_so_far ∙ all);
          rising = rises_nothing (own_view p) (ap (λ (u : DequeView). u.taken) v);
          bounded = within_nothing (own_view p) (ap (λ (u : DequeView). u.taken) v) (ap (λ (u : DequeView). u.below) v);
          permits = λ j t u thief here.
              let w' = get_within p.permits.items j u here in
              let b = get_there first j (omega (arith, row.0)) in
              let from = made.start j b.0 t b.1 thief in
              let is = row.1 j b.0 u b.1 here in (
                (is.0.0 ∙ ap (λ q. q.0) (sym from.2), is.0.1 ∙ ap (λ q. q.1) (sym from.2), is.0.2, is.0.3),
                ap (λ (y : DequeView). y.parts) is.1,
                ap (λ (y : DequeView). y.dealt) is.1 ∙ ap (λ (y : DequeView). y.dealt) from.1.1,
                rises_nothing (deque.view u) (ap (λ (y : DequeView). y.taken) is.1),
                within_nothing (deque.view u) (ap (λ (y : DequeView). y.taken) is.1) (ap (λ (y : DequeView). y.below) is.1),
              );
          unused = (dealt_nothing first now n h (sym made.passes_so_far) k p at).1 (worker_of p);
          fifos = λ j t thief.
              let w' = get_within r.thieves.items j t thief in
              let b = get_there first j (omega (arith, made.passes_so_far, made.thieves_so_far)) in
              (made.start j b.0 t b.1 thief).3;
        },
      ),
)

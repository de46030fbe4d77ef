-- The permits of all passes come back to the workers of their deques.
use Rattle.std.proofs.Common.{◌≡◌, ◌≢◌, ℕ, zero, suc, ◌+◌, ◌<◌, ◌≤◌, List, [], ◌∷◌, ◌++◌, length, set, take, sym, refl, ap, ◌∙◌, subst, ⊎_elim, arith, length-set, length-append, append_assoc}
use Rattle.std.proofs.Common.{append-nil, add-one}
use mathlib.Core.Option.{some, some-ne-none, some-injective}
use lib.ListN.{get_elem?}
use Rattle.crossbeam_deque.specs.Handles as deque
use Rattle.crossbeam_deque.proofs.Lists.{at_set}
use Rattle.wire_rounds.specs.declared.rule.Piece.{Piece}
use Rattle.wire_rounds.specs.declared.rule.DequeView.{DequeView}
use Rattle.wire_rounds.specs.declared.round.Pass.{Pass}
use Rattle.wire_rounds.specs.declared.round.StealRound.{StealRound}
use Rattle.wire_rounds.specs.Views.{deque_view}
use Rattle.wire_rounds.specs.Rules.{joined}
use Rattle.wire_rounds.specs.Rounds.{Owner, Permit, ArePassesOf, own_view, permit_views}
use Rattle.wire_rounds.specs.Taken.{taken_at, stolen}
use Rattle.wire_rounds.specs.Deques.{EachPair, SameDeque, CanTake, TookBack, AreJoined, CanJoinAll, AreGathered}
use Rattle.wire_rounds.proofs.Rows.{get_within, get_there, get_same, get_longer, get_last, taken_there}

-- the permits of the last deques have been joined, and the first ones are left
pub record Rowing (first now : List Pass) (all left : List Permit) : Type 0 where
  pub same_length : length now ≡ length first
  pub fewer : length left ≤ length all
  pub left_is : (k : ℕ) (t : Permit) → get_elem? left k ≡ some t → get_elem? all k ≡ some t
  pub done : (k : ℕ) (a b : Pass) (t : Permit) → length left ≤ k → get_elem? first k ≡ some a → get_elem? all k ≡ some t → get_elem? now k ≡ some b → TookBack a t b
  pub undone : (k : ℕ) (a b : Pass) → k < length left → get_elem? first k ≡ some a → get_elem? now k ≡ some b → b ≡ a

pub rowing_nothing : (first : List Pass) (all : List Permit) → length first ≡ length all → Rowing first first all all
rowing_nothing first all same = record {
  same_length = refl;
  fewer = omega arith;
  left_is = λ k t at. at;
  done = λ k a b t past x _ _. let w = get_within first k a x in absurd (omega (arith, same));
  undone = λ k a b _ x y. get_same first k b a y x;
}

-- what is known of the deque whose permit comes next
pub rowing_next : (first now : List Pass) (all left : List Permit) (t : Permit) (p : Pass) → Rowing first now all (left ++ t ∷ []) → EachPair CanTake first all → get_elem? now (length left) ≡ some p →
    CanTake p t
rowing_next first now all left t p h can at =
    let w = get_within now (length left) p at in
    let a = get_there first (length left) (omega (arith, h.same_length)) in
    let len = length-append left (t ∷ []) in
    let same : p ≡ a.0 = h.undone (length left) a.0 p (omega (arith, len)) a.1 at in
    subst (λ z. CanTake z t) (sym same) (can.1 (length left) a.0 t a.1 (h.left_is (length left) t (get_last left t)))

pub rowing_more : (first now : List Pass) (all left : List Permit) (t : Permit) (p q : Pass) → Rowing first now all (left ++ t ∷ []) → get_elem? now (length left) ≡ some p → TookBack p t q
    → Rowing first (set now (length left) q) all left
rowing_more first now all left t p q h at join = record {
  same_length = length-set now (length left) q ∙ h.same_length;
  fewer = (let f = h.fewer in let l = length-append left (t ∷ []) in omega arith);
  left_is = λ k u here. h.left_is k u (get_longer left (t ∷ []) k u here);
  done = λ k a b u past x y z.
      let len = length-append left (t ∷ []) in
      ⊎_elim (λ (is : (k ≡ length left) × (q ≡ b)).
      let there : get_elem? now k ≡ some p = subst (λ j. get_elem? now j ≡ some p) (sym is.0) at in
      let pa : p ≡ a = h.undone k a p (omega (arith, is.0, len)) x there in
      let tu : t ≡ u = get_same all k t u (h.left_is k t (subst (λ j. get_elem? (left ++ t ∷ []) j ≡ some t) (sym is.0) (get_last left t))) y in
      subst (λ v. TookBack a u v) is.1 (subst (λ v. TookBack a v q) tu (subst (λ v. TookBack v t q) pa join)))
      (λ (is : (k ≢ length left) × (get_elem? now k ≡ some b)). let n = is.0 in h.done k a b u (omega (arith, len)) x y is.1) (at_set now (length left) k q b z);
  undone = λ k a b early x y.
      let len = length-append left (t ∷ []) in
      ⊎_elim (λ (is : (k ≡ length left) × (q ≡ b)). absurd (omega (arith, is.0)))
      (λ (is : (k ≢ length left) × (get_elem? now k ≡ some b)). h.undone k a b (omega (arith, len)) x is.1) (at_set now (length left) k q b y);
}

pub rowing_ends : (first now : List Pass) (all left : List Permit) → Rowing first now all left → length left ≡ 0 → AreJoined first all now
rowing_ends first now all left h none = (h.same_length, λ k a b t x y z. h.done k a b t (omega (arith, none)) x y z)

-- after the permits of the first n passes
pub record Joining (first now : List Pass) (n : ℕ) : Type 0 where
  pub same_length : length now ≡ length first
  pub same : (k : ℕ) (a b : Pass) → get_elem? first k ≡ some a → get_elem? now k ≡ some b → (b.worker ≡ a.worker) × SameDeque a.own b.own
  pub views : (k : ℕ) (a b : Pass) → get_elem? first k ≡ some a → get_elem? now k ≡ some b
      → own_view b ≡ deque_view ((own_view a).parts + n) (own_view a).below (own_view a).dealt ((own_view a).taken ++ stolen k (take n first))
  pub permits : (k : ℕ) (a b : Pass) → get_elem? first k ≡ some a → get_elem? now k ≡ some b → n ≤ k → b.permits ≡ a.permits

with_more : (v : DequeView) (m n : ℕ) (xs ys : List Piece) → m ≡ n → xs ≡ ys → deque_view m v.below v.dealt xs ≡ deque_view n v.below v.dealt ys
with_more v m n xs ys a b = ap (λ k. deque_view k v.below v.dealt xs) a ∙ ap (λ l. deque_view n v.below v.dealt l) b

pub joining_nothing : (first : List Pass) → Joining first first 0
joining_nothing first = record {
  same_length = refl;
  same = λ k a b x y. let is : b ≡ a = get_same first k b a y x in (ap (λ z. z.worker) is, (ap (λ z. deque.worker_deque z.own) is, ap (λ z. deque.worker_flavor z.own) is));
  views = λ k a b x y.
      let is : b ≡ a = get_same first k b a y x in
      ap own_view is ∙ with_more (own_view a) (own_view a).parts ((own_view a).parts + 0) (own_view a).taken ((own_view a).taken ++ []) (omega arith) (sym (append-nil (own_view a).taken));
  permits = λ k a b x y _. ap (λ z. z.permits) (get_same first k b a y x);
}

stolen_suc : (k n : ℕ) (ps : List Pass) (p : Pass) → get_elem? ps n ≡ some p → stolen k (take (suc n) ps) ≡ stolen k (take n ps) ++ taken_at k (permit_views p)
stolen_suc k n [] p at = absurd (some-ne-none p (sym at))
stolen_suc k zero (x ∷ ps) p at = append-nil (taken_at k (permit_views x)) ∙ ap (λ z. taken_at k (permit_views z)) (some-injective x p at)
stolen_suc k (suc n) (x ∷ ps) p at =
    ap (λ l. taken_at k (permit_views x) ++ l) (stolen_suc k n ps p at) ∙ sym (append_assoc (taken_at k (permit_views x)) (stolen k (take n ps)) (taken_at k (permit_views p)))

stolen_more : (k n : ℕ) (ps : List Pass) (p : Pass) → get_elem? ps n ≡ some p → stolen k (take (n + 1) ps) ≡ stolen k (take n ps) ++ taken_at k (permit_views p)
stolen_more k n ps p at = rw add-one (stolen_suc k n ps p at)

-- a pass keeps its deque when its permits are taken from it
mid_is : (now : List Pass) (n : ℕ) (p q : Pass) (k : ℕ) (o m : Pass) → get_elem? now n ≡ some p → q.worker ≡ p.worker → q.own ≡ p.own → get_elem? now k ≡ some o → get_elem? (set now n q) k ≡ some m
    → (m.worker ≡ o.worker) × (m.own ≡ o.own) × (k ≢ n → m.permits ≡ o.permits)
mid_is now n p q k o m at w own x y =
    ⊎_elim (λ (is : (k ≡ n) × (q ≡ m)).
    let po : p ≡ o = get_same now n p o at (subst (λ j. get_elem? now j ≡ some o) is.0 x) in
    (ap (λ z. z.worker) (sym is.1) ∙ (w ∙ ap (λ z. z.worker) po), ap (λ z. z.own) (sym is.1) ∙ (own ∙ ap (λ z. z.own) po), λ ne. absurd (ne is.0)))
    (λ (is : (k ≢ n) × (get_elem? now k ≡ some m)).
    let mo : m ≡ o = get_same now k m o is.1 x in
    (ap (λ z. z.worker) mo, ap (λ z. z.own) mo, λ _. ap (λ z. z.permits) mo)) (at_set now n k q m y)

pub joining_can : (first now : List Pass) (n : ℕ) (p q : Pass) → Joining first now n → CanJoinAll first → get_elem? now n ≡ some p → q.worker ≡ p.worker → q.own ≡ p.own
    → EachPair CanTake (set now n q) p.permits.items
joining_can first now n p q h can at w own =
    let here = get_within now n p at in
    let p0 = get_there first n (omega (arith, h.same_length)) in
    let le : n ≤ n = omega arith in
    let permits = h.permits n p0.0 p p0.1 at le in
    let row = can n p0.0 p0.1 in (
      length-set now n q ∙ (h.same_length ∙ (row.0 ∙ ap (λ z. length z.items) (sym permits))),
      λ k m t x y.
          let inside = get_within (set now n q) k m x in
          let len = length-set now n q in
          let a = get_there first k (omega (arith, h.same_length)) in
          let o = get_there now k (omega arith) in
          let mo = mid_is now n p q k o.0 m at w own o.1 x in
          let take = row.1 k a.0 t a.1 (subst (λ z. get_elem? z.items k ≡ some t) permits y) in
          let same = h.same k a.0 o.0 a.1 o.1 in
          let place : deque.worker_deque m.own ≡ deque.worker_deque a.0.own = ap (λ (z : Owner). deque.worker_deque z) mo.1 ∙ same.1.0 in
          let parts : (own_view m).parts ≡ (own_view a.0).parts + n = ap (λ (z : Owner). (deque.worker_view z).parts) mo.1 ∙ ap (λ (v : DequeView). v.parts) (h.views k a.0 o.0 a.1 o.1) in
          (subst (λ d. deque.IsPassOf d t) (sym place) take.0, take.1, (let z = take.2 in omega arith)),
    )

-- what was stolen grows by what the next pass has
stolen_next : (k n : ℕ) (ps : List Pass) (p : Pass) (t : Permit) (mine : List Piece) → get_elem? ps n ≡ some p → get_elem? p.permits.items k ≡ some t
    → (mine ++ stolen k (take n ps)) ++ (deque.view t).taken ≡ mine ++ stolen k (take (n + 1) ps)
stolen_next k n ps p t mine at here =
    let seen : taken_at k (permit_views p) ≡ (deque.view t).taken = taken_there p.permits.items k t here in
    let more : stolen k (take n ps) ++ (deque.view t).taken ≡ stolen k (take (n + 1) ps) = ap (λ l. stolen k (take n ps) ++ l) (sym seen) ∙ sym (stolen_more k n ps p at) in
    append_assoc mine (stolen k (take n ps)) (deque.view t).taken ∙ ap (λ l. mine ++ l) more

-- a permit with one part joins a worker that has joined n
one_more : (v m w : DequeView) (n : ℕ) (xs ys : List Piece) → m ≡ deque_view (v.parts + n) v.below v.dealt xs → w.parts ≡ 1 → xs ++ w.taken ≡ ys →
    joined m w ≡ deque_view (v.parts + (n + 1)) v.below v.dealt ys
one_more v m w n xs ys is one all =
    let parts : (v.parts + n) + w.parts ≡ v.parts + (n + 1) = omega arith in
    ap (λ (u : DequeView). joined u w) is ∙ with_more v ((v.parts + n) + w.parts) (v.parts + (n + 1)) (xs ++ w.taken) ys parts all

pub joining_more : (first now next : List Pass) (n : ℕ) (p q : Pass) → Joining first now n → CanJoinAll first → get_elem? now n ≡ some p → q.worker ≡ p.worker → q.own ≡ p.own
    → AreJoined (set now n q) p.permits.items next → Joining first next (n + 1)
joining_more first now next n p q h can at w own join = record {
  same_length = join.0 ∙ (length-set now n q ∙ h.same_length);
  same = λ k a b x y. let f = facts k a b x y in (f.0, f.1);
  views = λ k a b x y. (facts k a b x y).2;
  permits = λ k a b x y less. (facts k a b x y).3 less;
}
  where
    facts : (k : ℕ) (a b : Pass) → get_elem? first k ≡ some a → get_elem? next k ≡ some b
        → (b.worker ≡ a.worker) × SameDeque a.own b.own
        × (own_view b ≡ deque_view ((own_view a).parts + (n + 1)) (own_view a).below (own_view a).dealt ((own_view a).taken ++ stolen k (take (n + 1) first)))
        × (n + 1 ≤ k → b.permits ≡ a.permits)
    facts k a b x y =
        let here = get_within now n p at in
        let k_in = get_within first k a x in
        let len = length-set now n q in
        let p0 = get_there first n (omega (arith, h.same_length)) in
        let o = get_there now k (omega (arith, h.same_length)) in
        let m = get_there (set now n q) k (omega (arith, h.same_length)) in
        let le : n ≤ n = omega arith in
        let permits = h.permits n p0.0 p p0.1 at le in
        let row = can n p0.0 p0.1 in
        let t0 = get_there p0.0.permits.items k (omega (arith, row.0)) in
        let t : Permit = t0.0 in
        let t_at : get_elem? p.permits.items k ≡ some t = subst (λ z. get_elem? z.items k ≡ some t) (sym permits) t0.1 in
        let mo = mid_is now n p q k o.0 m.0 at w own o.1 m.1 in
        let j = join.1 k m.0 b t m.1 t_at y in
        let same = h.same k a o.0 x o.1 in
        let v = h.views k a o.0 x o.1 in
        let one : (deque.view t).parts ≡ 1 = (row.1 k a t x t0.1).1 in
        let view_m : own_view m.0 ≡ deque_view ((own_view a).parts + n) (own_view a).below (own_view a).dealt ((own_view a).taken ++ stolen k (take n first)) = ap (λ (z : Owner). deque.worker_view z)
        mo.1 ∙ v in
        let all : ((own_view a).taken ++ stolen k (take n first)) ++ (deque.view t).taken ≡ (own_view a).taken ++ stolen k (take (n + 1) first) =
        stolen_next k n first p0.0 t (own_view a).taken p0.1 t0.1 in (
          j.0 ∙ (mo.0 ∙ same.0),
          (j.1.0 ∙ (ap (λ (z : Owner). deque.worker_deque z) mo.1 ∙ same.1.0), j.1.1 ∙ (ap (λ (z : Owner). deque.worker_flavor z) mo.1 ∙ same.1.1)),
          j.3 ∙ one_more (own_view a) (own_view m.0) (deque.view t) n ((own_view a).taken ++ stolen k (take n first)) ((own_view a).taken ++ stolen k (take (n + 1) first)) view_m one all,
          λ less. j.2 ∙ (mo.2 (λ e. absurd (omega (arith, e))) ∙ h.permits k a o.0 x o.1 (omega arith)),
        )

take_whole : (n : ℕ) (ps : List Pass) → n ≡ length ps → take n ps ≡ ps
take_whole zero [] e = refl
take_whole zero (x ∷ ps) e = absurd (omega arith)
take_whole (suc n) [] e = absurd (omega arith)
take_whole (suc n) (x ∷ ps) e = ap (λ l. x ∷ l) (take_whole n ps (omega arith))

pub joining_ends : (first now : List Pass) (n : ℕ) → Joining first now n → n ≡ length first → AreGathered first now
joining_ends first now n h all = (
  h.same_length,
  λ k a b x y.
      let s = h.same k a b x y in (
        s.0,
        s.1,
        h.views k a b x y ∙ with_more (own_view a) ((own_view a).parts + n) ((own_view a).parts + length first) ((own_view a).taken ++ stolen k (take n first)) ((own_view a).taken ++ stolen k first)
            (ap (λ m. (own_view a).parts + m) all) (ap (λ l. (own_view a).taken ++ stolen k l) (take_whole n first all)),
      ),
)

-- the passes of a round can all be joined
pub passes_can_join : (r : StealRound) (ps : List Pass) → ArePassesOf r ps → CanJoinAll ps
passes_can_join r ps are i p at =
    let is = (are.1 i p at).1 in (
      are.0 ∙ sym is.count,
      λ k a t x y.
          let its = are.1 k a x in
          let w = get_within ps k a x in
          let s = get_there r.thieves.items k (omega (arith, are.0)) in
          let own : deque.worker_deque a.own ≡ deque.stealer_deque s.0 = its.1.own s.0 (subst (λ j. get_elem? r.thieves.items j ≡ some s.0) (sym its.0) s.1) in
          let permit = is.permits k s.0 t s.1 y in
          (subst (λ d. deque.IsPassOf d t) (sym own) permit.0, permit.1, omega (arith, its.1.parts, its.1.few)),
    )

-- What is left is given deque by deque, and there is room for it.
use Rattle.std.proofs.Common.{◌≡◌, ◌≢◌, ◌≤◌, ◌<◌, ◌+◌, ℕ, zero, suc, List, [], ◌∷◌, ◌++◌, length, map, set, drop, length-set, inl, inr, ⊎_elim, arith, sym, ap, ◌∙◌, subst, refl, add-one}
use mathlib.Core.Option.{some, some-ne-none, some-injective}
use lib.ListN.{get_elem?}
use Rattle.std.specs.List.Sorted.{IsPermutation}
use Rattle.std.proofs.lemmas.Bool.{cases_eq}
use Rattle.crossbeam_deque.specs.Handles as deque
use Rattle.crossbeam_deque.proofs.Lists.{at_set}
use Rattle.wire_rounds.specs.declared.rule.Piece.{Piece}
use Rattle.wire_rounds.specs.declared.rule.DequeView.{DequeView}
use Rattle.wire_rounds.specs.declared.round.StealRound.{StealRound}
use Rattle.wire_rounds.specs.declared.round.Pass.{Pass}
use Rattle.wire_rounds.specs.Views.{all_parts}
use Rattle.wire_rounds.specs.Rules.{weigh, left_of, IsDrained}
use Rattle.wire_rounds.specs.Shares.{share_of, deal_of}
use Rattle.wire_rounds.specs.Rounds.{Permit, ArePassesOf, IsPassOf, worker_of, workers_of, own_view}
use Rattle.wire_rounds.specs.Taken.{taken_at, stolen, taken_from, rest_of, rest_to, rest_of_all, taken_by_all}
use Rattle.wire_rounds.specs.Deques.{IsGathered, AreGathered}
use Rattle.wire_rounds.proofs.Rows.{get_within, get_there}
use Rattle.wire_rounds.proofs.Sharing.{shares, shares_more, shares_within, shares_all, length_deal}
use Rattle.wire_rounds.proofs.Deals.{weigh_ones}
use Rattle.wire_rounds.proofs.EachOnce.{IsShared, each_once}

-- the shares of the first workers of the round
abbrev pub shares_to : StealRound → (Piece → ℕ) → ℕ → ℕ
shares_to r h i = shares h i (workers_of r) r.round r.ranks

pub grown : (h : Piece → ℕ) (r : StealRound) (i : ℕ) (p : Pass) → worker_of p ≡ i → IsPassOf r p → shares_to r h (i + 1) ≡ shares_to r h i + weigh h (own_view p).dealt
grown h r i p at is =
    let share = is.dealt ∙ ap (λ k. share_of k (workers_of r) r.round r.ranks) at in
    shares_more h i (workers_of r) r.round r.ranks ∙ ap (λ n. shares_to r h i + n) (ap (weigh h) (sym share))

pub room : (r : StealRound) (i : ℕ) (p : Pass) → worker_of p ≡ i → IsPassOf r p → shares_to r (λ _. 1) i + length (own_view p).dealt ≤ r.ranks
room r i p at is =
    let w = workers_of r in
    let few : i + 1 ≤ w = omega (arith, at, is.within) in
    let all : shares_to r (λ _. 1) w ≡ weigh (λ _. 1) (deal_of r.round r.ranks) = shares_all (λ _. 1) w r.round r.ranks (omega (arith, is.within)) in
    let ones = weigh_ones (deal_of r.round r.ranks) in
    let len = length_deal r.round r.ranks in
    let within = shares_within (λ _. 1) (i + 1) w w r.round r.ranks few in
    omega (arith, grown (λ _. 1) r i p at is, all, ones, len, within, weigh_ones (own_view p).dealt)

own_there : (ps : List Pass) (k : ℕ) (p : Pass) → get_elem? ps k ≡ some p → taken_at k (map (λ (q : Pass). own_view q) ps) ≡ (own_view p).taken
own_there [] k p at = absurd (some-ne-none p (sym at))
own_there (x ∷ ps) zero p at = ap (λ z. (own_view z).taken) (some-injective x p at)
own_there (x ∷ ps) (suc k) p at = own_there ps k p at

rest_more : (r : StealRound) (n : ℕ) (ps : List Pass) → rest_to r (n + 1) ps ≡ rest_to r n ps ++ rest_of r n ps
rest_more r n ps = rw add-one refl

-- after the first n deques
pub record Finishing (r : StealRound) (ps now : List Pass) (left : List Piece) (n : ℕ) : Type 0 where
  pub same_length : length now ≡ length ps
  pub left_is : left ≡ rest_to r n ps
  pub shared : IsShared r n ps
  pub fits : length left ≤ shares_to r (λ _. 1) n
  pub undone : (k : ℕ) (a b : Pass) → n ≤ k → get_elem? ps k ≡ some a → get_elem? now k ≡ some b → IsGathered ps k a b

pub finishing_nothing : (r : StealRound) (ps now : List Pass) → AreGathered ps now → Finishing r ps now [] 0
finishing_nothing r ps now h = record {
  same_length = h.0;
  left_is = refl;
  shared = λ k less. absurd (omega arith);
  fits = omega arith;
  undone = λ k a b _ x y. h.1 k a b x y;
}

below : (k n : ℕ) → k < n + 1 → k ≢ n → k < n
below k n less other = omega arith

-- what is known of the deque whose turn it is
pub record Turn (r : StealRound) (ps : List Pass) (left : List Piece) (n : ℕ) (b : Pass) : Type 0 where
  pub fifo : deque.worker_flavor b.own ≡ 0
  pub whole : (own_view b).parts ≡ all_parts
  pub taken : (own_view b).taken ≡ taken_from n ps
  pub dealt : (own_view b).dealt ≡ share_of n (workers_of r) r.round r.ranks
  pub grows : shares_to r (λ _. 1) (n + 1) ≡ shares_to r (λ _. 1) n + length (own_view b).dealt
  pub room : length left + length (own_view b).dealt ≤ r.ranks

pub turn : (r : StealRound) (ps now : List Pass) (left : List Piece) (n : ℕ) (b : Pass) → ArePassesOf r ps → Finishing r ps now left n → get_elem? now n ≡ some b → Turn r ps left n b
turn r ps now left n b are h at =
    let w = get_within now n b at in
    let there = get_there ps n (omega (arith, h.same_length)) in
    let a : Pass = there.0 in
    let is = are.1 n a there.1 in
    let g = h.undone n a b (omega arith) there.1 at in
    let parts : (own_view b).parts ≡ (own_view a).parts + length ps = ap (λ (v : DequeView). v.parts) g.2 in
    let dealt : (own_view b).dealt ≡ (own_view a).dealt = ap (λ (v : DequeView). v.dealt) g.2 in
    let more = grown (λ _. 1) r n a is.0 is.1 in
    let len : length (own_view b).dealt ≡ length (own_view a).dealt = ap length dealt in
    let space = room r n a is.0 is.1 in
    let fits = h.fits in
    record {
      fifo = g.1.1 ∙ is.1.fifo;
      whole = omega (arith, parts, is.1.parts, are.0);
      taken = ap (λ (v : DequeView). v.taken) g.2 ∙ ap (λ l. l ++ stolen n ps) (sym (own_there ps n a there.1));
      dealt = dealt ∙ (is.1.dealt ∙ ap (λ k. share_of k (workers_of r) r.round r.ranks) is.0);
      grows = more ∙ ap (λ m. shares_to r (λ _. 1) n + m) (weigh_ones (own_view a).dealt ∙ sym len);
      room = omega (arith, space, fits, len);
    }

pub finishing_more : (r : StealRound) (ps now : List Pass) (left after : List Piece) (n : ℕ) (b q : Pass) → ArePassesOf r ps → Finishing r ps now left n → get_elem? now n ≡ some b
    → IsDrained (own_view b) left after → length after ≤ length left + length (own_view b).dealt → Finishing r ps (set now n q) after (n + 1)
finishing_more r ps now left after n b q are h at drained bound =
    let t = turn r ps now left n b are h at in
    let is = drained t.whole in
    let rest : left_of (own_view b) ≡ rest_of r n ps = ap (λ l. drop (length l) (own_view b).dealt) t.taken ∙ ap (λ l. drop (length (taken_from n ps)) l) t.dealt in
    record {
      same_length = length-set now n q ∙ h.same_length;
      left_is = is.0 ∙ (ap (λ l. l ++ left_of (own_view b)) h.left_is ∙ (ap (λ l. rest_to r n ps ++ l) rest ∙ sym (rest_more r n ps)));
      shared = λ k less.
          elim (cases_eq k n) [
            | inl here ↦ (λ f.
                let e : weigh f (taken_from n ps) + weigh f (rest_of r n ps) ≡ weigh f (share_of n (workers_of r) r.round r.ranks) =
                ap (λ l. weigh f l + weigh f (rest_of r n ps)) (sym t.taken) ∙ (ap (λ l. weigh f (own_view b).taken + weigh f l) (sym rest) ∙ (is.1 f ∙ ap (weigh f) t.dealt)) in
                subst (λ j. weigh f (taken_from j ps) + weigh f (rest_of r j ps) ≡ weigh f (share_of j (workers_of r) r.round r.ranks)) (sym here) e)
            | inr other ↦ h.shared k (below k n less other)
          ];
      fits = (let f = h.fits in let g = t.grows in omega (arith, f, g, bound));
      undone = λ k a c later x y.
          ⊎_elim (λ (e : (k ≡ n) × (q ≡ c)). absurd (omega (arith, e.0)))
          (λ (e : (k ≢ n) × (get_elem? now k ≡ some c)). h.undone k a c (omega arith) x e.1) (at_set now n k q c y);
    }

length_map : (ts : List Permit) → length (map (λ (t : Permit). deque.view t) ts) ≡ length ts
length_map [] = refl
length_map (t ∷ ts) = ap suc (length_map ts)

pub finishing_order : (r : StealRound) (ps now : List Pass) (left : List Piece) (n : ℕ) → ArePassesOf r ps → Finishing r ps now left n → n ≡ length ps → left ≡ rest_of_all r ps
finishing_order r ps now left n are h all = h.left_is ∙ ap (λ k. rest_to r k ps) (all ∙ are.0)

pub finishing_once : (r : StealRound) (ps now : List Pass) (left : List Piece) (n : ℕ) → ArePassesOf r ps → Finishing r ps now left n → n ≡ length ps → 0 < workers_of r
    → IsPermutation (deal_of r.round r.ranks) (taken_by_all ps ++ left)
finishing_once r ps now left n are h all staffed =
    subst (λ l. IsPermutation (deal_of r.round r.ranks) (taken_by_all ps ++ l)) (sym (finishing_order r ps now left n are h all))
    (each_once r ps staffed are.0 (λ i p at. length_map p.permits.items ∙ (are.1 i p at).1.count) (subst (λ k. IsShared r k ps) (all ∙ are.0) h.shared))

-- Lists of nodes that a function gives.
use Rattle.std.proofs.Common.{◌≡◌, ◌∙◌, ap, sym, refl, ℕ, zero, suc, pred, ◌+◌, ◌-◌, ◌*◌, ◌/◌, ◌%◌, ◌^◌, ◌<◌, ◌≤◌, ◌⊎◌, inl, inr, List, [], ◌∷◌, ◌++◌, true, false, cond, length, map, arith, min}
use Rattle.std.specs.Prelude.{nat_lt, slice_index_or, if◌then◌else◌, ◌↔◌}
use Rattle.std.specs.List.{list_all, range_with_len}
use Rattle.std.proofs.lemmas.Bool.Decides.{nat_tests}
use Rattle.std.proofs.lemmas.List.FromFn.{length-map-range_with_len, get_or-map-range_with_len, map-range_with_len_more}
use Rattle.std.proofs.lemmas.Nat.{le-div, mod_below}
use Rattle.std.proofs.Math.Nat.{div-mul-le_self, mul-div_cancel, mod-eq-sub-div-mul, mul-le-mul_right}
use Rattle.std.proofs.lemmas.Bool.{eq-eqb, ne_eqb, cases_eq, cases_lt}
use Rattle.wire_runs.specs.Embeddings.{pair}
use Rattle.wire_instances.specs.declared.cast.Nodes.{Nodes}
use Rattle.wire_instances.specs.Nodes.{node_of, AreNodes, paired_node, ArePaired, ArePerNode}

lower : (a b : ℕ) → a < b → nat_lt a b ≡ true
lower a b h = grind (arith, nat_tests)

not_lower : (a b : ℕ) → b ≤ a → nat_lt a b ≡ false
not_lower a b h = grind (arith, nat_tests)

all_below : (f : ℕ → ℕ) (count a n : ℕ) → ((v : ℕ) → v < a + n → f v < count) → list_all (λ m. nat_lt m count) (map f (range_with_len a n)) ≡ true
all_below f count a zero h = refl
all_below f count a (suc n) h =
    rw (lower (f a) count (h a (omega arith))) (all_below f count (a + 1) n (λ v u. h v (omega (arith, u))))

-- nodes that a function gives
pub given : (f : ℕ → ℕ) (n : ℕ) (nodes : Nodes) → nodes.of.items ≡ map f (range_with_len 0 n) → nodes.count < 2 ^ 31 → ((v : ℕ) → v < n → f v < nodes.count)
    → AreNodes n nodes
given f n nodes is few h = record {
  placed = ap length is ∙ length-map-range_with_len f 0 n;
  below = ap (list_all (λ m. nat_lt m nodes.count)) is ∙ all_below f nodes.count 0 n (λ v u. h v (omega (arith, u)));
  few = few;
}

pub given_node : (f : ℕ → ℕ) (n : ℕ) (of : List ℕ) → of ≡ map f (range_with_len 0 n) → (v : ℕ) → v < n → slice_index_or of v 0 ≡ f v
given_node f n of is v h = ap (λ xs. slice_index_or xs v 0) is ∙ get_or-map-range_with_len f 0 n v v 0 h (omega arith)

-- the node of a paired process
at_b : (a b : ℕ) → paired_node a b b ≡ a
at_b a b = rw (eq-eqb b b refl) refl

under_b : (a b v : ℕ) → v < b → paired_node a b v ≡ v
under_b a b v h = rw (ne_eqb v b (λ e. omega (arith, e, h)), lower v b h) refl

over_b : (a b v : ℕ) → b < v → paired_node a b v ≡ pred v
over_b a b v h = rw (ne_eqb v b (λ e. omega (arith, e, h)), not_lower v b (omega (arith, h))) refl

-- by whether v is b, below it or above
pub three : (b v : ℕ) → ((v ≡ b) ⊎ (v < b)) ⊎ (b < v)
three b v = elim (cases_eq v b) [
  | inl e ↦ inl (inl e)
  | inr ne ↦ elim (cases_lt v b) [
    | inl l ↦ inl (inr l)
    | inr g ↦ inr (omega (arith, ne, g))
  ]
]

pub paired_below : (a b n v : ℕ) → a < b → b < n → v < n → paired_node a b v < n - 1
paired_below a b n v l u h = elim (three b v) [
  | inl x ↦ elim x [
    | inl e ↦ rw e (rw (at_b a b) (omega (arith, l, u)))
    | inr s ↦ rw (under_b a b v s) (omega (arith, s, u))
  ]
  | inr g ↦ rw (over_b a b v g) (omega (arith, g, h))
]

-- with b's process put to a's, the number of a process; back again
unpaired : ℕ → ℕ → ℕ
unpaired b m = if nat_lt m b then m else suc m

round_trip : (a b v : ℕ) → a < b → unpaired b (paired_node a b v) ≡ pair a b v
unfolding unpaired
round_trip a b v l = elim (three b v) [
  | inl x ↦ elim x [
    | inl e ↦ rw e (rw (at_b a b, lower a b l, eq-eqb b b refl) refl)
    | inr s ↦ rw (under_b a b v s, lower v b s, ne_eqb v b (λ e. omega (arith, e, s))) refl
  ]
  | inr g ↦ rw (over_b a b v g, not_lower (pred v) b (omega (arith, g)), ne_eqb v b (λ e. omega (arith, e, g))) (omega (arith, g))
]

-- the node of the number that a process has with b put to a
by_pair : (a b v : ℕ) → a < b → paired_node a b (pair a b v) ≡ paired_node a b v
by_pair a b v l = elim (three b v) [
  | inl x ↦ elim x [
    | inl e ↦ ap (paired_node a b) (ap (λ t. cond t a v) (eq-eqb v b e)) ∙ under_b a b a l ∙ sym (ap (paired_node a b) e ∙ at_b a b)
    | inr s ↦ ap (paired_node a b) (ap (λ t. cond t a v) (ne_eqb v b (λ e. omega (arith, e, s))))
  ]
  | inr g ↦ ap (paired_node a b) (ap (λ t. cond t a v) (ne_eqb v b (λ e. omega (arith, e, g))))
]

pub shares : (a b v w : ℕ) → a < b → (paired_node a b v ≡ paired_node a b w) ↔ (pair a b v ≡ pair a b w)
shares a b v w l = (
  λ e. sym (round_trip a b v l) ∙ ap (unpaired b) e ∙ round_trip a b w l,
  λ e. sym (by_pair a b v l) ∙ ap (paired_node a b) e ∙ by_pair a b w l,
)

pub are_paired : (a b n : ℕ) (nodes : Nodes) → a < b → b < n → suc nodes.count ≡ n → ((v : ℕ) → v < n → node_of nodes v ≡ paired_node a b v) → ArePaired n a b nodes
are_paired a b n nodes l u count node = record {
  count = count;
  node = node;
  together = λ v w hv hw. (
    λ e. (shares a b v w l).0 (sym (node v hv) ∙ e ∙ node w hw),
    λ e. node v hv ∙ (shares a b v w l).1 e ∙ sym (node w hw),
  );
}

-- a loop goes on, and ends
pub one_more : (f : ℕ → ℕ) (n value : ℕ) (old new : List ℕ) → old ≡ map f (range_with_len 0 n) → new ≡ old ++ value ∷ [] → value ≡ f n → new ≡ map f (range_with_len 0 (n + 1))
one_more f n value old new h more is = more ∙ ap (λ xs. xs ++ value ∷ []) h ∙ ap (λ v. map f (range_with_len 0 n) ++ v ∷ []) is ∙ sym (map-range_with_len_more f 0 n n (omega arith))

pub ended : (f : ℕ → ℕ) (n m : ℕ) (of : List ℕ) → of ≡ map f (range_with_len 0 m) → m ≡ n → of ≡ map f (range_with_len 0 n)
ended f n m of h e = h ∙ ap (λ k. map f (range_with_len 0 k)) e

pub divided_below : (processes each v : ℕ) → 0 < each → v < processes → v / each ≤ (processes - 1) / each
divided_below processes each v h u = le-div (v / each) (processes - 1) each h (omega (arith, div-mul-le_self v each, u))

pub divided_used : (processes each n : ℕ) → 0 < processes → n < (processes - 1) / each + 1 → n * each < processes
divided_used processes each n p h =
    let le : n ≤ (processes - 1) / each = omega (arith, h) in
    omega (arith, p, mul-le-mul_right each le, div-mul-le_self (processes - 1) each)

pub are_per_node : (processes each : ℕ) (nodes : Nodes) → 0 < each → ((n : ℕ) → n < nodes.count → n * each < processes) → ((v : ℕ) → v < processes → node_of nodes v ≡ v / each)
    → ArePerNode processes each nodes
are_per_node processes each nodes h used node = record {
  node = node;
  used = λ n u. (n * each, used n u, node (n * each) (used n u) ∙ mul-div_cancel n h);
}

pub mod_below_both : (processes n v : ℕ) → 0 < n → v < processes → v % n < min processes n
mod_below_both processes n v h u =
    omega (arith, mod_below v n h, u, mod-eq-sub-div-mul v n)

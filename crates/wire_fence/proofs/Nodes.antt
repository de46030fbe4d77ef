-- Which nodes have a member.
use Rattle.std.proofs.Common.{◌≡◌, ◌∙◌, ℕ, ◌+◌, ◌<◌, ◌≤◌, List, [], take, length, nat_lt, Bool, true, false, ◌||◌, ◌&&◌, ◌==◌}
use Rattle.std.proofs.Common.{cond, Option, Some, None, option_map, slice_get, get_or, refl, sym, ap, inl, inr, arith}
use Rattle.std.specs.List.{list_any}
use Rattle.std.proofs.lemmas.Bool.{cases_eq, cases_lt, eq-eqb, ne_eqb, lt-ltb, le-ltb}
use Rattle.std.proofs.lemmas.Option.{slice_get-map}
use Rattle.std.proofs.lemmas.List.{get_or_past}
use Rattle.std.proofs.lemmas.List.Folds.{list_any_more}
use Rattle.std.proofs.Math.Bool.{or-false}
use Rattle.wire_runs.specs.Plan.{node_of, process_node}
use Rattle.wire_runs.specs.Fences.{has_node}
use Rattle.wire_scripts.specs.Scripts.{Process, Scripts, set_at}
use Rattle.wire_scripts.specs.Planned.{planned_process, plan_of}
use Rattle.wire_scripts.specs.Map.{node_in, node_at}
use Rattle.wire_fence.specs.FenceTable.{is_noted}

-- the node of a process of the plan is that of the scripts
pub node_is : (s : Scripts) (m : ℕ) → node_of (plan_of s) m ≡ node_at s.processes m
unfolding node_of
node_is s m = ap process_node (slice_get-map (planned_process s) s.processes m) ∙ go (slice_get s.processes m)
  where
    go : (o : Option Process) → process_node (option_map (planned_process s) o) ≡ node_in o
    go None = refl
    go (Some process) = refl

same_either_way : (a b : ℕ) → (a == b) ≡ (b == a)
same_either_way a b = elim (cases_eq a b) [
  | inl e ↦ eq-eqb a b e ∙ sym (eq-eqb b a (sym e))
  | inr ne ↦ ne_eqb a b ne ∙ sym (ne_eqb b a (λ e. ne (sym e)))
]

abbrev pub is_pair : ℕ → ℕ → ℕ × ℕ → Bool
is_pair set node r = (set == r.0) && (node == r.1)

either : (kept new : Bool) → cond new true kept ≡ (kept || new)
either true true = refl
either true false = refl
either false true = refl
either false false = refl

-- one pair more
noted_one : (kept new : List (ℕ × ℕ)) (set found other node : ℕ)
    → list_any (is_pair other node) new ≡ cond (is_pair set found (other, node)) true (list_any (is_pair other node) kept)
    → is_noted new other node ≡ (is_noted kept other node || is_pair other node (set, found))
unfolding is_noted
noted_one kept new set found other node is =
    is
    ∙ (λ i. cond (same_either_way set other i && same_either_way found node i) true (list_any (is_pair other node) kept))
    ∙ either (list_any (is_pair other node) kept) (is_pair other node (set, found))

among : (a s m f : Bool) → ((a || (s && m)) || (s && f)) ≡ (a || (s && (m || f)))
among true s m f = refl
among false true m f = refl
among false false m f = refl

-- one member more
pub noted_more : (s : Scripts) (members : List ℕ) (i other node set found : ℕ) (first kept new : List (ℕ × ℕ)) → i < length members →
    is_noted kept other node ≡ (is_noted first other node || ((other == set) && has_node (plan_of s) (take i members) node)) →
    found ≡ node_at s.processes (get_or members i 0) →
    list_any (is_pair other node) new ≡ cond (is_pair set found (other, node)) true (list_any (is_pair other node) kept) →
    is_noted new other node ≡ (is_noted first other node || ((other == set) && has_node (plan_of s) (take (i + 1) members) node))
noted_more s members i other node set found first kept new low was is noted =
    noted_one kept new set found other node noted
    ∙ ap (λ b. b || is_pair other node (set, found)) was
    ∙ among (is_noted first other node) (other == set) (has_node (plan_of s) (take i members) node) (node == found)
    ∙ ap (λ b. is_noted first other node || ((other == set) && (has_node (plan_of s) (take i members) node || b))) (same_either_way node found)
    ∙ ap (λ n. is_noted first other node || ((other == set) && (has_node (plan_of s) (take i members) node || (n == node)))) (is ∙ sym (node_is s (get_or members i 0)))
    ∙ ap (λ b. is_noted first other node || ((other == set) && b)) (sym (list_any_more (λ m. node_of (plan_of s) m == node) members i 0 low))

-- before the first member
pub noted_none : (a s : Bool) → a ≡ (a || (s && false))
noted_none true s = refl
noted_none false true = refl
noted_none false false = refl

-- one set more
pub set_noted : (s : Scripts) (sets : List (List ℕ)) (n k node : ℕ) (kept new : List (ℕ × ℕ)) → is_noted kept k node ≡ (nat_lt k n && has_node (plan_of s) (set_at sets k) node) →
    is_noted new k node ≡ (is_noted kept k node || ((k == n) && has_node (plan_of s) (set_at sets n) node)) →
    is_noted new k node ≡ (nat_lt k (n + 1) && has_node (plan_of s) (set_at sets k) node)
set_noted s sets n k node kept new was now = elim (cases_eq k n) [
  | inl e ↦
      (let not_yet : nat_lt k n ≡ false = le-ltb k n (omega (arith, e)) in
      let now_so : nat_lt k (n + 1) ≡ true = lt-ltb k (n + 1) (omega (arith, e)) in
      let is : (k == n) ≡ true = eq-eqb k n e in
      now
      ∙ ap (λ b. b || ((k == n) && has_node (plan_of s) (set_at sets n) node)) (was ∙ ap (λ b. b && has_node (plan_of s) (set_at sets k) node) not_yet)
      ∙ ap (λ b. b && has_node (plan_of s) (set_at sets n) node) is
      ∙ ap (λ j. has_node (plan_of s) (set_at sets j) node) (sym e)
      ∙ sym (ap (λ b. b && has_node (plan_of s) (set_at sets k) node) now_so))
  | inr ne ↦
      (let same : nat_lt k n ≡ nat_lt k (n + 1) = elim (cases_lt k n) [
        | inl lt ↦ lt-ltb k n lt ∙ sym (lt-ltb k (n + 1) (omega (arith, lt)))
        | inr ge ↦ le-ltb k n ge ∙ sym (le-ltb k (n + 1) (omega (arith, ge, ne)))
      ] in
      now
      ∙ ap (λ b. is_noted kept k node || (b && has_node (plan_of s) (set_at sets n) node)) (ne_eqb k n ne)
      ∙ or-false (is_noted kept k node)
      ∙ was
      ∙ ap (λ b. b && has_node (plan_of s) (set_at sets k) node) same)
]

-- a number past the sets is that of no process
pub set_past : (s : Scripts) (sets : List (List ℕ)) (n k node : ℕ) → length sets ≤ n → (nat_lt k n && has_node (plan_of s) (set_at sets k) node) ≡ has_node (plan_of s) (set_at sets k) node
set_past s sets n k node over = elim (cases_lt k n) [
  | inl lt ↦ ap (λ b. b && has_node (plan_of s) (set_at sets k) node) (lt-ltb k n lt)
  | inr ge ↦
      ap (λ b. b && has_node (plan_of s) (set_at sets k) node) (le-ltb k n ge)
      ∙ ap (λ ms. has_node (plan_of s) ms node) (sym (get_or_past sets k [] (omega (arith, over, ge))))
]

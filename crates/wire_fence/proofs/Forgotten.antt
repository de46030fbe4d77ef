-- The counts of a process's fence calls are set back to 0.
use Rattle.std.proofs.Common.{◌≡◌, ◌∙◌, ap, sym, subst, refl, ℕ, ◌+◌, ◌<◌, List, take, replicate, length, Bool, false, cond, Option, Some, slice_get, get_or, inl, inr, arith, add-one}
use Rattle.std.proofs.lemmas.Bool.{cases_eq, ne_eqb}
use Rattle.std.proofs.lemmas.List.{get_or-set_same, get_or-set_other, length-set, get_or-replicate, length-replicate, ext_get_or}
use Rattle.std.proofs.Math.ListN.{set}
use Rattle.wire_types.specs.declared.Call.{Call}
use Rattle.wire_types.specs.declared.Call.TheVariants.{Fence}
use Rattle.wire_fence.specs.declared.register.FenceDraft.{FenceDraft}
use Rattle.wire_fence.specs.FenceTable.{is_over, fence_count}
use Rattle.wire_fence.specs.Register.{AreForgotten}
use Rattle.wire_fence.proofs.ReadRows.{count_call}
use Rattle.wire_fence.proofs.States.{StateOf}

pub forgotten_first : (counts : List ℕ) (calls : List Call) → AreForgotten counts calls 0 counts
forgotten_first counts calls = record { len = refl; each = λ k. inr (refl, refl) }

-- a call that is over another set isn't counted
count_other : (calls : List Call) (n k : ℕ) (call : Call) → slice_get calls n ≡ Some call → is_over k call ≡ false → fence_count k (take n calls) ≡ 0 → fence_count k (take (n + 1) calls) ≡ 0
count_other calls n k call is other none =
    let on = count_call calls n k call is in
    let nothing : ◌≡◌ {A = ℕ} (cond (is_over k call) 1 0) 0 = ap (λ b. cond b 1 0) other in
    subst (λ m. fence_count k (take m calls) ≡ 0) (sym (add-one n)) (omega (arith, on, nothing, none))

pub forgotten_fence : (old now new : List ℕ) (calls : List Call) (n other : ℕ) (collect : Bool) → AreForgotten old calls n now → slice_get calls n ≡ Some (Fence other collect) → other < length old →
    new ≡ set now other 0 → AreForgotten old calls (n + 1) new
forgotten_fence old now new calls n other collect are is within new_is = record {
  len = ap length new_is ∙ length-set now other 0 ∙ are.len;
  each = λ k. elim (cases_eq k other) [
    | inl here ↦
        (let len = are.len in
        inl (ap (λ xs. get_or xs k 0) new_is ∙ ap (λ x. get_or (set now other 0) x 0) here ∙ get_or-set_same now other 0 0 (omega (arith, len, within))))
    | inr ne ↦
        (let kept : get_or new k 0 ≡ get_or now k 0 = ap (λ xs. get_or xs k 0) new_is ∙ get_or-set_other now other k 0 0 ne in
        elim (are.each k) [
          | inl zero ↦ inl (kept ∙ zero)
          | inr same ↦ inr (kept ∙ same.0, count_other calls n k (Fence other collect) is (ne_eqb other k (λ e. ne (sym e))) same.1)
        ])
  ];
}

-- a call that is no fence
pub forgotten_other : (old now : List ℕ) (calls : List Call) (n : ℕ) (call : Call) → AreForgotten old calls n now → slice_get calls n ≡ Some call → ((k : ℕ) → is_over k call ≡ false) →
    AreForgotten old calls (n + 1) now
forgotten_other old now calls n call are is other = record {
  len = are.len;
  each = λ k. elim (are.each k) [
    | inl zero ↦ inl zero
    | inr same ↦ inr (same.0, count_other calls n k call is (other k) same.1)
  ];
}

-- once all calls were read
pub all_forgotten : (first rows : List FenceDraft) (sets : List (List ℕ)) (calls : List Call) (counts : List ℕ) (numbers : List (Option ℕ)) (n size : ℕ) (new : List ℕ) →
    StateOf first rows sets calls counts numbers n → n ≡ length calls → length sets ≡ size → AreForgotten counts calls (length calls) new → new ≡ replicate size 0
all_forgotten first rows sets calls counts numbers n size new state over size_is are =
    let len = are.len in
    let before = state.len in
    let many : length (replicate {A = ℕ} size 0) ≡ size = length-replicate size 0 in
    ext_get_or 0 new (replicate size 0) (omega (arith, len, before, size_is, many)) (λ i lt.
    let low : i < size = omega (arith, lt, len, before, size_is) in
    let zero : get_or (replicate {A = ℕ} size 0) i 0 ≡ 0 = get_or-replicate size i 0 0 low in
    elim (are.each i) [
      | inl here ↦ here ∙ sym zero
      | inr same ↦ same.0 ∙ state.counted i (omega (arith, low, size_is)) ∙ ap (λ m. fence_count i (take m calls)) over ∙ same.1 ∙ sym zero
    ])

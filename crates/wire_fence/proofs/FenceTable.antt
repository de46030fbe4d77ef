-- The table of fences, once all calls are read.
use Rattle.std.proofs.Common.{◌≡◌, ◌∙◌, ℕ, zero, suc, ◌<◌, List, [], ◌∷◌, map, take, length, Bool, true, cond, ◌==◌, nat_lt, nat_le, count_by, Option, Some, None, option_map, slice_get, get_or}
use Rattle.std.proofs.Common.{refl, sym, ap, subst, inl, inr, arith}
use Rattle.std.specs.List.{list_all}
use Rattle.std.proofs.lemmas.Bool.{cases_lt, lt-ltb, le-ltb, ltb-true, and_parts}
use Rattle.std.proofs.lemmas.Option.{none-some, same_Some, slice_get-map, slice_get-get_or, slice_get_past}
use Rattle.std.proofs.lemmas.List.{get_or_past}
use Rattle.wire_runs.specs.Plan.{event_count}
use Rattle.wire_runs.specs.Fences.{arrivals, collects, is_full, is_collecting, has_node}
use Rattle.wire_types.specs.declared.Call.{Call}
use Rattle.wire_types.specs.declared.Call.TheVariants.{Fence}
use Rattle.wire_scripts.specs.Scripts.{Scripts, IsSound, calls_in, call_at, set_at}
use Rattle.wire_scripts.specs.Planned.{plan_of}
use Rattle.wire_fence.specs.declared.register.FenceDraft.{FenceDraft}
use Rattle.wire_fence.specs.FenceTable.{FenceInfo, FenceTable, IsFenceOf, IsFence, AreFencesOf, is_reached, fence_at, fence_number, fence_over, fence_count, written_calls}
use Rattle.wire_fence.specs.Reading.{says_to}
use Rattle.wire_fence.specs.Register.{info_of, HasRow, read_count, read_to, TellsOfRead, AreRead, IsNumber, AreAllNumbers}
use Rattle.wire_fence.proofs.Counts.{all_same, all_by_count, none_missing}
use Rattle.wire_fence.proofs.Events.{all_arrivals, all_say}

-- all calls
abbrev all_calls : Scripts → ℕ → ℕ
all_calls s m = length (written_calls s m)

read_all : (s : Scripts) (m : ℕ) → read_to s (length s.processes) m ≡ all_calls s m
read_all s m = elim (cases_lt m (length s.processes)) [
  | inl low ↦ ap (λ b. cond b (length (written_calls s m)) 0) (lt-ltb m (length s.processes) low)
  | inr past ↦ ap (λ b. cond b (length (written_calls s m)) 0) (le-ltb m (length s.processes) past) ∙ sym (ap (λ o. length (calls_in o)) (slice_get_past s.processes m past))
]

-- a row tells of its fence
info_is : (s : Scripts) → IsSound s → (row : FenceDraft) → TellsOfRead s (all_calls s) row → info_of s.sets row ≡ fence_over s row.set row.nth
info_is s sound row is =
    let members = set_at s.sets row.set in
    let full : (row.missing == 0) ≡ is_full (plan_of s) members row.nth =
    none_missing row.missing (count_by (λ m. nat_le row.nth (read_count s (all_calls s) m row.set)) members) (length members) is.missing
    ∙ all_by_count (λ m. nat_le row.nth (read_count s (all_calls s) m row.set)) members
    ∙ all_same (λ m. nat_le row.nth (read_count s (all_calls s) m row.set)) (λ m. nat_le row.nth (arrivals (plan_of s) m members (event_count (plan_of s) m)))
    (λ m. ap (nat_le row.nth) (sym (all_arrivals s m row.set sound is.of_set))) members
    in
    let says : row.collects ≡ is_collecting (plan_of s) members row.nth =
    is.collects
    ∙ all_same (λ m. says_to row.set row.nth (written_calls s m) (all_calls s m)) (λ m. collects (plan_of s) m members row.nth (event_count (plan_of s) m))
    (λ m. sym (all_say s m row.set row.nth sound is.of_set)) members
    in
    λ t. record { set = row.set; nth = row.nth; members = members; full = full t; collects = says t }

-- the row of a fence of the table
row_at : (s : Scripts) (rows : List FenceDraft) (number : ℕ) (fence : FenceInfo) → slice_get (map (info_of s.sets) rows) number ≡ Some fence → (row : FenceDraft) × (slice_get rows number ≡ Some row)
    × (info_of s.sets row ≡ fence)
row_at s rows number fence there = go (slice_get rows number) refl (sym (slice_get-map (info_of s.sets) rows number) ∙ there)
  where
    go : (o : Option FenceDraft) → slice_get rows number ≡ o → option_map (info_of s.sets) o ≡ Some fence → (row : FenceDraft) × (slice_get rows number ≡ Some row) × (info_of s.sets row ≡ fence)
    go None e h = absurd (none-some fence h)
    go (Some row) e h = (row, e, same_Some (info_of s.sets row) fence h)

has_row : (s : Scripts) (rows : List FenceDraft) (number : ℕ) (fence : FenceInfo) → slice_get (map (info_of s.sets) rows) number ≡ Some fence → HasRow rows number fence.set fence.nth
has_row s rows number fence there =
    let at = row_at s rows number fence there in
    record { row = at.0; there = at.1; of_set = ap (λ (f : FenceInfo). f.set) at.2; is_nth = ap (λ (f : FenceInfo). f.nth) at.2 }

-- a number is only where a fence call is
fence_call : (rows : List FenceDraft) (calls : List Call) (c number : ℕ) (o : Option Call) (found : Option ℕ) → IsNumber rows calls c o found → found ≡ Some number → (k : ℕ) × (collect : Bool)
    × (o ≡ Some (Fence k collect))
fence_call rows calls c number (Some (Fence k collect)) found is there = (k, collect, refl)
fence_call rows calls c number _ found is there = absurd (none-some number (sym is ∙ there))

module _ (s : Scripts) (sound : IsSound s) (rows : List FenceDraft) (numbers : List (List (Option ℕ))) (pairs : List (ℕ × ℕ)) (are : AreRead s (read_to s (length s.processes)) rows)
    (numbered : AreAllNumbers rows s.processes numbers (length s.processes)) where
  abbrev table : FenceTable
  table = record { fences = map (info_of s.sets) rows; numbers = numbers; reached = pairs }

  all : AreRead s (all_calls s) rows
  all = let path : read_to s (length s.processes) ≡ all_calls s = λ i m. read_all s m i in subst (λ (r : ℕ → ℕ). AreRead s r rows) path are

  calls_there : (p c : ℕ) (call : Call) → call_at s.processes p c ≡ Some call → p < length s.processes
  calls_there p c call is = elim (cases_lt p (length s.processes)) [
    | inl low ↦ low
    | inr past ↦ absurd (none-some call (sym (ap (λ o. slice_get (calls_in o) c) (slice_get_past s.processes p past)) ∙ is))
  ]

  call_is : (p c k : ℕ) (collect : Bool) → call_at s.processes p c ≡ Some (Fence k collect) → IsFenceOf s table p c k
  call_is p c k collect is =
      let low = calls_there p c (Fence k collect) is in
      let of_process = numbered.each p low in
      let number = subst (λ o. IsNumber rows (written_calls s p) c o (get_or (get_or numbers p []) c None)) is (of_process c) in
      let has = number.2 in
      let j = fence_count k (take (suc c) (written_calls s p)) in
      record {
        number = number.0;
        is = number.1;
        fence =
            slice_get-map (info_of s.sets) rows number.0
            ∙ ap (option_map (info_of s.sets)) has.there
            ∙ ap Some (info_is s sound has.row (all.each number.0 has.row has.there) ∙ ap (λ x. fence_over s x has.row.nth) has.of_set ∙ ap (fence_over s k) has.is_nth);
      }

  number_is : (p c number : ℕ) → fence_number table p c ≡ Some number → (k : ℕ) × (collect : Bool) × (call_at s.processes p c ≡ Some (Fence k collect))
  number_is p c number is = elim (cases_lt p (length s.processes)) [
    | inl low ↦
        fence_call rows (written_calls s p) c number (slice_get (written_calls s p) c) (get_or (get_or numbers p []) c None) (numbered.each p low c) is
    | inr past ↦
        let count = numbered.count in
        let none = get_or_past numbers p [] (omega (arith, count, past)) in
        absurd (none-some number (sym (ap (λ xs. get_or xs c None) none) ∙ is))
  ]

  each_is : (number : ℕ) (fence : FenceInfo) → fence_at table number ≡ Some fence → IsFence s fence
  each_is number fence there =
      let at = row_at s rows number fence there in
      let is = all.each number at.0 at.1 in
      let set_is = ap (λ (f : FenceInfo). f.set) at.2 in
      let nth_is = ap (λ (f : FenceInfo). f.nth) at.2 in
      record {
        is = sym at.2 ∙ info_is s sound at.0 is ∙ ap (λ x. fence_over s x at.0.nth) set_is ∙ ap (fence_over s fence.set) nth_is;
        of_set = subst (λ k. k < length s.sets) set_is is.of_set;
        from_one = subst (λ k. 0 < k) nth_is is.from_one;
      }

  pub fences_are : ((k node : ℕ) → is_reached table k node ≡ has_node (plan_of s) (set_at s.sets k) node) → AreFencesOf s table
  fences_are reached = record {
    sound = sound;
    calls = call_is;
    others = number_is;
    each = each_is;
    once = λ m n fence at_m at_n. all.once m n fence.set fence.nth (has_row s rows m fence at_m) (has_row s rows n fence at_n);
    nodes = reached;
  }

-- the members of a set are processes
pub member_within : (s : Scripts) (k i : ℕ) → IsSound s → i < length (set_at s.sets k) → get_or (set_at s.sets k) i 0 < length s.processes
member_within s k i sound low = elim (cases_lt k (length s.sets)) [
  | inl there ↦
      passes (set_at s.sets k) (sound.sets.within k (set_at s.sets k) (slice_get-get_or s.sets k [] there)) i low
  | inr past ↦
      let none = ap length (get_or_past s.sets k [] past) in
      absurd (omega (arith, none, low))
]
  where
    passes : (xs : List ℕ) → list_all (λ m. nat_lt m (length s.processes)) xs ≡ true → (n : ℕ) → n < length xs → get_or xs n 0 < length s.processes
    passes [] all n below = absurd (omega (arith, below))
    passes (x ∷ xs) all zero below = ltb-true x (length s.processes) (and_parts (nat_lt x (length s.processes)) (list_all (λ m. nat_lt m (length s.processes)) xs) all).0
    passes (x ∷ xs) all (suc n) below = passes xs (and_parts (nat_lt x (length s.processes)) (list_all (λ m. nat_lt m (length s.processes)) xs) all).1 n (omega (arith, below))

pub map_twice : {A B C : Type 0} (f : B → C) (g : A → B) (xs : List A) → map f (map g xs) ≡ map (λ x. f (g x)) xs
map_twice f g [] = refl
map_twice f g (x ∷ xs) = ap (λ ys. f (g x) ∷ ys) (map_twice f g xs)

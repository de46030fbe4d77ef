-- The register finds a row by its set and its number.
use Rattle.std.proofs.Common.{◌≡◌, ◌∙◌, ℕ, zero, suc, ◌+◌, ◌<◌, List, [], ◌∷◌, ◌++◌, map, length, Bool, true, false, not, cond, ◌&&◌, ◌==◌, Option, Some, None, option_map, slice_get, get_or, refl}
use Rattle.std.proofs.Common.{sym, ap, inl, inr, arith}
use Rattle.std.specs.List.{list_any, position_or_len}
use Rattle.std.proofs.lemmas.Bool.{cases_Bool, true≢false, eqb-true, eq-eqb, and_parts, not-true, not-false, or_right}
use Rattle.std.proofs.lemmas.Option.{none-some, same_Some, slice_get-map, slice_get_within, get_or_from_slice_get}
use Rattle.std.proofs.lemmas.List.{map-set, set-get_or, length-map, get_or-map}
use Rattle.std.proofs.Math.ListN.{set}
use Rattle.wire_fence.specs.declared.register.FenceDraft.{FenceDraft}
use Rattle.wire_fence.specs.Register.{key_of, called, HasRow, IsCalled, Again, First}

abbrev pub is_key : ℕ → ℕ → ℕ × ℕ → Bool
is_key set_of_call nth k = (set_of_call == k.0) && (nth == k.1)

has_key : (rows : List FenceDraft) (m set_of_call nth : ℕ) → HasRow rows m set_of_call nth → list_any (is_key set_of_call nth) (map key_of rows) ≡ true
has_key [] m set_of_call nth has = absurd (none-some has.row has.there)
has_key (x ∷ rows) zero set_of_call nth has =
    let same = same_Some x has.row has.there in
    rw (eq-eqb set_of_call x.set (sym has.of_set ∙ ap (λ (r : FenceDraft). r.set) (sym same)), eq-eqb nth x.nth (sym has.is_nth ∙ ap (λ (r : FenceDraft). r.nth) (sym same))) refl
has_key (x ∷ rows) (suc m) set_of_call nth has = or_right (is_key set_of_call nth (key_of x)) (list_any (is_key set_of_call nth) (map key_of rows))
    (has_key rows m set_of_call nth (record { row = has.row; there = has.there; of_set = has.of_set; is_nth = has.is_nth }))

last_place : {A : Type 0} (test : A → Bool) (xs : List A) → list_any test xs ≡ false → position_or_len test xs ≡ length xs
last_place test [] none = refl
last_place test (x ∷ xs) none = elim (cases_Bool (test x)) [
  | inl t ↦ absurd (true≢false (sym (rw t refl) ∙ none))
  | inr f ↦ rw f (ap (λ n. 1 + n) (last_place test xs (rw f at none)) ∙ one_more (length xs))
]
  where
    one_more : (n : ℕ) → 1 + n ≡ suc n
    one_more n = omega arith

pub first_call : (rows new : List FenceDraft) (keys : List (ℕ × ℕ)) (set_of_call nth members number : ℕ) (collect is_new : Bool) (row : FenceDraft) → keys ≡ map key_of rows →
    is_new ≡ not (list_any (is_key set_of_call nth) keys) → is_new ≡ true → number ≡ position_or_len (is_key set_of_call nth) keys → new ≡ rows ++ row ∷ [] →
    row ≡ called collect (record { set = set_of_call; nth = nth; missing = members; collects = true }) → IsCalled rows set_of_call nth members collect number new
first_call rows new keys set_of_call nth members number collect is_new row keyed added fresh index pushed is =
    let none : list_any (is_key set_of_call nth) (map key_of rows) ≡ false = ap (list_any (is_key set_of_call nth)) (sym keyed)
    ∙ not-true (list_any (is_key set_of_call nth) keys) (sym added ∙ fresh) in
    First
    (index ∙ ap (position_or_len (is_key set_of_call nth)) keyed ∙ last_place (is_key set_of_call nth) (map key_of rows) none ∙ length-map rows key_of)
    (λ m has. true≢false (sym (has_key rows m set_of_call nth has) ∙ none))
    (pushed ∙ ap (λ r. rows ++ r ∷ []) is)

-- a key that was there has its row
record Finds (rows : List FenceDraft) (set_of_call nth number : ℕ) : Type 0 where
  pub row : FenceDraft
  pub there : slice_get rows number ≡ Some row
  pub of_set : row.set ≡ set_of_call
  pub is_nth : row.nth ≡ nth

finds : (rows : List FenceDraft) (new keys : List (ℕ × ℕ)) (set_of_call nth number : ℕ) (is_new : Bool) → keys ≡ map key_of rows → is_new ≡ not (list_any (is_key set_of_call nth) keys) →
    is_new ≡ false → new ≡ cond (list_any (is_key set_of_call nth) keys) keys (keys ++ (set_of_call, nth) ∷ []) → (k : ℕ × ℕ) × (slice_get new number ≡ Some k) × (is_key set_of_call nth k ≡ true) →
    Finds rows set_of_call nth number
finds rows new keys set_of_call nth number is_new keyed added was_there after (k, there, is) =
    let old : list_any (is_key set_of_call nth) keys ≡ true = not-false (list_any (is_key set_of_call nth) keys) (sym added ∙ was_there) in
    let same : new ≡ map key_of rows = after ∙ ap (λ b. cond b keys (keys ++ (set_of_call, nth) ∷ [])) old ∙ keyed in
    go (slice_get rows number) refl (sym (slice_get-map key_of rows number) ∙ ap (λ xs. slice_get xs number) (sym same) ∙ there)
  where
    go : (o : Option FenceDraft) → slice_get rows number ≡ o → option_map key_of o ≡ Some k → Finds rows set_of_call nth number
    go None e h = absurd (none-some k h)
    go (Some row) e h =
        let parts = and_parts (set_of_call == k.0) (nth == k.1) is in
        let key = same_Some (key_of row) k h in
        record {
          row = row;
          there = e;
          of_set = ap (λ (x : ℕ × ℕ). x.0) key ∙ sym (eqb-true set_of_call k.0 parts.0);
          is_nth = ap (λ (x : ℕ × ℕ). x.1) key ∙ sym (eqb-true nth k.1 parts.1);
        }

pub call_again : (rows : List FenceDraft) (new keys : List (ℕ × ℕ)) (set_of_call nth members number : ℕ) (collect is_new : Bool) (row after : FenceDraft) → keys ≡ map key_of rows →
    is_new ≡ not (list_any (is_key set_of_call nth) keys) → is_new ≡ false → new ≡ cond (list_any (is_key set_of_call nth) keys) keys (keys ++ (set_of_call, nth) ∷ []) → (k : ℕ × ℕ)
    × (slice_get new number ≡ Some k) × (is_key set_of_call nth k ≡ true) → row ≡ get_or rows number row → after ≡ called collect row →
    IsCalled rows set_of_call nth members collect number (set rows number after)
call_again rows new keys set_of_call nth members number collect is_new row after keyed added was_there keys_after stored read is =
    let found = finds rows new keys set_of_call nth number is_new keyed added was_there keys_after stored in
    let same : found.row ≡ row = sym (get_or_from_slice_get rows number found.row row found.there) ∙ sym read in
    Again found.row found.there found.of_set found.is_nth (ap (set rows number) (is ∙ ap (called collect) (sym same)))

pub keyed_again : (rows : List FenceDraft) (new keys : List (ℕ × ℕ)) (set_of_call nth number : ℕ) (collect is_new : Bool) (row after : FenceDraft) → keys ≡ map key_of rows →
    is_new ≡ not (list_any (is_key set_of_call nth) keys) → is_new ≡ false → new ≡ cond (list_any (is_key set_of_call nth) keys) keys (keys ++ (set_of_call, nth) ∷ []) → (k : ℕ × ℕ)
    × (slice_get new number ≡ Some k) × (is_key set_of_call nth k ≡ true) → row ≡ get_or rows number row → after ≡ called collect row → new ≡ map key_of (set rows number after)
keyed_again rows new keys set_of_call nth number collect is_new row after keyed added was_there keys_after stored read is =
    let found = finds rows new keys set_of_call nth number is_new keyed added was_there keys_after stored in
    let within = slice_get_within rows number found.row found.there in
    let old : list_any (is_key set_of_call nth) keys ≡ true = not-false (list_any (is_key set_of_call nth) keys) (sym added ∙ was_there) in
    keys_after
    ∙ ap (λ b. cond b keys (keys ++ (set_of_call, nth) ∷ [])) old
    ∙ keyed
    ∙ sym (set-get_or (map key_of rows) number (key_of row))
    ∙ ap (set (map key_of rows) number) (get_or-map key_of rows number row (key_of row) within ∙ ap key_of (sym read) ∙ ap key_of (sym is))
    ∙ sym (map-set key_of rows number after)

-- one more call of the fence of a row
pub keyed_row : (rows : List FenceDraft) (keys : List (ℕ × ℕ)) (number : ℕ) (collect : Bool) (row after : FenceDraft) → keys ≡ map key_of rows → number < length rows → row ≡ get_or rows number row →
    after ≡ called collect row → keys ≡ map key_of (set rows number after)
keyed_row rows keys number collect row after keyed within read is =
    keyed
    ∙ sym (set-get_or (map key_of rows) number (key_of row))
    ∙ ap (set (map key_of rows) number) (get_or-map key_of rows number row (key_of row) within ∙ ap key_of (sym read) ∙ ap key_of (sym is))
    ∙ sym (map-set key_of rows number after)

pub row_called : (rows : List FenceDraft) (set_of_call nth members number : ℕ) (collect : Bool) (row after : FenceDraft) → HasRow rows number set_of_call nth → row ≡ get_or rows number row →
    after ≡ called collect row → IsCalled rows set_of_call nth members collect number (set rows number after)
row_called rows set_of_call nth members number collect row after has read is =
    let same : has.row ≡ row = sym (get_or_from_slice_get rows number has.row row has.there) ∙ sym read in
    Again has.row has.there has.of_set has.is_nth (ap (set rows number) (is ∙ ap (called collect) (sym same)))

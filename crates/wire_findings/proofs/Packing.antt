-- What entries stand for, beside a table that grows.
use Rattle.std.proofs.Common.{◌≡◌, ◌∙◌, ap, sym, refl, subst, ℕ, suc, ◌+◌, ◌-◌, ◌≤◌, ◌==◌, Bool, true, false, true≢false, not, cond, List, [], ◌∷◌, ◌++◌, Option, Some, None, length, map, ◌↔◌, arith}
use Rattle.std.specs.Prelude.{slice_get, slice_index_or, IsTrue}
use Rattle.std.specs.List.{dedup, dedup_from, IsAllAdjacentAnswer}
use Rattle.std.specs.Cmp.{IsStrictWeakOrder}
use Rattle.std.specs.List.Sorted.{IsPermutation}
use Rattle.std.specs.List.Sorted as order
use Rattle.std.specs.declared.cmp.Ordering.{Ordering}
use Rattle.std.specs.declared.cmp.Ordering.TheVariants.{Less, Equal, Greater}
use Rattle.std.specs.Ordering.{eq_by_cmp, is_eq, is_lt, ordering_reverse}
use Rattle.std.proofs.lemmas.List.Sorted.{IsPermutation-map, ranks_by}
use Rattle.std.proofs.lemmas.Bool.{eqb-false}
use Rattle.std.proofs.lemmas.List.{map-append, length-append, length-map, get_or-map}
use Rattle.wire_types.specs.declared.CallAt.{CallAt}
use Rattle.wire_findings.specs.declared.finding.Finding.{Finding as Told}
use Rattle.wire_findings.specs.declared.packed.Subject.{Subject}
use Rattle.wire_findings.specs.declared.packed.Subject.TheVariants.{Key, Name}
use Rattle.wire_findings.specs.declared.packed.Packed.{Packed}
use Rattle.wire_findings.specs.Standings.{standing, told_cmp, entry_cmp, AreInOrder, AreNamesOf}
use Rattle.wire_findings.specs.Packing.{race_on, told_of, told_by, all_told_by, AreWithin, HasMore}
use Rattle.wire_runs.specs.Plan.{Plan}
use Rattle.wire_runs.specs.Findings.{Finding, IsSorted}
use Rattle.wire_runs.proofs.Lists.{slice_get-append_left}
use Rattle.wire_findings.specs.Findings.{all_shown, lower_name}
use Rattle.wire_findings.specs.Collected.{TellsFinding, AreFound}
use Rattle.wire_findings.proofs.Ordered.{same_place, told_total, list_tells, list_sorted}

of_same : (b : Bool) (o p : Option Subject) (v w : CallAt) → (b ≡ false → o ≡ p) → told_of b o v w ≡ told_of b p v w
of_same true o p v w h = refl
of_same false o p v w h = ap (λ q. race_on q v w) (h refl)

-- an entry stands for the same beside a longer table
more_told : (old new : List Subject) (entry : Packed) → HasMore old new → entry.subject ≤ length old → told_by new entry ≡ told_by old entry
more_told old new entry more within =
    of_same (entry.subject == 0) (slice_get new (entry.subject - 1)) (slice_get old (entry.subject - 1)) entry.by entry.then
    (λ race.
    let some = eqb-false entry.subject 0 race in
    ap (λ l. slice_get l (entry.subject - 1)) more.1 ∙ slice_get-append_left old more.0 (entry.subject - 1) (omega (arith, within, some)))

all_more : (old new : List Subject) (entries : List Packed) → HasMore old new → AreWithin old entries → all_told_by new entries ≡ all_told_by old entries
all_more old new [] more within = refl
all_more old new (entry ∷ entries) more within =
    let first = more_told old new entry more within.0 in
    let rest = all_more old new entries more within.1 in
    λ t. first t ∷ rest t

-- a finding more
pub one_more : (old new : List Subject) (entries : List Packed) (entry : Packed) (finding : Told) → HasMore old new → AreWithin old entries → told_by new entry ≡ finding →
    all_told_by new (entries ++ entry ∷ []) ≡ all_told_by old entries ++ finding ∷ []
one_more old new entries entry finding more within is =
    let before = all_more old new entries more within in
    map-append (told_by new) entries (entry ∷ []) ∙ (λ t. before t ++ is t ∷ [])

-- only the table has grown
pub within_more : (old new : List Subject) (entries : List Packed) → HasMore old new → AreWithin old entries → AreWithin new entries
within_more old new [] more within = tt
within_more old new (entry ∷ entries) more within =
    let size = ap length more.1 ∙ length-append old more.0 in
    let here = within.0 in
    (omega (arith, size, here), within_more old new entries more within.1)

pub within_end : (subjects : List Subject) (entries : List Packed) (entry : Packed) → AreWithin subjects entries → entry.subject ≤ length subjects → AreWithin subjects (entries ++ entry ∷ [])
within_end subjects [] entry within last = (last, tt)
within_end subjects (first ∷ entries) entry within last = (within.0, within_end subjects entries entry within.1 last)

of_standing : (b : Bool) (o : Option Subject) (v w : CallAt) → record { is_race = not b; by = v; then = w } ≡ standing (told_of b o v w)
of_standing true o v w = refl
of_standing false (Some (Key owner key)) v w = refl
of_standing false (Some (Name name)) v w = refl
of_standing false None v w = refl

-- an entry stands where its finding stands
pub standing_told : (subjects : List Subject) (entry : Packed) → record { is_race = not (entry.subject == 0); by = entry.by; then = entry.then } ≡ standing (told_by subjects entry)
standing_told subjects entry = of_standing (entry.subject == 0) (slice_get subjects (entry.subject - 1)) entry.by entry.then

module _ {X Y : Type 0} (f : X → Y) where
  cond_map : (b : Bool) (x y : List X) (v w : List Y) → map f x ≡ v → map f y ≡ w → map f (cond b x y) ≡ cond b v w
  cond_map true x y v w first second = first
  cond_map false x y v w first second = second

  module _ (same : X → X → Bool) (alike : Y → Y → Bool) (is : (x y : X) → same x y ≡ alike (f x) (f y)) where
    dedup_map_from : (k : X) (xs : List X) → map f (dedup_from same k xs) ≡ dedup_from alike (f k) (map f xs)
    dedup_map_from k [] = refl
    dedup_map_from k (x ∷ xs) =
        cond_map (same x k) (dedup_from same k xs) (k ∷ dedup_from same x xs) (dedup_from alike (f k) (map f xs)) (f k ∷ dedup_from alike (f x) (map f xs))
        (dedup_map_from k xs) (ap (λ l. f k ∷ l) (dedup_map_from x xs))
        ∙ ap (λ b. cond b (dedup_from alike (f k) (map f xs)) (f k ∷ dedup_from alike (f x) (map f xs))) (is x k)

    dedup_map : (xs : List X) → map f (dedup same xs) ≡ dedup alike (map f xs)
    dedup_map [] = refl
    dedup_map (x ∷ xs) = dedup_map_from x xs

no_entry : Packed
no_entry = record { by = record { proc = record { number = 0 }; call = 0 }; then = record { proc = record { number = 0 }; call = 0 }; subject = 0 }

-- entries that are sorted stand for findings that are
sorted_told : (names : List (List ℕ)) (subjects : List Subject) (entries : List Packed) → order.IsSorted (entry_cmp names subjects) entries →
    order.IsSorted (told_cmp names) (all_told_by subjects entries)
sorted_told names subjects entries up = λ k d low lt.
    let size = length-map entries (told_by subjects) in
    let here = get_or-map (told_by subjects) entries k no_entry d (omega (arith, lt, size)) in
    let next = get_or-map (told_by subjects) entries (k + 1) no_entry d (omega (arith, lt, size)) in
    (λ t. is_lt (told_cmp names (next t) (here t))) ∙ up k no_entry low (omega (arith, lt, size))

-- whether two entries have one place in the list
abbrev pub same_entry : List (List ℕ) → List Subject → Packed → Packed → Bool
same_entry names subjects = eq_by_cmp (entry_cmp names subjects)

module _ (plan : Plan) (names : List (List ℕ)) (of : AreNamesOf plan names) (subjects : List Subject) (met up list : List Packed) (p : IsPermutation met up)
    (is : list ≡ dedup (same_entry names subjects) up) (found : AreFound plan (all_told_by subjects met)) where
  -- what is kept of the entries stands for what is kept of the findings
  told_once : all_told_by subjects list ≡ dedup (same_place names) (all_told_by subjects up)
  told_once = ap (all_told_by subjects) is ∙ dedup_map (told_by subjects) (same_entry names subjects) (same_place names) (λ x y. refl) up

  moved : IsPermutation (all_told_by subjects met) (all_told_by subjects up)
  moved = IsPermutation-map (told_by subjects) met up p

  -- the list tells what was met
  pub entries_tell : (f : Finding) → TellsFinding plan (all_told_by subjects list) f ↔ TellsFinding plan (all_told_by subjects met) f
  entries_tell = list_tells plan names of (all_told_by subjects met) (all_told_by subjects up) (all_told_by subjects list) moved told_once found

  -- in the order of findings
  pub entries_sorted : order.IsSorted (entry_cmp names subjects) up → IsSorted (lower_name names) (all_shown plan (all_told_by subjects list))
  entries_sorted rising =
      list_sorted plan names of (all_told_by subjects met) (all_told_by subjects up) (all_told_by subjects list) moved told_once found (sorted_told names subjects up rising)

is_less : (r : Ordering) → true ≡ is_lt r → r ≡ Less
is_less Less e = refl
is_less Equal e = absurd (true≢false e)
is_less Greater e = absurd (true≢false e)

-- the test by which entries are sorted is an order
pub entries_rank : (names : List (List ℕ)) (subjects : List Subject) → IsStrictWeakOrder (λ x y. is_lt (entry_cmp names subjects x y))
entries_rank names subjects = ranks_by (told_total names) (told_by subjects)

module _ (names : List (List ℕ)) (subjects : List Subject) where
  -- what a look at all neighbours tells
  pub seen_in_order : (entries : List Packed) (r : Bool) → IsAllAdjacentAnswer (λ x y b. b ≡ is_lt (entry_cmp names subjects x y)) entries r → IsTrue r → AreInOrder names subjects entries
  seen_in_order entries true up all = λ k d lt. is_less (entry_cmp names subjects (slice_index_or entries k d) (slice_index_or entries (k + 1) d)) (up k d lt)
  seen_in_order entries false up all = absurd (true≢false (sym all))

  -- what stands before isn't the same, and nothing that stands later stands before it
  turned : (x y : Packed) → entry_cmp names subjects x y ≡ Less → entry_cmp names subjects y x ≡ ordering_reverse Less
  turned x y less = (told_total names).antisymm (told_by subjects y) (told_by subjects x) ∙ ap ordering_reverse less

  rest_in_order : (first : Packed) (entries : List Packed) → AreInOrder names subjects (first ∷ entries) → AreInOrder names subjects entries
  rest_in_order first entries up = λ k d lt.
      let next : suc k + 1 ≡ suc (k + 1) = omega arith in
      subst (λ n. entry_cmp names subjects (slice_index_or entries k d) (slice_index_or (first ∷ entries) n d) ≡ Less) next (up (suc k) d (omega (arith, lt)))

  kept_from : (first : Packed) (entries : List Packed) → AreInOrder names subjects (first ∷ entries) → dedup_from (same_entry names subjects) first entries ≡ first ∷ entries
  kept_from first [] up = refl
  kept_from first (next ∷ entries) up =
      let other : same_entry names subjects next first ≡ false = ap is_eq (turned first next (up 0 first (omega arith))) in
      ap (λ b. cond b (dedup_from (same_entry names subjects) first entries) (first ∷ dedup_from (same_entry names subjects) next entries)) other
      ∙ ap (λ l. first ∷ l) (kept_from next entries (rest_in_order first (next ∷ entries) up))

  -- of entries in order each is there once
  pub all_kept : (entries : List Packed) → AreInOrder names subjects entries → dedup (same_entry names subjects) entries ≡ entries
  all_kept [] up = refl
  all_kept (first ∷ entries) up = kept_from first entries up

  -- and they are sorted
  pub in_order_sorted : (entries : List Packed) → AreInOrder names subjects entries → order.IsSorted (entry_cmp names subjects) entries
  in_order_sorted entries up = λ k d low lt. ap is_lt (turned (slice_index_or entries k d) (slice_index_or entries (k + 1) d) (up k d lt))

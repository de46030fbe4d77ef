-- What one more call does to the rows that are read.
use Rattle.std.proofs.Common.{◌≡◌, ◌∙◌, ℕ, zero, suc, ◌+◌, ◌<◌, ◌≤◌, List, [], ◌∷◌, ◌++◌, take, length, Bool, true, false, cond, ◌&&◌, ◌==◌, nat_le, Option, Some, None, slice_get, ◌⊎◌, refl, sym, ap}
use Rattle.std.proofs.Common.{subst, inl, inr, arith, length-append, add-one}
use Rattle.std.proofs.lemmas.Bool.{cases_Bool, cases_eq, cases_lt, eqb-true, eq-eqb, ne_eqb, le-leb, lt-leb, leb-true, and_parts, false_from_ne_true, true≢false}
use Rattle.std.proofs.lemmas.Option.{none-some, same_Some}
use Rattle.std.proofs.lemmas.List.{length-set}
use Rattle.std.proofs.lemmas.List.Sums.{sum_by_push, count_by-le-length}
use Rattle.std.proofs.Math.ListN.{set}
use Rattle.wire_runs.specs.Plan.{update}
use Rattle.wire_runs.specs.Fences.{is_member}
use Rattle.wire_types.specs.declared.Call.{Call}
use Rattle.wire_types.specs.declared.Call.TheVariants.{Fence}
use Rattle.wire_runs.proofs.Lists.{take_get, slice_get_push_kept, slice_get_push_last}
use Rattle.wire_runs.proofs.Basics.{update_same, update_other}
use Rattle.wire_scripts.specs.Scripts.{Scripts, IsSound, set_at}
use Rattle.wire_fence.specs.declared.register.FenceDraft.{FenceDraft}
use Rattle.wire_fence.specs.FenceTable.{is_over, fence_count, written_calls}
use Rattle.wire_fence.specs.Reading.{says_with, says_to}
use Rattle.wire_fence.specs.Register.{called, HasRow, IsCalled, Again, First, read_count, TellsOfRead, AreRead}
use Rattle.wire_fence.proofs.Counts.{count_same, all_same, count_none, all_pass, count_one_more, all_one_more, canonical_distinct}
use Rattle.wire_fence.proofs.Events.{set_canonical}
use Rattle.wire_fence.proofs.Missing.{le_same}

-- one more call of a list
pub count_call : (calls : List Call) (n set_of_row : ℕ) (call : Call) → slice_get calls n ≡ Some call →
    fence_count set_of_row (take (suc n) calls) ≡ fence_count set_of_row (take n calls) + cond (is_over set_of_row call) 1 0
count_call calls n set_of_row call is =
    ap (fence_count set_of_row) (take_get calls n call is)
    ∙ sum_by_push (λ x. cond (is_over set_of_row x) 1 0) (take n calls) call

-- a fence that isn't called yet says nothing
pub says_none : (set_of_row j : ℕ) (calls : List Call) (n : ℕ) → fence_count set_of_row (take n calls) < j → says_to set_of_row j calls n ≡ true
says_none set_of_row j calls zero low = refl
says_none set_of_row j calls (suc n) low = go (slice_get calls n) refl (says_none set_of_row j calls n)
  where
    go : (o : Option Call) → slice_get calls n ≡ o → (fence_count set_of_row (take n calls) < j → says_to set_of_row j calls n ≡ true) →
        says_with set_of_row j (fence_count set_of_row (take n calls)) (says_to set_of_row j calls n) o ≡ true
    go (Some (Fence other collect)) is ih =
        let more = count_call calls n set_of_row (Fence other collect) is in
        elim (cases_Bool (other == set_of_row)) [
          | inl t ↦
              let one : fence_count set_of_row (take (suc n) calls) ≡ fence_count set_of_row (take n calls) + 1 = more ∙ ap (λ b. fence_count set_of_row (take n calls) + cond b 1 0) t in
              rw (t, ne_eqb (suc (fence_count set_of_row (take n calls))) j (λ e. omega (arith, e, one, low))) (ih (omega (arith, one, low)))
          | inr f ↦
              let one : fence_count set_of_row (take (suc n) calls) ≡ fence_count set_of_row (take n calls) + 0 = more ∙ ap (λ b. fence_count set_of_row (take n calls) + cond b 1 0) f in
              rw f (ih (omega (arith, one, low)))
        ]
    go (Some call) is ih = ih (not_counted call (count_call calls n set_of_row call is))
      where
        not_counted : (x : Call) → fence_count set_of_row (take (suc n) calls) ≡ fence_count set_of_row (take n calls) + cond (is_over set_of_row x) 1 0 → fence_count set_of_row (take n calls) < j
        not_counted x more = let some : fence_count set_of_row (take n calls) ≤ fence_count set_of_row (take (suc n) calls) = omega (arith, more) in omega (arith, some, low)
    go None is ih = ih (subst (λ k. k < j) (ap (fence_count set_of_row) (past calls n is)) low)
      where
        past : (xs : List Call) (k : ℕ) → slice_get xs k ≡ None → take (suc k) xs ≡ take k xs
        past [] zero e = refl
        past [] (suc k) e = refl
        past (x ∷ xs) zero e = absurd (none-some x (sym e))
        past (x ∷ xs) (suc k) e = ap (λ ys. x ∷ ys) (past xs k e)

-- reading that doesn't change what is counted changes nothing
pub read_same : (s : Scripts) (read now : ℕ → ℕ) (rows : List FenceDraft) → ((m set_of_row : ℕ) → read_count s now m set_of_row ≡ read_count s read m set_of_row) →
    ((m set_of_row j : ℕ) → says_to set_of_row j (written_calls s m) (now m) ≡ says_to set_of_row j (written_calls s m) (read m)) → AreRead s read rows → AreRead s now rows
read_same s read now rows counts says are = record {
  each = λ number row there.
      let is = are.each number row there in
      record {
        of_set = is.of_set;
        from_one = is.from_one;
        missing =
            ap (λ n. row.missing + n) (count_same (λ m. nat_le row.nth (read_count s now m row.set)) (λ m. nat_le row.nth (read_count s read m row.set)) (λ m. ap (nat_le row.nth) (counts m row.set))
            (set_at s.sets row.set))
            ∙ is.missing;
        collects = is.collects ∙ sym (all_same (λ m. says_to row.set row.nth (written_calls s m) (now m)) (λ m. says_to row.set row.nth (written_calls s m) (read m)) (λ m. says m row.set row.nth)
            (set_at s.sets row.set));
      };
  once = are.once;
  there = λ m set_of_row nth low from_one le. are.there m set_of_row nth low from_one (subst (λ k. nth ≤ k) (counts m set_of_row) le);
}

module _ (s : Scripts) (sound : IsSound s) (read : ℕ → ℕ) (p n set_of_call : ℕ) (collect : Bool) (is : slice_get (written_calls s p) n ≡ Some (Fence set_of_call collect)) where
  abbrev before : ℕ → ℕ
  before = update read p n

  abbrev after : ℕ → ℕ
  after = update read p (suc n)

  -- the number of this call among the process's fences over its set, from 0
  abbrev count : ℕ
  count = fence_count set_of_call (take n (written_calls s p))

  elsewhere : (m : ℕ) → (m ≡ p → ⊥) → before m ≡ after m
  elsewhere m other = update_other read p n m other ∙ sym (update_other read p (suc n) m other)

  count_elsewhere : (m set_of_row : ℕ) → (m ≡ p → ⊥) → read_count s before m set_of_row ≡ read_count s after m set_of_row
  count_elsewhere m set_of_row other = ap (λ k. fence_count set_of_row (take k (written_calls s m))) (elsewhere m other)

  count_before : (set_of_row : ℕ) → read_count s before p set_of_row ≡ fence_count set_of_row (take n (written_calls s p))
  count_before set_of_row = ap (λ k. fence_count set_of_row (take k (written_calls s p))) (update_same read p n)

  count_after : (set_of_row : ℕ) → read_count s after p set_of_row ≡ fence_count set_of_row (take n (written_calls s p)) + cond (set_of_call == set_of_row) 1 0
  count_after set_of_row = ap (λ k. fence_count set_of_row (take k (written_calls s p))) (update_same read p (suc n)) ∙ count_call (written_calls s p) n set_of_row (Fence set_of_call collect) is

  count_here : read_count s after p set_of_call ≡ suc count
  count_here = count_after set_of_call ∙ ap (λ b. count + cond b 1 0) (eq-eqb set_of_call set_of_call refl) ∙ add-one count

  -- where a row isn't the called one
  others_count : (set_of_row nth : ℕ) → ((set_of_row ≡ set_of_call) × (nth ≡ suc count) → ⊥) → nat_le nth (read_count s before p set_of_row) ≡ nat_le nth (read_count s after p set_of_row)
  others_count set_of_row nth other = elim (cases_eq set_of_row set_of_call) [
    | inl same ↦
        ap (nat_le nth) (count_before set_of_row ∙ ap (λ k. fence_count k (take n (written_calls s p))) same)
        ∙ sym (le_same nth count (λ e. other (same, e)))
        ∙ ap (nat_le nth) (sym (ap (read_count s after p) same ∙ count_here))
    | inr ne ↦
        ap (nat_le nth) (
        count_before set_of_row
        ∙ plus_none (fence_count set_of_row (take n (written_calls s p)))
        ∙ ap (λ b. fence_count set_of_row (take n (written_calls s p)) + cond b 1 0) (sym (ne_eqb set_of_call set_of_row (λ e. ne (sym e))))
        ∙ sym (count_after set_of_row)
        )
  ]
    where
      plus_none : (k : ℕ) → k ≡ k + 0
      plus_none k = omega arith

  says_after : (set_of_row nth : ℕ) → says_to set_of_row nth (written_calls s p) (after p) ≡ cond ((set_of_call == set_of_row) && (suc (fence_count set_of_row (take n (written_calls s p))) == nth))
      collect (says_to set_of_row nth (written_calls s p) n)
  says_after set_of_row nth =
      ap (says_to set_of_row nth (written_calls s p)) (update_same read p (suc n))
      ∙ ap (says_with set_of_row nth (fence_count set_of_row (take n (written_calls s p))) (says_to set_of_row nth (written_calls s p) n)) is

  says_before : (set_of_row nth : ℕ) → says_to set_of_row nth (written_calls s p) (before p) ≡ says_to set_of_row nth (written_calls s p) n
  says_before set_of_row nth = ap (says_to set_of_row nth (written_calls s p)) (update_same read p n)

  others_say : (set_of_row nth : ℕ) → ((set_of_row ≡ set_of_call) × (nth ≡ suc count) → ⊥) →
      says_to set_of_row nth (written_calls s p) (before p) ≡ says_to set_of_row nth (written_calls s p) (after p)
  others_say set_of_row nth other =
      let fails : ((set_of_call == set_of_row) && (suc (fence_count set_of_row (take n (written_calls s p))) == nth)) ≡ false =
      false_from_ne_true ((set_of_call == set_of_row) && (suc (fence_count set_of_row (take n (written_calls s p))) == nth)) (λ t.
      let parts = and_parts (set_of_call == set_of_row) (suc (fence_count set_of_row (take n (written_calls s p))) == nth) t in
      let same = sym (eqb-true set_of_call set_of_row parts.0) in
      other (same, sym (eqb-true (suc (fence_count set_of_row (take n (written_calls s p)))) nth parts.1) ∙ ap (λ k. suc (fence_count k (take n (written_calls s p)))) same))
      in
      says_before set_of_row nth ∙ sym (says_after set_of_row nth ∙ ap (λ b. cond b collect (says_to set_of_row nth (written_calls s p) n)) fails)

  other_row : (row : FenceDraft) → ((row.set ≡ set_of_call) × (row.nth ≡ suc count) → ⊥) → TellsOfRead s before row → TellsOfRead s after row
  other_row row other was = record {
    of_set = was.of_set;
    from_one = was.from_one;
    missing =
        ap (λ k. row.missing + k) (
        count_same (λ m. nat_le row.nth (read_count s after m row.set)) (λ m. nat_le row.nth (read_count s before m row.set)) (λ m. elim (cases_eq m p) [
          | inl here ↦
              ap (λ k. nat_le row.nth (read_count s after k row.set)) here
              ∙ sym (others_count row.set row.nth other)
              ∙ ap (λ k. nat_le row.nth (read_count s before k row.set)) (sym here)
          | inr ne ↦ ap (nat_le row.nth) (sym (count_elsewhere m row.set ne))
        ]) (set_at s.sets row.set)
        )
        ∙ was.missing;
    collects =
        was.collects
        ∙ all_same (λ m. says_to row.set row.nth (written_calls s m) (before m)) (λ m. says_to row.set row.nth (written_calls s m) (after m)) (λ m. elim (cases_eq m p) [
          | inl here ↦
              ap (λ k. says_to row.set row.nth (written_calls s k) (before k)) here
              ∙ others_say row.set row.nth other
              ∙ ap (λ k. says_to row.set row.nth (written_calls s k) (after k)) (sym here)
          | inr ne ↦ ap (says_to row.set row.nth (written_calls s m)) (elsewhere m ne)
        ]) (set_at s.sets row.set);
  }

  -- the called row
  called_row : (row : FenceDraft) → row.set ≡ set_of_call → row.nth ≡ suc count → TellsOfRead s before row → TellsOfRead s after (called collect row)
  called_row row of_set is_nth was =
      let members = set_at s.sets row.set in
      let distinct = canonical_distinct members (set_canonical s row.set sound was.of_set) in
      let member : is_member members p ≡ true = ap (λ k. is_member (set_at s.sets k) p) of_set ∙ (sound.members p n set_of_call collect is).1 in
      let counted_before : read_count s before p row.set ≡ count = ap (read_count s before p) of_set ∙ count_before set_of_call in
      let counted_after : read_count s after p row.set ≡ suc count = ap (read_count s after p) of_set ∙ count_here in
      let not_yet : nat_le row.nth (read_count s before p row.set) ≡ false = lt-leb row.nth (read_count s before p row.set) (omega (arith, counted_before, is_nth)) in
      let now : nat_le row.nth (read_count s after p row.set) ≡ true = le-leb row.nth (read_count s after p row.set) (omega (arith, counted_after, is_nth)) in
      let one_more = count_one_more (λ m. nat_le row.nth (read_count s before m row.set)) (λ m. nat_le row.nth (read_count s after m row.set)) p
      (λ m ne. ap (nat_le row.nth) (count_elsewhere m row.set ne)) not_yet now members distinct member in
      let le = count_by-le-length (λ m. nat_le row.nth (read_count s after m row.set)) members in
      let sum = was.missing in
      let passes : says_to row.set row.nth (written_calls s p) (before p) ≡ true =
      says_before row.set row.nth ∙ says_none row.set row.nth (written_calls s p) n (let same = ap (λ k. fence_count k (take n (written_calls s p))) of_set in omega (arith, same, is_nth))
      in
      let says : says_to row.set row.nth (written_calls s p) (after p) ≡ collect =
      says_after row.set row.nth
      ∙ rw (
        eq-eqb set_of_call row.set (sym of_set),
        eq-eqb (suc (fence_count row.set (take n (written_calls s p)))) row.nth (ap (λ k. suc (fence_count k (take n (written_calls s p)))) of_set
            ∙ sym is_nth),
      ) refl
      in
      record {
        of_set = was.of_set;
        from_one = was.from_one;
        missing = omega (arith, one_more, le, sum);
        collects =
            ap (λ b. b && collect) was.collects
            ∙ sym (all_one_more (λ m. says_to row.set row.nth (written_calls s m) (before m)) (λ m. says_to row.set row.nth (written_calls s m) (after m)) p collect
            (λ m ne. ap (says_to row.set row.nth (written_calls s m)) (elsewhere m ne)) passes says members member);
      }

  -- a fence that nobody has called
  abbrev blank : FenceDraft
  blank = record { set = set_of_call; nth = suc count; missing = length (set_at s.sets set_of_call); collects = true }

  blank_row : (rows : List FenceDraft) → AreRead s before rows → ((m : ℕ) → HasRow rows m set_of_call (suc count) → ⊥) → TellsOfRead s before blank
  blank_row rows are none =
      let there = (sound.members p n set_of_call collect is).0 in
      let low : (m : ℕ) → read_count s before m set_of_call < suc count = λ m. elim (cases_lt (read_count s before m set_of_call) (suc count)) [
        | inl below ↦ below
        | inr le ↦ let has = are.there m set_of_call (suc count) there (omega arith) le in absurd (none has.0 has.1)
      ] in
      let nobody = count_none (λ m. nat_le (suc count) (read_count s before m set_of_call)) (λ m. lt-leb (suc count) (read_count s before m set_of_call) (low m)) (set_at s.sets set_of_call) in
      record {
        of_set = there;
        from_one = omega arith;
        missing = omega (arith, nobody);
        collects = sym (all_pass (λ m. says_to set_of_call (suc count) (written_calls s m) (before m)) (λ m. says_none set_of_call (suc count) (written_calls s m) (before m) (low m))
            (set_at s.sets set_of_call));
      }

  -- the fences that are there afterwards
  there_after : (rows new : List FenceDraft) (number : ℕ) → AreRead s before rows → ((m k nth : ℕ) → HasRow rows m k nth → HasRow new m k nth) → HasRow new number set_of_call (suc count) →
      (m set_of_row nth : ℕ) → set_of_row < length s.sets → 0 < nth → nth ≤ read_count s after m set_of_row → (number : ℕ) × HasRow new number set_of_row nth
  there_after rows new number are kept here m set_of_row nth low from_one le = elim (cases_Bool (nat_le nth (read_count s before m set_of_row))) [
    | inl t ↦ let has = are.there m set_of_row nth low from_one (leb-true nth (read_count s before m set_of_row) t) in (has.0, kept has.0 set_of_row nth has.1)
    | inr f ↦
        elim (cases_eq m p) [
          | inr ne ↦ absurd (true≢false (sym (le-leb nth (read_count s before m set_of_row) (subst (λ k. nth ≤ k) (sym (count_elsewhere m set_of_row ne)) le)) ∙ f))
          | inl same ↦
              let f_p : nat_le nth (read_count s before p set_of_row) ≡ false = ap (λ k. nat_le nth (read_count s before k set_of_row)) (sym same) ∙ f in
              let le_p : nth ≤ read_count s after p set_of_row = subst (λ k. nth ≤ read_count s after k set_of_row) same le in
              let t_p = le-leb nth (read_count s after p set_of_row) le_p in
              elim (cases_eq set_of_row set_of_call) [
                | inr other ↦ absurd (true≢false (sym t_p ∙ sym (others_count set_of_row nth (λ both. other both.0)) ∙ f_p))
                | inl of_set ↦
                    elim (cases_eq nth (suc count)) [
                      | inr other ↦ absurd (true≢false (sym t_p ∙ sym (others_count set_of_row nth (λ both. other both.1)) ∙ f_p))
                      | inl last ↦ (number, record { row = here.row; there = here.there; of_set = here.of_set ∙ sym of_set; is_nth = here.is_nth ∙ sym last })
                    ]
              ]
        ]
  ]

-- the rows by their numbers, where one is written or one comes last
set_at_number : (rows : List FenceDraft) (number : ℕ) (row : FenceDraft) (m : ℕ) (x : FenceDraft) → slice_get (set rows number row) m ≡ Some x → ((m ≡ number) × (x ≡ row))
    ⊎ (slice_get rows m ≡ Some x)
set_at_number [] number row m x h = absurd (none-some x h)
set_at_number (y ∷ rows) zero row zero x h = inl (refl, same_Some x row (sym h))
set_at_number (y ∷ rows) zero row (suc m) x h = inr h
set_at_number (y ∷ rows) (suc number) row zero x h = inr h
set_at_number (y ∷ rows) (suc number) row (suc m) x h = elim (set_at_number rows number row m x h) [
  | inl here ↦ inl (ap suc here.0, here.1)
  | inr old ↦ inr old
]

set_there : (rows : List FenceDraft) (number : ℕ) (was row : FenceDraft) → slice_get rows number ≡ Some was → slice_get (set rows number row) number ≡ Some row
set_there [] number was row h = absurd (none-some was h)
set_there (y ∷ rows) zero was row h = refl
set_there (y ∷ rows) (suc number) was row h = set_there rows number was row h

set_elsewhere : (rows : List FenceDraft) (number : ℕ) (row : FenceDraft) (m : ℕ) (x : FenceDraft) → (m ≡ number → ⊥) → slice_get rows m ≡ Some x → slice_get (set rows number row) m ≡ Some x
set_elsewhere [] number row m x ne h = absurd (none-some x h)
set_elsewhere (y ∷ rows) zero row zero x ne h = absurd (ne refl)
set_elsewhere (y ∷ rows) zero row (suc m) x ne h = h
set_elsewhere (y ∷ rows) (suc number) row zero x ne h = h
set_elsewhere (y ∷ rows) (suc number) row (suc m) x ne h = set_elsewhere rows number row m x (λ e. ne (ap suc e)) h

push_at : (rows : List FenceDraft) (row : FenceDraft) (m : ℕ) (x : FenceDraft) → slice_get (rows ++ row ∷ []) m ≡ Some x → ((m ≡ length rows) × (x ≡ row)) ⊎ (slice_get rows m ≡ Some x)
push_at [] row zero x h = inl (refl, same_Some x row (sym h))
push_at [] row (suc m) x h = absurd (none-some x h)
push_at (y ∷ rows) row zero x h = inr h
push_at (y ∷ rows) row (suc m) x h = elim (push_at rows row m x h) [
  | inl here ↦ inl (ap suc here.0, here.1)
  | inr old ↦ inr old
]

-- each row keeps its place
pub kept_row : (rows new : List FenceDraft) (set_of_call nth members number : ℕ) (collect : Bool) → IsCalled rows set_of_call nth members collect number new → (m k j : ℕ) → HasRow rows m k j →
    HasRow new m k j
kept_row rows new set_of_call nth members number collect (Again row there of_set is_nth made) m k j has = elim (cases_eq m number) [
  | inl here ↦
      let same : has.row ≡ row = same_Some has.row row (sym has.there ∙ ap (slice_get rows) here ∙ there) in
      record {
        row = called collect row;
        there = ap (λ xs. slice_get xs m) made ∙ ap (slice_get (set rows number (called collect row))) here ∙ set_there rows number row (called collect row) there;
        of_set = ap (λ (r : FenceDraft). r.set) (sym same) ∙ has.of_set;
        is_nth = ap (λ (r : FenceDraft). r.nth) (sym same) ∙ has.is_nth;
      }
  | inr ne ↦
      record {
        row = has.row;
        there = ap (λ xs. slice_get xs m) made ∙ set_elsewhere rows number (called collect row) m has.row ne has.there;
        of_set = has.of_set;
        is_nth = has.is_nth;
      }
]
kept_row rows new set_of_call nth members number collect (First last none made) m k j has =
    let row = called collect (record { set = set_of_call; nth = nth; missing = members; collects = true }) in
    record {
      row = has.row;
      there = ap (λ xs. slice_get xs m) made ∙ slice_get_push_kept rows row m has.row has.there;
      of_set = has.of_set;
      is_nth = has.is_nth;
    }

-- and the call's own is there
pub row_of_call : (rows new : List FenceDraft) (set_of_call nth members number : ℕ) (collect : Bool) → IsCalled rows set_of_call nth members collect number new → HasRow new number set_of_call nth
row_of_call rows new set_of_call nth members number collect (Again row there of_set is_nth made) = record {
  row = called collect row;
  there = ap (λ xs. slice_get xs number) made ∙ set_there rows number row (called collect row) there;
  of_set = of_set;
  is_nth = is_nth;
}
row_of_call rows new set_of_call nth members number collect (First last none made) = record {
  row = called collect (record { set = set_of_call; nth = nth; missing = members; collects = true });
  there = ap (λ xs. slice_get xs number) made ∙ ap (slice_get (rows ++ called collect (record { set = set_of_call; nth = nth; missing = members; collects = true }) ∷ [])) last
      ∙ slice_get_push_last rows (called collect (record { set = set_of_call; nth = nth; missing = members; collects = true }));
  of_set = refl;
  is_nth = refl;
}

-- there is at most one row more
pub few_rows : (rows new : List FenceDraft) (set_of_call nth members number : ℕ) (collect : Bool) → IsCalled rows set_of_call nth members collect number new → length new ≤ length rows + 1
few_rows rows new set_of_call nth members number collect (Again row there of_set is_nth made) = let same = ap length made ∙ length-set rows number (called collect row) in omega (arith, same)
few_rows rows new set_of_call nth members number collect (First last none made) =
    let row = called collect (record { set = set_of_call; nth = nth; missing = members; collects = true }) in
    let more : length new ≡ length rows + 1 = ap length made ∙ length-append rows (row ∷ []) in
    omega (arith, more)

-- a row that is there afterwards was there, or is the call's own
row_before : (rows new : List FenceDraft) (set_of_call nth members number : ℕ) (collect : Bool) → IsCalled rows set_of_call nth members collect number new → (m k j : ℕ) → HasRow new m k j →
    HasRow rows m k j ⊎ ((m ≡ number) × ((k ≡ set_of_call) × (j ≡ nth)))
row_before rows new set_of_call nth members number collect (Again row there of_set is_nth made) m k j has = elim
    (set_at_number rows number (called collect row) m has.row (ap (λ xs. slice_get xs m) (sym made) ∙ has.there)) [
      | inl here ↦ inr (here.0, (sym has.of_set ∙ ap (λ (r : FenceDraft). r.set) here.1 ∙ of_set, sym has.is_nth ∙ ap (λ (r : FenceDraft). r.nth) here.1 ∙ is_nth))
      | inr old ↦ inl (record { row = has.row; there = old; of_set = has.of_set; is_nth = has.is_nth })
    ]
row_before rows new set_of_call nth members number collect (First last none made) m k j has = elim
    (push_at rows (called collect (record { set = set_of_call; nth = nth; missing = members; collects = true })) m has.row (ap (λ xs. slice_get xs m) (sym made) ∙ has.there)) [
      | inl here ↦ inr (here.0 ∙ sym last, (sym has.of_set ∙ ap (λ (r : FenceDraft). r.set) here.1, sym has.is_nth ∙ ap (λ (r : FenceDraft). r.nth) here.1))
      | inr old ↦ inl (record { row = has.row; there = old; of_set = has.of_set; is_nth = has.is_nth })
    ]

-- a row that was there with the call's set and number is the call's own
same_place : (s : Scripts) (read : ℕ → ℕ) (rows new : List FenceDraft) (set_of_call nth members number : ℕ) (collect : Bool) → AreRead s read rows →
    IsCalled rows set_of_call nth members collect number new → (m : ℕ) → HasRow rows m set_of_call nth → m ≡ number
same_place s read rows new set_of_call nth members number collect are (Again row there of_set is_nth made) m has = are.once m number set_of_call nth has
    (record { row = row; there = there; of_set = of_set; is_nth = is_nth })
same_place s read rows new set_of_call nth members number collect are (First last none made) m has = absurd (none m has)

once_after : (s : Scripts) (read : ℕ → ℕ) (rows new : List FenceDraft) (set_of_call nth members number : ℕ) (collect : Bool) → AreRead s read rows →
    IsCalled rows set_of_call nth members collect number new → (m n k j : ℕ) → HasRow new m k j → HasRow new n k j → m ≡ n
once_after s read rows new set_of_call nth members number collect are call m n k j at_m at_n = elim (row_before rows new set_of_call nth members number collect call m k j at_m) [
  | inl old_m ↦
      elim (row_before rows new set_of_call nth members number collect call n k j at_n) [
        | inl old_n ↦ are.once m n k j old_m old_n
        | inr new_n ↦ same_place s read rows new set_of_call nth members number collect are call m (renamed rows m k j set_of_call nth new_n.1.0 new_n.1.1 old_m) ∙ sym new_n.0
      ]
  | inr new_m ↦
      elim (row_before rows new set_of_call nth members number collect call n k j at_n) [
        | inl old_n ↦ new_m.0 ∙ sym (same_place s read rows new set_of_call nth members number collect are call n (renamed rows n k j set_of_call nth new_m.1.0 new_m.1.1 old_n))
        | inr new_n ↦ new_m.0 ∙ sym new_n.0
      ]
]
  where
    renamed : (xs : List FenceDraft) (i a b c d : ℕ) → a ≡ c → b ≡ d → HasRow xs i a b → HasRow xs i c d
    renamed xs i a b c d e f has = record { row = has.row; there = has.there; of_set = has.of_set ∙ e; is_nth = has.is_nth ∙ f }

-- one more fence call is read
each_after : (s : Scripts) (sound : IsSound s) (read : ℕ → ℕ) (p n set_of_call : ℕ) (collect : Bool) (is : slice_get (written_calls s p) n ≡ Some (Fence set_of_call collect))
    (rows new : List FenceDraft) (number : ℕ) → AreRead s (update read p n) rows →
    IsCalled rows set_of_call (suc (fence_count set_of_call (take n (written_calls s p)))) (length (set_at s.sets set_of_call)) collect number new → (m : ℕ) (row : FenceDraft) →
    slice_get new m ≡ Some row → TellsOfRead s (update read p (suc n)) row
each_after s sound read p n set_of_call collect is rows new number are (Again row there of_set is_nth made) m x at_m = elim
    (set_at_number rows number (called collect row) m x (ap (λ xs. slice_get xs m) (sym made) ∙ at_m)) [
      | inl here ↦ subst (TellsOfRead s (update read p (suc n))) (sym here.1) (called_row s sound read p n set_of_call collect is row of_set is_nth (are.each number row there))
      | inr old ↦
          elim (cases_eq m number) [
            | inl same ↦
                let new_row : x ≡ called collect row = same_Some x (called collect row)
                (sym at_m ∙ ap (λ xs. slice_get xs m) made ∙ ap (slice_get (set rows number (called collect row))) same ∙ set_there rows number row (called collect row) there) in
                subst (TellsOfRead s (update read p (suc n))) (sym new_row) (called_row s sound read p n set_of_call collect is row of_set is_nth (are.each number row there))
            | inr ne ↦
                other_row s sound read p n set_of_call collect is x
                (λ both. ne (are.once m number set_of_call (suc (fence_count set_of_call (take n (written_calls s p)))) (record { row = x; there = old; of_set = both.0; is_nth = both.1 })
                (record { row = row; there = there; of_set = of_set; is_nth = is_nth })))
                (are.each m x old)
          ]
    ]
each_after s sound read p n set_of_call collect is rows new number are (First last none made) m x at_m =
    let first : FenceDraft = record { set = set_of_call; nth = suc (fence_count set_of_call (take n (written_calls s p))); missing = length (set_at s.sets set_of_call); collects = true } in
    elim (push_at rows (called collect first) m x (ap (λ xs. slice_get xs m) (sym made) ∙ at_m)) [
      | inl here ↦ subst (TellsOfRead s (update read p (suc n))) (sym here.1)
          (called_row s sound read p n set_of_call collect is first refl refl (blank_row s sound read p n set_of_call collect is rows are none))
      | inr old ↦
          other_row s sound read p n set_of_call collect is x
          (λ both. none m (record { row = x; there = old; of_set = both.0; is_nth = both.1 }))
          (are.each m x old)
    ]

pub read_fence : (s : Scripts) (sound : IsSound s) (read : ℕ → ℕ) (p n set_of_call : ℕ) (collect : Bool) (is : slice_get (written_calls s p) n ≡ Some (Fence set_of_call collect))
    (rows new : List FenceDraft) (number : ℕ) → AreRead s (update read p n) rows →
    IsCalled rows set_of_call (suc (fence_count set_of_call (take n (written_calls s p)))) (length (set_at s.sets set_of_call)) collect number new → AreRead s (update read p (suc n)) new
read_fence s sound read p n set_of_call collect is rows new number are call =
    let nth = suc (fence_count set_of_call (take n (written_calls s p))) in
    let members = length (set_at s.sets set_of_call) in
    record {
      each = each_after s sound read p n set_of_call collect is rows new number are call;
      once = once_after s (update read p n) rows new set_of_call nth members number collect are call;
      there = there_after s sound read p n set_of_call collect is rows new number are (kept_row rows new set_of_call nth members number collect call)
          (row_of_call rows new set_of_call nth members number collect call);
    }

-- one more call is read that is no fence
pub read_other : (s : Scripts) (read : ℕ → ℕ) (p n : ℕ) (call : Call) (rows : List FenceDraft) → slice_get (written_calls s p) n ≡ Some call → ((k : ℕ) → is_over k call ≡ false) →
    ((k j m : ℕ) (b : Bool) → says_with k j m b (Some call) ≡ b) → AreRead s (update read p n) rows → AreRead s (update read p (suc n)) rows
read_other s read p n call rows is over silent are =
    read_same s (update read p n) (update read p (suc n)) rows
    (λ m k. elim (cases_eq m p) [
      | inl here ↦
          ap (λ q. read_count s (update read p (suc n)) q k) here
          ∙ ap (λ v. fence_count k (take v (written_calls s p))) (update_same read p (suc n))
          ∙ count_call (written_calls s p) n k call is
          ∙ ap (λ b. fence_count k (take n (written_calls s p)) + cond b 1 0) (over k)
          ∙ plus_none (fence_count k (take n (written_calls s p)))
          ∙ ap (λ v. fence_count k (take v (written_calls s p))) (sym (update_same read p n))
          ∙ ap (λ q. read_count s (update read p n) q k) (sym here)
      | inr ne ↦ ap (λ v. fence_count k (take v (written_calls s m))) (update_other read p (suc n) m ne ∙ sym (update_other read p n m ne))
    ])
    (λ m k j. elim (cases_eq m p) [
      | inl here ↦
          ap (λ q. says_to k j (written_calls s q) (update read p (suc n) q)) here
          ∙ ap (says_to k j (written_calls s p)) (update_same read p (suc n))
          ∙ ap (says_with k j (fence_count k (take n (written_calls s p))) (says_to k j (written_calls s p) n)) is
          ∙ silent k j (fence_count k (take n (written_calls s p))) (says_to k j (written_calls s p) n)
          ∙ ap (says_to k j (written_calls s p)) (sym (update_same read p n))
          ∙ ap (λ q. says_to k j (written_calls s q) (update read p n q)) (sym here)
      | inr ne ↦ ap (says_to k j (written_calls s m)) (update_other read p (suc n) m ne ∙ sym (update_other read p n m ne))
    ])
    are
  where
    plus_none : (k : ℕ) → k + 0 ≡ k
    plus_none k = omega arith

-- How far the reading of calls has come.
use Rattle.std.proofs.Common.{◌≡◌, ◌∙◌, ℕ, zero, suc, ◌+◌, ◌<◌, ◌≤◌, List, [], ◌∷◌, ◌++◌, take, replicate, length, Bool, true, false, cond, nat_lt, Option, Some, None, slice_get, get_or, refl, sym}
use Rattle.std.proofs.Common.{ap, subst, inl, inr, arith, add-one}
use Rattle.std.proofs.lemmas.Bool.{cases_eq, cases_lt, eq-eqb, ne_eqb, lt-ltb, le-ltb}
use Rattle.std.proofs.lemmas.Option.{none-some, slice_get-get_or, slice_get_past}
use Rattle.std.proofs.lemmas.List.{get_or-set_same, get_or-set_other, length-set, get_or_append_left, get_or_push, length_push, get_or_past, get_or-replicate, length-replicate}
use Rattle.std.proofs.lemmas.List.Sums.{sum_by_push, sum_by_more_le, count_by-le-length}
use Rattle.std.proofs.Math.ListN.{set}
use Rattle.wire_runs.specs.Plan.{update}
use Rattle.wire_types.specs.declared.Call.{Call}
use Rattle.wire_types.specs.declared.Call.TheVariants.{Fence}
use Rattle.wire_runs.proofs.Lists.{take_get}
use Rattle.wire_runs.proofs.Basics.{update_same, update_other}
use Rattle.wire_scripts.specs.Scripts.{Process, Scripts, IsSound, set_at, calls_in, call_count}
use Rattle.wire_fence.specs.declared.register.FenceDraft.{FenceDraft}
use Rattle.wire_fence.specs.FenceTable.{is_over, fence_count, written_calls}
use Rattle.wire_fence.specs.Reading.{says_with}
use Rattle.wire_fence.specs.Register.{HasRow, IsCalled, IsAfter, AreRead, IsNumber, AreNumbers, AreNumbersOf, AreAllNumbers, read_to}
use Rattle.wire_fence.proofs.ReadRows.{count_call, read_fence, read_other, kept_row, row_of_call, few_rows}

-- after the first n calls of a process
pub record StateOf (first rows : List FenceDraft) (sets : List (List ℕ)) (calls : List Call) (counts : List ℕ) (numbers : List (Option ℕ)) (n : ℕ) : Type 0 where
  pub few : length rows ≤ length first + n
  pub len : length counts ≡ length sets
  pub counted : (k : ℕ) → k < length sets → get_or counts k 0 ≡ fence_count k (take n calls)
  pub numbered : AreNumbers rows calls numbers n
  pub kept : (m k j : ℕ) → HasRow first m k j → HasRow rows m k j
  pub read : (s : Scripts) (p : ℕ) (read : ℕ → ℕ) → IsSound s → sets ≡ s.sets → calls ≡ written_calls s p → read p ≡ 0 → AreRead s read first → AreRead s (update read p n) rows

pub state_first : (rows : List FenceDraft) (sets : List (List ℕ)) (calls : List Call) (counts : List ℕ) (numbers : List (Option ℕ)) (size : ℕ) → size ≡ length sets → counts ≡ replicate size 0 →
    numbers ≡ [] → StateOf rows rows sets calls counts numbers 0
state_first rows sets calls counts numbers size size_is zeros none = record {
  few = omega arith;
  len = ap length zeros ∙ length-replicate size 0 ∙ size_is;
  counted = λ k low. ap (λ xs. get_or xs k 0) zeros ∙ get_or-replicate size k 0 0 (omega (arith, size_is, low));
  numbered = record { count = ap length none; each = λ c low. absurd (omega (arith, low)) };
  kept = λ m k j has. has;
  read = λ s p read sound same_sets same_calls nothing are.
      let same : (m : ℕ) → read m ≡ update read p 0 m = λ m. elim (cases_eq m p) [
        | inl here ↦ ap read here ∙ nothing ∙ sym (ap (update read p 0) here ∙ update_same read p 0)
        | inr ne ↦ sym (update_other read p 0 m ne)
      ] in
      let path : read ≡ update read p 0 = λ i m. same m i in
      subst (λ (r : ℕ → ℕ). AreRead s r rows) path are;
}

-- the numbers of earlier calls stay
number_stays : (rows new : List FenceDraft) (calls : List Call) (c : ℕ) (o : Option Call) (number : Option ℕ) → ((m k j : ℕ) → HasRow rows m k j → HasRow new m k j) → IsNumber rows calls c o number →
    IsNumber new calls c o number
number_stays rows new calls c (Some (Fence other collect)) number kept is = (is.0, is.1, kept is.0 other (fence_count other (take (suc c) calls)) is.2)
number_stays rows new calls c _ number kept is = is

numbers_kept : (rows new : List FenceDraft) (calls : List Call) (numbers : List (Option ℕ)) → ((m k j : ℕ) → HasRow rows m k j → HasRow new m k j) → AreNumbersOf rows calls numbers →
    AreNumbersOf new calls numbers
numbers_kept rows new calls numbers kept are = λ c. number_stays rows new calls c (slice_get calls c) (get_or numbers c None) kept (are c)

-- past the last call there is no number
pub numbers_past : (rows : List FenceDraft) (calls : List Call) (numbers copy : List (Option ℕ)) (n : ℕ) → n ≡ length calls → AreNumbers rows calls numbers n →
    ((c : ℕ) → get_or copy c None ≡ get_or numbers c None) → AreNumbersOf rows calls copy
numbers_past rows calls numbers copy n all are same = λ c. subst (IsNumber rows calls c (slice_get calls c)) (sym (same c)) (elim (cases_lt c n) [
  | inl low ↦ are.each c low
  | inr past ↦
      let count = are.count in
      let none : get_or numbers c None ≡ None = get_or_past numbers c None (omega (arith, count, past)) in
      subst (λ o. IsNumber rows calls c o (get_or numbers c None)) (sym (slice_get_past calls c (omega (arith, all, past)))) none
])

numbers_more : (rows new : List FenceDraft) (calls : List Call) (numbers : List (Option ℕ)) (n : ℕ) (number : Option ℕ) → ((m k j : ℕ) → HasRow rows m k j → HasRow new m k j) →
    AreNumbers rows calls numbers n → IsNumber new calls n (slice_get calls n) number → AreNumbers new calls (numbers ++ number ∷ []) (suc n)
numbers_more rows new calls numbers n number kept are is = record {
  count = length_push numbers number ∙ add-one (length numbers) ∙ ap suc are.count;
  each = λ c low. elim (cases_eq c n) [
    | inl here ↦
        let at : get_or (numbers ++ number ∷ []) c None ≡ number = get_or_push numbers number None c (are.count ∙ sym here) in
        subst (IsNumber new calls c (slice_get calls c)) (sym at) (subst (λ k. IsNumber new calls k (slice_get calls k) number) (sym here) is)
    | inr ne ↦
        let count = are.count in
        let below : c < length numbers = omega (arith, count, low, ne) in
        let at : get_or (numbers ++ number ∷ []) c None ≡ get_or numbers c None = get_or_append_left numbers (number ∷ []) None c below in
        subst (IsNumber new calls c (slice_get calls c)) (sym at) (number_stays rows new calls c (slice_get calls c) (get_or numbers c None) kept (are.each c (omega (arith, low, ne))))
  ];
}

-- a fence call more
state_fence : (first rows new : List FenceDraft) (sets : List (List ℕ)) (calls : List Call) (counts now : List ℕ) (numbers : List (Option ℕ)) (number : Option ℕ) (n other at : ℕ) (collect : Bool) →
    StateOf first rows sets calls counts numbers n → slice_get calls n ≡ Some (Fence other collect) → other < length sets → number ≡ Some at →
    IsCalled rows other (get_or counts other 0 + 1) (length (set_at sets other)) collect at new → now ≡ set counts other (get_or counts other 0 + 1) →
    StateOf first new sets calls now (numbers ++ number ∷ []) (suc n)
state_fence first rows new sets calls counts now numbers number n other at collect state is within number_is call now_is =
    let count : get_or counts other 0 ≡ fence_count other (take n calls) = state.counted other within in
    let nth : get_or counts other 0 + 1 ≡ suc (fence_count other (take n calls)) = add-one (get_or counts other 0) ∙ ap suc count in
    let members = length (set_at sets other) in
    let called : IsCalled rows other (suc (fence_count other (take n calls))) members collect at new = subst (λ j. IsCalled rows other j members collect at new) nth call in
    let kept : (m k j : ℕ) → HasRow rows m k j → HasRow new m k j = kept_row rows new other (suc (fence_count other (take n calls))) members at collect called in
    let few = state.few in
    let more = few_rows rows new other (suc (fence_count other (take n calls))) members at collect called in
    let len = state.len in
    let counted : fence_count other (take (suc n) calls) ≡ suc (fence_count other (take n calls)) =
    count_call calls n other (Fence other collect) is ∙ ap (λ b. fence_count other (take n calls) + cond b 1 0) (over_itself other) ∙ add-one (fence_count other (take n calls))
    in
    record {
      few = omega (arith, few, more);
      len = ap length now_is ∙ length-set counts other (get_or counts other 0 + 1) ∙ state.len;
      counted = λ k low. ap (λ xs. get_or xs k 0) now_is ∙ elim (cases_eq k other) [
        | inl here ↦
            ap (λ x. get_or (set counts other (get_or counts other 0 + 1)) x 0) here
            ∙ get_or-set_same counts other (get_or counts other 0 + 1) 0 (omega (arith, len, within))
            ∙ nth
            ∙ sym counted
            ∙ ap (λ x. fence_count x (take (suc n) calls)) (sym here)
        | inr ne ↦
            get_or-set_other counts other k (get_or counts other 0 + 1) 0 ne
            ∙ state.counted k low
            ∙ plus_none (fence_count k (take n calls))
            ∙ ap (λ b. fence_count k (take n calls) + cond b 1 0) (sym (over_other other k ne))
            ∙ sym (count_call calls n k (Fence other collect) is)
      ];
      numbered = numbers_more rows new calls numbers n number kept state.numbered (
          subst (λ o. IsNumber new calls n o number) (sym is) (
            at,
            number_is,
            subst (HasRow new at other) (sym counted) (row_of_call rows new other (suc (fence_count other (take n calls))) members at collect called),
          )
          );
      kept = λ m k j has. kept m k j (state.kept m k j has);
      read = λ s p read sound same_sets same_calls nothing are.
          read_fence s sound read p n other collect (ap (λ xs. slice_get xs n) (sym same_calls) ∙ is) rows new at
          (state.read s p read sound same_sets same_calls nothing are)
          (subst (λ xs. IsCalled rows other (suc (fence_count other (take n xs))) (length (set_at s.sets other)) collect at new) same_calls
          (subst (λ xs. IsCalled rows other (suc (fence_count other (take n calls))) (length (set_at xs other)) collect at new) same_sets called));
    }
  where
    plus_none : (k : ℕ) → k ≡ k + 0
    plus_none k = omega arith

    over_itself : (k : ℕ) → is_over k (Fence k collect) ≡ true
    over_itself k = eq-eqb k k refl

    over_other : (k m : ℕ) → (m ≡ k → ⊥) → is_over m (Fence k collect) ≡ false
    over_other k m ne = ne_eqb k m (λ e. ne (sym e))

-- a call more that is no fence
state_other : (first rows new : List FenceDraft) (sets : List (List ℕ)) (calls : List Call) (counts now : List ℕ) (numbers : List (Option ℕ)) (number : Option ℕ) (n : ℕ) (call : Call) →
    StateOf first rows sets calls counts numbers n → slice_get calls n ≡ Some call → ((k : ℕ) → is_over k call ≡ false) → ((k j m : ℕ) (b : Bool) → says_with k j m b (Some call) ≡ b) →
    IsNumber new calls n (Some call) number → new ≡ rows → now ≡ counts → StateOf first new sets calls now (numbers ++ number ∷ []) (suc n)
state_other first rows new sets calls counts now numbers number n call state is over silent number_is new_is now_is =
    let few = state.few in
    let same = ap length new_is in
    record {
      few = omega (arith, few, same);
      len = ap length now_is ∙ state.len;
      counted = λ k low.
          ap (λ xs. get_or xs k 0) now_is
          ∙ state.counted k low
          ∙ plus_none (fence_count k (take n calls))
          ∙ ap (λ b. fence_count k (take n calls) + cond b 1 0) (sym (over k))
          ∙ sym (count_call calls n k call is);
      numbered = numbers_more rows new calls numbers n number (λ m k j has. subst (λ xs. HasRow xs m k j) (sym new_is) has) state.numbered
          (subst (λ o. IsNumber new calls n o number) (sym is) number_is);
      kept = λ m k j has. subst (λ xs. HasRow xs m k j) (sym new_is) (state.kept m k j has);
      read = λ s p read sound same_sets same_calls nothing are.
          subst (AreRead s (update read p (suc n))) (sym new_is)
          (read_other s read p n call rows (ap (λ xs. slice_get xs n) (sym same_calls) ∙ is) over silent (state.read s p read sound same_sets same_calls nothing are));
    }
  where
    plus_none : (k : ℕ) → k ≡ k + 0
    plus_none k = omega arith

state_step : (first rows new : List FenceDraft) (sets : List (List ℕ)) (calls : List Call) (counts now : List ℕ) (numbers : List (Option ℕ)) (number : Option ℕ) (n : ℕ) (call : Call) →
    StateOf first rows sets calls counts numbers n → slice_get calls n ≡ Some call → ((k : ℕ) (collect : Bool) → call ≡ Fence k collect → k < length sets) →
    IsAfter sets call rows counts number new now → StateOf first new sets calls now (numbers ++ number ∷ []) (suc n)
state_step first rows new sets calls counts now numbers number n (Fence other collect) state is within after =
    state_fence first rows new sets calls counts now numbers number n other after.0 collect state is (within other collect refl) after.1 after.2 after.3
state_step first rows new sets calls counts now numbers number n call state is within after =
    state_other first rows new sets calls counts now numbers number n call state is (λ _. refl) (λ _ _ _ _. refl) after.0 after.1 after.2

pub state_more : (first rows new : List FenceDraft) (sets : List (List ℕ)) (calls : List Call) (counts now : List ℕ) (numbers : List (Option ℕ)) (number : Option ℕ) (n : ℕ) (call : Call) →
    StateOf first rows sets calls counts numbers n → slice_get calls n ≡ Some call → ((k : ℕ) (collect : Bool) → call ≡ Fence k collect → k < length sets) →
    IsAfter sets call rows counts number new now → StateOf first new sets calls now (numbers ++ number ∷ []) (n + 1)
state_more first rows new sets calls counts now numbers number n call state is within after =
    subst (StateOf first new sets calls now (numbers ++ number ∷ [])) (sym (add-one n)) (state_step first rows new sets calls counts now numbers number n call state is within after)

-- each count is below the number of calls
pub count_fits : (first rows : List FenceDraft) (sets : List (List ℕ)) (calls : List Call) (counts : List ℕ) (numbers : List (Option ℕ)) (n k : ℕ) → StateOf first rows sets calls counts numbers n →
    n < length calls → get_or counts k 0 < length calls
count_fits first rows sets calls counts numbers n k state low = elim (cases_lt k (length sets)) [
  | inl below ↦
      let is = state.counted k below in
      let le = count_by-le-length (is_over k) (take n calls) in
      let most = short n calls in
      omega (arith, is, le, most, low)
  | inr past ↦
      let len = state.len in
      let none = get_or_past counts k 0 (omega (arith, len, past)) in
      omega (arith, none, low)
]
  where
    short : (m : ℕ) (xs : List Call) → length (take m xs) ≤ m
    short zero xs = omega arith
    short (suc m) [] = omega arith
    short (suc m) (x ∷ xs) = let less = short m xs in omega (arith, less)

-- after the first n processes
pub record AllRead (rows : List FenceDraft) (sets : List (List ℕ)) (processes : List Process) (numbers : List (List (Option ℕ))) (n : ℕ) : Type 0 where
  pub few : length rows ≤ call_count (take n processes)
  pub numbered : AreAllNumbers rows processes numbers n
  pub read : (s : Scripts) → IsSound s → sets ≡ s.sets → processes ≡ s.processes → AreRead s (read_to s n) rows

pub all_first : (rows : List FenceDraft) (sets : List (List ℕ)) (processes : List Process) (numbers : List (List (Option ℕ))) → rows ≡ [] → numbers ≡ [] → AllRead rows sets processes numbers 0
all_first rows sets processes numbers none nothing = record {
  few = let e = ap length none in omega (arith, e);
  numbered = record { count = ap length nothing; each = λ p low. absurd (omega (arith, low)) };
  read = λ s sound same_sets same_processes. record {
    each = λ number row there. absurd (none-some row (ap (λ xs. slice_get xs number) (sym none) ∙ there));
    once = λ m n k j at_m at_n. absurd (none-some at_m.row (ap (λ xs. slice_get xs m) (sym none) ∙ at_m.there));
    there = λ m k j low from_one le.
        let nobody : fence_count k (take (read_to s 0 m) (written_calls s m)) ≡ 0 = ap (λ b. fence_count k (take (cond b (length (written_calls s m)) 0) (written_calls s m)))
        (le-ltb m 0 (omega arith)) in
        absurd (omega (arith, nobody, le, from_one));
  };
}

all_numbers_more : (rows new : List FenceDraft) (processes : List Process) (numbers : List (List (Option ℕ))) (more : List (Option ℕ)) (n : ℕ) → ((m k j : ℕ) → HasRow rows m k j → HasRow new m k j) →
    AreAllNumbers rows processes numbers n → AreNumbersOf new (calls_in (slice_get processes n)) more →
    AreAllNumbers new processes (numbers ++ more ∷ []) (suc n)
all_numbers_more rows new processes numbers more n kept are is = record {
  count = length_push numbers more ∙ add-one (length numbers) ∙ ap suc are.count;
  each = λ p low. elim (cases_eq p n) [
    | inl here ↦
        let at : get_or (numbers ++ more ∷ []) p [] ≡ more = get_or_push numbers more [] p (are.count ∙ sym here) in
        subst (λ xs. AreNumbersOf new (calls_in (slice_get processes p)) xs) (sym at)
        (subst (λ k. AreNumbersOf new (calls_in (slice_get processes k)) more) (sym here) is)
    | inr ne ↦
        let count = are.count in
        let below : p < length numbers = omega (arith, count, low, ne) in
        let at : get_or (numbers ++ more ∷ []) p [] ≡ get_or numbers p [] = get_or_append_left numbers (more ∷ []) [] p below in
        subst (λ xs. AreNumbersOf new (calls_in (slice_get processes p)) xs) (sym at)
        (numbers_kept rows new (calls_in (slice_get processes p)) (get_or numbers p []) kept (are.each p (omega (arith, low, ne))))
  ];
}

pub all_more : (rows new : List FenceDraft) (sets : List (List ℕ)) (processes : List Process) (numbers : List (List (Option ℕ))) (more : List (Option ℕ)) (n : ℕ) (process : Process) →
    AllRead rows sets processes numbers n → slice_get processes n ≡ Some process →
    length new ≤ length rows + length process.calls → AreNumbersOf new process.calls more → ((m k j : ℕ) → HasRow rows m k j → HasRow new m k j) →
    ((s : Scripts) (p : ℕ) (read : ℕ → ℕ) → IsSound s → sets ≡ s.sets → process.calls ≡ written_calls s p → read p ≡ 0 → AreRead s read rows → AreRead s (update read p (length process.calls)) new) →
    AllRead new sets processes (numbers ++ more ∷ []) (n + 1)
all_more rows new sets processes numbers more n process all is few are kept read =
    subst (AllRead new sets processes (numbers ++ more ∷ [])) (sym (add-one n)) (
    record {
      few =
          let was = all.few in
          let one_more : call_count (take (suc n) processes) ≡ call_count (take n processes) + length process.calls = ap call_count (take_get processes n process is)
          ∙ sum_by_push (λ (q : Process). length q.calls) (take n processes) process in
          omega (arith, was, few, one_more);
      numbered = all_numbers_more rows new processes numbers more n kept all.numbered (subst (λ o. AreNumbersOf new (calls_in o) more) (sym is) are);
      read = λ s sound same_sets same_processes.
          let calls : process.calls ≡ written_calls s n = ap calls_in (sym is ∙ ap (λ xs. slice_get xs n) same_processes) in
          let nothing : read_to s n n ≡ 0 = ap (λ b. cond b (length (written_calls s n)) 0) (le-ltb n n (omega arith)) in
          let same : (m : ℕ) → update (read_to s n) n (length process.calls) m ≡ read_to s (suc n) m = λ m. elim (cases_eq m n) [
            | inl here ↦
                ap (update (read_to s n) n (length process.calls)) here
                ∙ update_same (read_to s n) n (length process.calls)
                ∙ ap length calls
                ∙ ap (λ b. cond b (length (written_calls s n)) 0) (sym (lt-ltb n (suc n) (omega arith)))
                ∙ ap (read_to s (suc n)) (sym here)
            | inr ne ↦ update_other (read_to s n) n (length process.calls) m ne ∙ ap (λ b. cond b (length (written_calls s m)) 0) (below_same m n ne)
          ] in
          let path : update (read_to s n) n (length process.calls) ≡ read_to s (suc n) = λ i m. same m i in
          subst (λ (r : ℕ → ℕ). AreRead s r new) path (read s n (read_to s n) sound same_sets calls nothing (all.read s sound same_sets same_processes));
    }
    )
  where
    below_same : (m k : ℕ) → (m ≡ k → ⊥) → nat_lt m k ≡ nat_lt m (suc k)
    below_same m k ne = elim (cases_lt m k) [
      | inl low ↦ lt-ltb m k low ∙ sym (lt-ltb m (suc k) (omega (arith, low)))
      | inr le ↦ le-ltb m k le ∙ sym (le-ltb m (suc k) (omega (arith, le, ne)))
    ]

-- so few rows that the calls of one more process find room
pub room_left : (rows : List FenceDraft) (processes : List Process) (n : ℕ) (process : Process) (calls : List Call) → length rows ≤ call_count (take n processes) → n < length processes →
    process ≡ get_or processes n process → calls ≡ process.calls → call_count processes < 2147483648 → length rows + length calls < 4294967296
room_left rows processes n process calls few low is same counted =
    let more = sum_by_more_le (λ (q : Process). length q.calls) processes n process low in
    let here = ap (λ (q : Process). length q.calls) is in
    let its = ap length same in
    omega (arith, few, counted, more, here, its)

-- the same, where the calls that were read are told apart from the process
pub all_more_of : (rows new : List FenceDraft) (sets : List (List ℕ)) (processes : List Process) (numbers : List (List (Option ℕ))) (more : List (Option ℕ)) (n : ℕ) (process : Process)
    (calls : List Call) → AllRead rows sets processes numbers n → n < length processes → process ≡ get_or processes n process → calls ≡ process.calls →
    length new ≤ length rows + length calls → AreNumbersOf new calls more → ((m k j : ℕ) → HasRow rows m k j → HasRow new m k j) →
    ((s : Scripts) (p : ℕ) (read : ℕ → ℕ) → IsSound s → sets ≡ s.sets → calls ≡ written_calls s p → read p ≡ 0 → AreRead s read rows → AreRead s (update read p (length calls)) new) →
    AllRead new sets processes (numbers ++ more ∷ []) (n + 1)
all_more_of rows new sets processes numbers more n process calls all low is same few are kept read =
    all_more rows new sets processes numbers more n process all (slice_get-get_or processes n process low ∙ ap Some (sym is))
    (subst (λ xs. length new ≤ length rows + length xs) same few)
    (subst (λ xs. AreNumbersOf new xs more) same are)
    kept
    (subst (λ (xs : List Call). (s : Scripts) (p : ℕ) (read : ℕ → ℕ) → IsSound s → sets ≡ s.sets → xs ≡ written_calls s p → read p ≡ 0 → AreRead s read rows →
    AreRead s (update read p (length xs)) new) same read)

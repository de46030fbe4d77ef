-- The calls that a program chooses: where two runs of it have been told the same, the next event is the same.
use Rattle.std.proofs.Common.{◌≡◌, ℕ, zero, suc, ◌+◌, ◌-◌, ◌<◌, ◌≤◌, ◌⊎◌, List, [], ◌∷◌, ◌++◌, length, take, Option, Some, None, is_some, inl, inr, refl, sym, ap, ◌∙◌, subst, arith}
use Rattle.std.specs.Prelude.{slice_get}
use Rattle.std.proofs.lemmas.Bool.{cases_lt, true≢false}
use Rattle.std.proofs.lemmas.Option.{none-some, same_Some, slice_get_past}
use Rattle.wire_runs.specs.Plan.{Plan, Event, Call, CallPut, CallCommit, CallFence, CallGet, CallGetNow, CallPublish, CallLookup, CallLookupWait, CallUnpublish, CallUnpublishAll, CallFixed}
use Rattle.wire_runs.specs.Plan.{Kind, kinds_of, process_kinds, process_node, kinds, kind_at, node_of, process_count, Process}
use Rattle.wire_runs.specs.State.{State}
use Rattle.wire_runs.specs.Ends.{call_size, process_calls, calls_of}
use Rattle.wire_runs.proofs.Basics.{process_within}
use Rattle.wire_runs.proofs.Lists.{slice_get-append_left, slice_get-append_right}
use Rattle.wire_program_laws.specs.Runs.{IsSameHead}
use Rattle.wire_program_laws.specs.Programs.{Text, Program, told, AreChosen}

-- the events of one call, and then those of the others
pub first_call : (call : Call) (calls : List Call) → kinds_of (call ∷ calls) ≡ kinds_of (call ∷ []) ++ kinds_of calls
first_call (CallPut key scope) calls = refl
first_call CallCommit calls = refl
first_call (CallFence members collect) calls = refl
first_call (CallGet owner key) calls = refl
first_call (CallGetNow owner key) calls = refl
first_call (CallPublish name) calls = refl
first_call (CallLookup name) calls = refl
first_call (CallLookupWait name) calls = refl
first_call (CallUnpublish name) calls = refl
first_call CallUnpublishAll calls = refl
first_call (CallFixed r) calls = refl

module _ (program : Program) (a b : Plan) (text other : Event → Text) (s t : State) (p last : ℕ)
    (alike : (i : ℕ) → i ≤ last → told a text (s.replies p) p i ≡ told b other (t.replies p) p i) (in_first : last ≤ s.done p) (in_second : last ≤ t.done p) where
  pub chosen_next : (n m : ℕ) (xs ys : List Call) → n + m ≡ last → AreChosen program a text s p n xs → AreChosen program b other t p n ys →
      slice_get (kinds_of xs) m ≡ slice_get (kinds_of ys) m
  chosen_next n m [] [] e x y = refl
  chosen_next n m [] (d ∷ ys) e x y = absurd (none-some d (sym x ∙ ap (program.choose p) (alike n (omega (arith, e))) ∙ y.0))
  chosen_next n m (c ∷ xs) [] e x y = absurd (none-some c (sym y ∙ ap (program.choose p) (sym (alike n (omega (arith, e)))) ∙ x.0))
  chosen_next n m (c ∷ xs) (d ∷ ys) e x y =
      let same : c ≡ d = same_Some c d (sym x.0 ∙ ap (program.choose p) (alike n (omega (arith, e))) ∙ y.0) in
      let both = subst (λ z. AreChosen program b other t p n (z ∷ ys)) (sym same) y in
      go (cases_lt m (call_size c)) x.1 both.1 (λ k is x' y'. chosen_next (n + call_size c) k xs ys (omega (arith, e, is)) x' y')
      ∙ ap (λ z. slice_get (kinds_of (z ∷ ys)) m) same
    where
      go : (m < call_size c) ⊎ (call_size c ≤ m) → ((s.done p < n + call_size c) × (xs ≡ [])) ⊎ ((n + call_size c ≤ s.done p) × AreChosen program a text s p (n + call_size c) xs) →
          ((t.done p < n + call_size c) × (ys ≡ [])) ⊎ ((n + call_size c ≤ t.done p) × AreChosen program b other t p (n + call_size c) ys)
          → ((k : ℕ) → m ≡ call_size c + k → AreChosen program a text s p (n + call_size c) xs → AreChosen program b other t p (n + call_size c) ys → slice_get (kinds_of xs) k ≡ slice_get (kinds_of ys) k) →
          slice_get (kinds_of (c ∷ xs)) m ≡ slice_get (kinds_of (c ∷ ys)) m
      go (inl lt) x' y' rest =
          ap (λ ks. slice_get ks m) (first_call c xs)
          ∙ slice_get-append_left (kinds_of (c ∷ [])) (kinds_of xs) m lt
          ∙ sym (slice_get-append_left (kinds_of (c ∷ [])) (kinds_of ys) m lt)
          ∙ sym (ap (λ ks. slice_get ks m) (first_call c ys))
      go (inr ge) (inl short) y' rest = let low = short.0 in absurd (omega (arith, low, ge, e, in_first))
      go (inr ge) (inr x') (inl short) rest = let low = short.0 in absurd (omega (arith, low, ge, e, in_second))
      go (inr ge) (inr x') (inr y') rest =
          let is : m ≡ call_size c + (m - call_size c) = omega (arith, ge) in
          ap (λ ks. slice_get ks m) (first_call c xs)
          ∙ ap (slice_get (kinds_of (c ∷ []) ++ kinds_of xs)) is
          ∙ slice_get-append_right (kinds_of (c ∷ [])) (kinds_of xs) (m - call_size c)
          ∙ rest (m - call_size c) is x'.1 y'.1
          ∙ sym (slice_get-append_right (kinds_of (c ∷ [])) (kinds_of ys) (m - call_size c))
          ∙ sym (ap (slice_get (kinds_of (c ∷ []) ++ kinds_of ys)) is)
          ∙ sym (ap (λ ks. slice_get ks m) (first_call c ys))

  -- the calls of the first are those with which the second begins
  pub chosen_front : (n : ℕ) (xs ys : List Call) → s.done p ≡ last → n ≤ last → AreChosen program a text s p n xs → AreChosen program b other t p n ys → xs ≡ take (length xs) ys
  chosen_front n [] ys is low x y = refl
  chosen_front n (c ∷ xs) [] is low x y = absurd (none-some c (sym y ∙ ap (program.choose p) (sym (alike n low)) ∙ x.0))
  chosen_front n (c ∷ xs) (d ∷ ys) is low x y =
      let same : c ≡ d = same_Some c d (sym x.0 ∙ ap (program.choose p) (alike n low) ∙ y.0) in
      let both = subst (λ z. AreChosen program b other t p n (z ∷ ys)) (sym same) y in
      ap (λ z. z ∷ xs) same ∙ ap (λ zs. d ∷ zs) (go x.1 both.1 (λ le x' y'. chosen_front (n + call_size c) xs ys is le x' y'))
    where
      go : ((s.done p < n + call_size c) × (xs ≡ [])) ⊎ ((n + call_size c ≤ s.done p) × AreChosen program a text s p (n + call_size c) xs) →
          ((t.done p < n + call_size c) × (ys ≡ [])) ⊎ ((n + call_size c ≤ t.done p) × AreChosen program b other t p (n + call_size c) ys)
          → (n + call_size c ≤ last → AreChosen program a text s p (n + call_size c) xs → AreChosen program b other t p (n + call_size c) ys → xs ≡ take (length xs) ys) →
          xs ≡ take (length xs) ys
      go (inl short) y' rest = short.1 ∙ sym (ap (λ k. take k ys) (ap length short.1))
      go (inr x') (inl short) rest = let over = x'.0 in let low = short.0 in absurd (omega (arith, over, low, is, in_second))
      go (inr x') (inr y') rest = let over = x'.0 in rest (omega (arith, over, is)) x'.1 y'.1

  -- where both have done as much, the calls are the same
  pub chosen_same : (n : ℕ) (xs ys : List Call) → s.done p ≡ last → t.done p ≡ last → n ≤ last → AreChosen program a text s p n xs → AreChosen program b other t p n ys → xs ≡ ys
  chosen_same n [] [] is here low x y = refl
  chosen_same n [] (d ∷ ys) is here low x y = absurd (none-some d (sym x ∙ ap (program.choose p) (alike n low) ∙ y.0))
  chosen_same n (c ∷ xs) [] is here low x y = absurd (none-some c (sym y ∙ ap (program.choose p) (sym (alike n low)) ∙ x.0))
  chosen_same n (c ∷ xs) (d ∷ ys) is here low x y =
      let same : c ≡ d = same_Some c d (sym x.0 ∙ ap (program.choose p) (alike n low) ∙ y.0) in
      let both = subst (λ z. AreChosen program b other t p n (z ∷ ys)) (sym same) y in
      ap (λ z. z ∷ xs) same ∙ ap (λ zs. d ∷ zs) (go x.1 both.1 (λ le x' y'. chosen_same (n + call_size c) xs ys is here le x' y'))
    where
      go : ((s.done p < n + call_size c) × (xs ≡ [])) ⊎ ((n + call_size c ≤ s.done p) × AreChosen program a text s p (n + call_size c) xs) →
          ((t.done p < n + call_size c) × (ys ≡ [])) ⊎ ((n + call_size c ≤ t.done p) × AreChosen program b other t p (n + call_size c) ys)
          → (n + call_size c ≤ last → AreChosen program a text s p (n + call_size c) xs → AreChosen program b other t p (n + call_size c) ys → xs ≡ ys) →
          xs ≡ ys
      go (inl short) (inl short') rest = short.1 ∙ sym short'.1
      go (inl short) (inr y') rest = let over = y'.0 in let low = short.0 in absurd (omega (arith, over, low, is, here))
      go (inr x') (inl short) rest = let over = x'.0 in let low = short.0 in absurd (omega (arith, over, low, is, here))
      go (inr x') (inr y') rest = let over = x'.0 in rest (omega (arith, over, is)) x'.1 y'.1

kinds_are : (o : Option Process) → process_kinds o ≡ kinds_of (process_calls o)
kinds_are None = refl
kinds_are (Some process) = refl

pub kinds_of_plan : (plan : Plan) (p : ℕ) → kinds plan p ≡ kinds_of (calls_of plan p)
unfolding kinds
kinds_of_plan plan p = kinds_are (slice_get plan.processes p)

pub kind_of_calls : (plan : Plan) (p i : ℕ) → kind_at plan p i ≡ slice_get (kinds_of (calls_of plan p)) i
unfolding kind_at kinds
kind_of_calls plan p i = ap (λ ks. slice_get ks i) (kinds_are (slice_get plan.processes p))

-- past the last process there is none
pub none_there : (plan : Plan) (p i : ℕ) → process_count plan ≤ p → kind_at plan p i ≡ None
none_there plan p i past = go (kind_at plan p i) refl
  where
    go : (o : Option Kind) → kind_at plan p i ≡ o → o ≡ None
    go None e = refl
    go (Some k) e = absurd (let lt = process_within plan p i k e in omega (arith, lt, past))

same_process : (o o' : Option Process) → is_some o ≡ is_some o' → process_node o ≡ process_node o' → process_calls o ≡ process_calls o' → o ≡ o'
same_process None None some node calls = refl
same_process None (Some y) some node calls = absurd (true≢false (sym some))
same_process (Some x) None some node calls = absurd (true≢false some)
same_process (Some x) (Some y) some node calls = λ t. Some (record { node = node t; calls = calls t })

same_there : {A : Type 0} (xs ys : List A) → length xs ≡ length ys → (i : ℕ) → is_some (slice_get xs i) ≡ is_some (slice_get ys i)
same_there [] [] e i = refl
same_there [] (y ∷ ys) e i = absurd (omega (arith, e))
same_there (x ∷ xs) [] e i = absurd (omega (arith, e))
same_there (x ∷ xs) (y ∷ ys) e zero = refl
same_there (x ∷ xs) (y ∷ ys) e (suc i) = same_there xs ys (omega (arith, e)) i

pub same_elements : {A : Type 0} (xs ys : List A) → ((i : ℕ) → slice_get xs i ≡ slice_get ys i) → xs ≡ ys
same_elements [] [] same = refl
same_elements [] (y ∷ ys) same = absurd (none-some y (same 0))
same_elements (x ∷ xs) [] same = absurd (none-some x (sym (same 0)))
same_elements (x ∷ xs) (y ∷ ys) same = λ t. same_Some x y (same 0) t ∷ same_elements xs ys (λ i. same (suc i)) t

-- plans with the same head and the same calls are the same
pub same_plan : (a b : Plan) → IsSameHead a b → ((p : ℕ) → calls_of a p ≡ calls_of b p) → a ≡ b
unfolding node_of
same_plan a b head calls = λ t. record {
  processes = same_elements a.processes b.processes
      (λ p. same_process (slice_get a.processes p) (slice_get b.processes p) (same_there a.processes b.processes head.count p) (head.nodes p) (calls p)) t;
  keep = head.keep t;
}

-- a process that there isn't has no calls
pub no_calls : (plan : Plan) (p : ℕ) → process_count plan ≤ p → calls_of plan p ≡ []
no_calls plan p past = ap process_calls (slice_get_past plan.processes p past)

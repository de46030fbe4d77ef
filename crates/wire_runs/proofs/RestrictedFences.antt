-- One rank fewer: it says collect in the fences of its role where the others do.
use Rattle.std.proofs.Common.{◌≡◌, ℕ, zero, suc, ◌≤◌, List, [], ◌∷◌, ◌++◌, map, length, Bool, true, false, not, ◌&&◌, ◌==◌, nat_lt, Option, Some, None, take, get_or, ◌⊎◌, inl, inr, refl, sym, ap, ◌∙◌, subst, arith, eq-eqb, ne_eqb, eqb-true}
use Rattle.std.specs.Prelude.{slice_get, filter, cond}
use Rattle.std.proofs.lemmas.Bool.{cond-true, cond-false, cases_eq, cases_Bool, or_cases, or_left, or_right, or_parts, true≢false, false_from_ne_true}
use Rattle.std.proofs.lemmas.List.Folds.{list_any-append}
use Rattle.wire_runs.specs.Plan.{Plan}
use Rattle.wire_runs.specs.Plan.{Kind, Put, Commit, Arrive, Leave, Get, GetNow, Publish, Lookup, LookupWait, Unpublish, UnpublishAll, Fixed, kinds_of, kinds, kind_at, set_of}
use Rattle.wire_runs.specs.Fences.{is_member}
use Rattle.wire_runs.specs.Patterns.{Only, Self, Each, Item, Every, One, Line, LinePut, LineCommit, LineFence, LineGet, LineGetNow, LinePublish, LineLookup, LineLookupWait, LineUnpublish, LineUnpublishAll, LineFixed}
use Rattle.wire_runs.specs.Patterns.{Turns, InOrder, Round, Chosen, Step, Once, Loop, Pattern, Coding, Cast, group, who, members_in, call_in, turns, loop_calls, step_calls, calls_from, instance_of}
use Rattle.wire_runs.specs.Patterns.{has_every, IsLoopLine, IsOptional, AreLoopLines, KnowsItems, KnowsLine, IsLawfulStep, waits_step, AreSteps}
use Rattle.wire_runs.specs.Restrictions.{skip, script_in, CanGo}
use Rattle.wire_runs.proofs.WholeSets.{rises_set, rises_group, same_set, member_set, group_member, plays, not_two, single_stays, single_other}
use Rattle.wire_runs.proofs.RestrictedCalls.{instance_kinds, kinds_append}
use Rattle.wire_runs.specs.Plan.{event_count}
use Rattle.wire_runs.proofs.Images.{same_test}
use Rattle.wire_runs.proofs.Parts.{here}
use Rattle.std.specs.Prelude.{bytes_eq as same_members}
use Rattle.std.proofs.lemmas.Slice.Eq.{bytes_eq-Decides}
use Rattle.std.proofs.lemmas.Option.{slice_get_cases}
use Rattle.wire_runs.specs.Fences.{arrivals_with, arrivals, collects_with, collects}
use Rattle.wire_runs.proofs.Lists.{take_get}
use Rattle.wire_runs.proofs.RestrictedOnce.{plays_role}

-- what the calls over a set say, in order
abbrev says : List ℕ → List Kind → List Bool
says members [] = []
says members (Arrive others collect ∷ ks) = cond (same_members others members) (collect ∷ says members ks) (says members ks)
says members (k ∷ ks) = says members ks

says_append : (members : List ℕ) (xs ys : List Kind) → says members (xs ++ ys) ≡ says members xs ++ says members ys
says_append members [] ys = refl
says_append members (Arrive others collect ∷ xs) ys = elim (cases_Bool (same_members others members)) [
  | inl t ↦ cond-true _ _ _ t ∙ ap (λ bs. collect ∷ bs) (says_append members xs ys) ∙ sym (ap (λ bs. bs ++ says members ys) (cond-true _ _ _ t))
  | inr f ↦ cond-false _ _ _ f ∙ says_append members xs ys ∙ sym (ap (λ bs. bs ++ says members ys) (cond-false _ _ _ f))
]
says_append members (Put key scope ∷ xs) ys = says_append members xs ys
says_append members (Commit ∷ xs) ys = says_append members xs ys
says_append members (Leave others ∷ xs) ys = says_append members xs ys
says_append members (Get owner key ∷ xs) ys = says_append members xs ys
says_append members (GetNow owner key ∷ xs) ys = says_append members xs ys
says_append members (Publish name ∷ xs) ys = says_append members xs ys
says_append members (Lookup name ∷ xs) ys = says_append members xs ys
says_append members (LookupWait name ∷ xs) ys = says_append members xs ys
says_append members (Unpublish name ∷ xs) ys = says_append members xs ys
says_append members (UnpublishAll ∷ xs) ys = says_append members xs ys
says_append members (Fixed reply ∷ xs) ys = says_append members xs ys

-- what the j-th says, true where there is none
abbrev pick : List Bool → ℕ → Bool
pick flags zero = true
pick [] (suc j) = true
pick (c ∷ cs) (suc zero) = c
pick (c ∷ cs) (suc (suc j)) = pick cs (suc j)

none_picked : (j : ℕ) → pick [] j ≡ true
none_picked zero = refl
none_picked (suc j) = refl

pick_push : (flags : List Bool) (c : Bool) (j : ℕ) → pick (flags ++ c ∷ []) j ≡ cond (suc (length flags) == j) c (pick flags j)
pick_push [] c zero = sym (cond-false (1 == 0) c true (ne_eqb 1 0 (λ s. omega (arith, s))))
pick_push [] c (suc zero) = sym (cond-true (1 == 1) c true (eq-eqb 1 1 refl))
pick_push [] c (suc (suc j)) = none_picked (suc j) ∙ sym (cond-false (1 == suc (suc j)) c true (ne_eqb 1 (suc (suc j)) (λ s. omega (arith, s))))
pick_push (f ∷ fs) c zero = sym (cond-false (suc (suc (length fs)) == 0) c true (ne_eqb (suc (suc (length fs))) 0 (λ s. omega (arith, s))))
pick_push (f ∷ fs) c (suc zero) = sym (cond-false (suc (suc (length fs)) == 1) c f (ne_eqb (suc (suc (length fs))) 1 (λ s. omega (arith, s))))
pick_push (f ∷ fs) c (suc (suc j)) =
    pick_push fs c (suc j) ∙ ap (λ b. cond b c (pick fs (suc j))) (sym (same_test suc (suc (length fs)) (suc j) (λ s. omega (arith, s))))

says_with : List ℕ → List Bool → Option Kind → List Bool
says_with members flags (Some (Arrive others collect)) = cond (same_members others members) (flags ++ collect ∷ []) flags
says_with members flags _ = flags

nil_append : (flags : List Bool) → flags ++ [] ≡ flags
nil_append [] = refl
nil_append (f ∷ fs) = ap (λ v. f ∷ v) (nil_append fs)

says_one : (members : List ℕ) (flags : List Bool) (k : Kind) → flags ++ says members (k ∷ []) ≡ says_with members flags (Some k)
unfolding says_with
says_one members flags (Arrive others collect) = elim (cases_Bool (same_members others members)) [
  | inl t ↦ ap (λ v. flags ++ v) (cond-true _ (collect ∷ []) [] t) ∙ sym (cond-true _ _ _ t)
  | inr f ↦ ap (λ v. flags ++ v) (cond-false _ (collect ∷ []) [] f) ∙ nil_append flags ∙ sym (cond-false _ _ _ f)
]
says_one members flags (Put key scope) = nil_append flags
says_one members flags Commit = nil_append flags
says_one members flags (Leave others) = nil_append flags
says_one members flags (Get owner key) = nil_append flags
says_one members flags (GetNow owner key) = nil_append flags
says_one members flags (Publish name) = nil_append flags
says_one members flags (Lookup name) = nil_append flags
says_one members flags (LookupWait name) = nil_append flags
says_one members flags (Unpublish name) = nil_append flags
says_one members flags UnpublishAll = nil_append flags
says_one members flags (Fixed reply) = nil_append flags

says_step : (members : List ℕ) (ks : List Kind) (n : ℕ) → says members (take (suc n) ks) ≡ says_with members (says members (take n ks)) (slice_get ks n)
unfolding says_with
says_step members ks n = elim (slice_get_cases ks n).1 [
  | inl c ↦ ap (says members) (take_get ks n c.0 c.2) ∙ says_append members (take n ks) (c.0 ∷ []) ∙ says_one members (says members (take n ks)) c.0
      ∙ ap (says_with members (says members (take n ks))) (sym c.2)
  | inr c ↦ ap (says members) (all_of ks (suc n) (let le = c.0 in omega (arith, le)) ∙ sym (all_of ks n c.0)) ∙ ap (says_with members (says members (take n ks))) (sym c.1)
]
  where
    all_of : (xs : List Kind) (m : ℕ) → length xs ≤ m → take m xs ≡ xs
    all_of [] zero le = refl
    all_of [] (suc m) le = refl
    all_of (x ∷ xs) zero le = absurd (omega (arith, le))
    all_of (x ∷ xs) (suc m) le = ap (λ v. x ∷ v) (all_of xs m (omega (arith, le)))

length_with : (members : List ℕ) (flags : List Bool) (o : Option Kind) → arrivals_with members (length flags) o ≡ length (says_with members flags o)
unfolding says_with
length_with members flags (Some (Arrive others collect)) = elim (cases_Bool (same_members others members)) [
  | inl t ↦ cond-true _ _ _ t ∙ sym (longer flags collect) ∙ sym (ap length (cond-true _ (flags ++ collect ∷ []) flags t))
  | inr f ↦ cond-false _ _ _ f ∙ sym (ap length (cond-false _ (flags ++ collect ∷ []) flags f))
]
  where
    longer : (fs : List Bool) (c : Bool) → length (fs ++ c ∷ []) ≡ suc (length fs)
    longer [] c = refl
    longer (f ∷ fs) c = ap suc (longer fs c)
length_with members flags _ = refl

pick_with : (members : List ℕ) (j : ℕ) (flags : List Bool) (o : Option Kind) → collects_with members j (length flags) (pick flags j) o ≡ pick (says_with members flags o) j
unfolding says_with
pick_with members j flags (Some (Arrive others collect)) = elim (cases_Bool (same_members others members)) [
  | inl t ↦ ap (λ b. cond (b && (suc (length flags) == j)) collect (pick flags j)) t ∙ sym (pick_push flags collect j) ∙ sym (ap (λ v. pick v j) (cond-true _ (flags ++ collect ∷ []) flags t))
  | inr f ↦ ap (λ b. cond (b && (suc (length flags) == j)) collect (pick flags j)) f ∙ sym (ap (λ v. pick v j) (cond-false _ (flags ++ collect ∷ []) flags f))
]
pick_with members j flags _ = refl

arrivals_say : (plan : Plan) (p : ℕ) (members : List ℕ) (n : ℕ) → arrivals plan p members n ≡ length (says members (take n (kinds plan p)))
unfolding kind_at
arrivals_say plan p members zero = ap (λ ks. length (says members ks)) (sym (take_none (kinds plan p)))
  where
    take_none : (ks : List Kind) → take 0 ks ≡ []
    take_none [] = refl
    take_none (k ∷ ks) = refl
arrivals_say plan p members (suc n) =
    ap (λ m. arrivals_with members m (kind_at plan p n)) (arrivals_say plan p members n)
    ∙ length_with members (says members (take n (kinds plan p))) (kind_at plan p n)
    ∙ sym (ap length (says_step members (kinds plan p) n))

collects_say : (plan : Plan) (p : ℕ) (members : List ℕ) (j n : ℕ) → collects plan p members j n ≡ pick (says members (take n (kinds plan p))) j
unfolding kind_at
collects_say plan p members j zero = sym (ap (λ ks. pick (says members ks) j) (take_none (kinds plan p)) ∙ none_picked j)
  where
    take_none : (ks : List Kind) → take 0 ks ≡ []
    take_none [] = refl
    take_none (k ∷ ks) = refl
collects_say plan p members j (suc n) =
    ap (λ m. collects_with members j m (collects plan p members j n) (kind_at plan p n)) (arrivals_say plan p members n)
    ∙ ap (λ b. collects_with members j (length (says members (take n (kinds plan p)))) b (kind_at plan p n)) (collects_say plan p members j n)
    ∙ pick_with members j (says members (take n (kinds plan p))) (kind_at plan p n)
    ∙ sym (ap (λ v. pick v j) (says_step members (kinds plan p) n))

-- two processes whose calls over a set say the same
same_says : (plan : Plan) (p q : ℕ) (members : List ℕ) (j : ℕ) → says members (kinds plan p) ≡ says members (kinds plan q) → collects plan p members j (event_count plan p) ≡ collects plan q members j (event_count plan q)
unfolding event_count
same_says plan p q members j same =
    collects_say plan p members j (event_count plan p) ∙ ap (λ ks. pick (says members ks) j) (take_whole (kinds plan p)) ∙ ap (λ v. pick v j) same
    ∙ sym (collects_say plan q members j (event_count plan q) ∙ ap (λ ks. pick (says members ks) j) (take_whole (kinds plan q)))
  where
    take_whole : (ks : List Kind) → take (length ks) ks ≡ ks
    take_whole [] = refl
    take_whole (k ∷ ks) = ap (λ v. k ∷ v) (take_whole ks)

module _ (pattern : Pattern) (coding : Coding) (cast : Cast) (r role : ℕ) (can : CanGo pattern cast r role) where
  abbrev whole : List ℕ
  whole = group role cast.roles

  not_both : (o : Option ℕ) (other : ℕ) → plays o role ≡ true → plays o other ≡ true → (other == role) ≡ false → ⊥
  not_both None other a b f = true≢false (sym a)
  not_both (Some x) other a b f = true≢false (sym (eq-eqb other role (sym (eqb-true x other b) ∙ eqb-true x role a)) ∙ f)

  two_of : (v e : ℕ) (items : List Item) → KnowsItems pattern.single items → has_every role items ≡ false → (q : ℕ) → is_member whole q ≡ true → is_member (members_in cast v e items) q ≡ true → (q ≡ v) ⊎ (q ≡ e)
  two_of v e [] known none q i m = absurd (true≢false (sym m))
  two_of v e (Every other ∷ items) known none q i m =
      let parts = or_parts (other == role) (has_every role items) none in
      elim (or_cases (is_member (group other cast.roles) q) (is_member (members_in cast v e items) q) (sym (list_any-append (λ x. x == q) (group other cast.roles) (members_in cast v e items)) ∙ m)) [
        | inr rest ↦ two_of v e items known.1 parts.1 q i rest
        | inl here ↦ absurd (not_both (slice_get cast.roles q) other (sym (group_member role cast.roles q) ∙ i) (sym (group_member other cast.roles q) ∙ here) parts.0)
      ]
  two_of v e (One (Only other) ∷ items) known none q i m = elim (or_cases (who cast v e (Only other) == q) (is_member (members_in cast v e items) q) m) [
    | inr rest ↦ two_of v e items known.1 none q i rest
    | inl here ↦ absurd (
        let s = single_stays pattern cast r role can other known.0 in
        let at : skip r s.0 ≡ q = ap (λ ys. get_or ys 0 0) (sym s.2) ∙ eqb-true _ _ here in
        let plays_other : plays (slice_get cast.roles q) other ≡ true = sym (group_member other cast.roles q) ∙ ap (λ ys. is_member ys q) s.2 ∙ or_left (skip r s.0 == q) false (eq-eqb _ _ at) in
        not_both (slice_get cast.roles q) other (sym (group_member role cast.roles q) ∙ i) plays_other (ne_eqb other role (single_other pattern cast r role can other known.0)))
  ]
  two_of v e (One Self ∷ items) known none q i m = elim (or_cases (v == q) (is_member (members_in cast v e items) q) m) [
    | inr rest ↦ two_of v e items known.1 none q i rest
    | inl here ↦ inl (sym (eqb-true v q here))
  ]
  two_of v e (One Each ∷ items) known none q i m = elim (or_cases (e == q) (is_member (members_in cast v e items) q) m) [
    | inr rest ↦ two_of v e items known.1 none q i rest
    | inl here ↦ inr (sym (eqb-true e q here))
  ]

  every_there : (v e : ℕ) (items : List Item) → has_every role items ≡ true → (q : ℕ) → is_member whole q ≡ true → is_member (members_in cast v e items) q ≡ true
  every_there v e [] all q i = absurd (true≢false (sym all))
  every_there v e (Every other ∷ items) all q i = elim (or_cases (other == role) (has_every role items) all) [
    | inl here ↦ list_any-append (λ x. x == q) (group other cast.roles) (members_in cast v e items) ∙ or_left _ _ (ap (λ n. is_member (group n cast.roles) q) (eqb-true other role here) ∙ i)
    | inr rest ↦ list_any-append (λ x. x == q) (group other cast.roles) (members_in cast v e items) ∙ or_right _ _ (every_there v e items rest q i)
  ]
  every_there v e (One w ∷ items) all q i = or_right _ _ (every_there v e items all q i)

  -- two turns that a set with the whole role doesn't tell apart
  abbrev Near : ℕ → ℕ → Type 0
  Near a b = (a ≡ b) ⊎ (is_member whole a ≡ true)

  move : (v e w f : ℕ) → is_member whole v ≡ true → Near e f → (items : List Item) (q : ℕ) → is_member (members_in cast v e items) q ≡ true → (is_member (members_in cast w f items) q ≡ true) ⊎ (is_member whole q ≡ true)
  move v e w f vin near [] q m = absurd (true≢false (sym m))
  move v e w f vin near (Every other ∷ items) q m =
      let mine = is_member (group other cast.roles) q in
      let there = is_member (members_in cast w f items) q in
      elim (or_cases mine (is_member (members_in cast v e items) q) (sym (list_any-append (λ x. x == q) (group other cast.roles) (members_in cast v e items)) ∙ m)) [
        | inl here ↦ inl (list_any-append (λ x. x == q) (group other cast.roles) (members_in cast w f items) ∙ or_left mine there here)
        | inr rest ↦ elim (move v e w f vin near items q rest) [
          | inl a ↦ inl (list_any-append (λ x. x == q) (group other cast.roles) (members_in cast w f items) ∙ or_right mine there a)
          | inr b ↦ inr b
        ]
      ]
  move v e w f vin near (One (Only other) ∷ items) q m =
      let mine = who cast v e (Only other) == q in
      let there = is_member (members_in cast w f items) q in
      elim (or_cases mine (is_member (members_in cast v e items) q) m) [
        | inl here ↦ inl (or_left mine there here)
        | inr rest ↦ elim (move v e w f vin near items q rest) [ inl a ↦ inl (or_right mine there a) | inr b ↦ inr b ]
      ]
  move v e w f vin near (One Self ∷ items) q m = elim (or_cases (v == q) (is_member (members_in cast v e items) q) m) [
    | inl here ↦ inr (ap (is_member whole) (sym (eqb-true v q here)) ∙ vin)
    | inr rest ↦ elim (move v e w f vin near items q rest) [ inl a ↦ inl (or_right (w == q) (is_member (members_in cast w f items) q) a) | inr b ↦ inr b ]
  ]
  move v e w f vin near (One Each ∷ items) q m = elim (or_cases (e == q) (is_member (members_in cast v e items) q) m) [
    | inl here ↦ elim near [
      | inl s ↦ inl (or_left (f == q) (is_member (members_in cast w f items) q) (eq-eqb f q (sym s ∙ eqb-true e q here)))
      | inr ein ↦ inr (ap (is_member whole) (sym (eqb-true e q here)) ∙ ein)
    ]
    | inr rest ↦ elim (move v e w f vin near items q rest) [ inl a ↦ inl (or_right (f == q) (is_member (members_in cast w f items) q) a) | inr b ↦ inr b ]
  ]

  moves : (v e w f : ℕ) → is_member whole v ≡ true → Near e f → (items : List Item) → has_every role items ≡ true → (q : ℕ) → is_member (members_in cast v e items) q ≡ true → is_member (members_in cast w f items) q ≡ true
  moves v e w f vin near items all q m = elim (move v e w f vin near items q m) [ inl a ↦ a | inr b ↦ every_there w f items all q b ]

  same_bool : (a b : Bool) → (a ≡ true → b ≡ true) → (b ≡ true → a ≡ true) → a ≡ b
  same_bool true b into from = sym (into refl)
  same_bool false true into from = from refl
  same_bool false false into from = refl

  -- a set with the whole role
  module _ (members : List ℕ) (has_whole : (q : ℕ) → is_member whole q ≡ true → is_member members q ≡ true) where
    lacks : (v e : ℕ) (items : List Item) → KnowsItems pattern.single items → has_every role items ≡ false → same_members (set_of (members_in cast v e items)) members ≡ false
    lacks v e items known none = false_from_ne_true _ (λ t.
        let same = (bytes_eq-Decides (set_of (members_in cast v e items)) members).0 t in
        let four = can.four in
        not_two whole v e (rises_group role cast.roles) (omega (arith, four)) (λ q i.
        two_of v e items known none q i (sym (member_set (members_in cast v e items) q) ∙ ap (λ ms. is_member ms q) same ∙ has_whole q i)))

    line_says : (v e w f : ℕ) → is_member whole v ≡ true → is_member whole w ≡ true → Near e f → Near f e → (line : Line) → KnowsLine pattern.single line →
        says members (kinds_of (call_in coding cast v e line ∷ [])) ≡ says members (kinds_of (call_in coding cast w f line ∷ []))
    line_says v e w f vin win near back_near (LineFence items collect) known = elim (cases_Bool (has_every role items)) [
      | inl t ↦ ap (λ ms. cond (same_members ms members) (collect ∷ []) [])
          (same_set _ _ (rises_set (members_in cast v e items)) (rises_set (members_in cast w f items)) (λ q.
          member_set (members_in cast v e items) q ∙ same_bool _ _ (moves v e w f vin near items t q) (moves w f v e win back_near items t q) ∙ sym (member_set (members_in cast w f items) q)))
      | inr n ↦ ap (λ b. cond b (collect ∷ []) []) (lacks v e items known n ∙ sym (lacks w f items known n))
    ]
    line_says v e w f vin win near back_near (LinePut key scope) known = refl
    line_says v e w f vin win near back_near LineCommit known = refl
    line_says v e w f vin win near back_near (LineGet owner key) known = refl
    line_says v e w f vin win near back_near (LineGetNow owner key) known = refl
    line_says v e w f vin win near back_near (LinePublish name) known = refl
    line_says v e w f vin win near back_near (LineLookup name) known = refl
    line_says v e w f vin win near back_near (LineLookupWait name) known = refl
    line_says v e w f vin win near back_near (LineUnpublish name) known = refl
    line_says v e w f vin win near back_near LineUnpublishAll known = refl
    line_says v e w f vin win near back_near (LineFixed reply) known = refl

    says_line : (v e : ℕ) (line : Line) (lines : List Line) →
        says members (kinds_of (map (call_in coding cast v e) (line ∷ lines))) ≡ says members (kinds_of (call_in coding cast v e line ∷ [])) ++ says members (kinds_of (map (call_in coding cast v e) lines))
    says_line v e line lines =
        ap (says members) (kinds_append (call_in coding cast v e line ∷ []) (map (call_in coding cast v e) lines))
        ∙ says_append members (kinds_of (call_in coding cast v e line ∷ [])) (kinds_of (map (call_in coding cast v e) lines))

    lines_say : (v w e other : ℕ) (mode : Turns) → is_member whole v ≡ true → is_member whole w ≡ true → (lines : List Line) → AreLoopLines pattern.single other mode lines →
        says members (kinds_of (map (call_in coding cast v e) lines)) ≡ says members (kinds_of (map (call_in coding cast w e) lines))
    lines_say v w e other mode vin win [] known = refl
    lines_say v w e other mode vin win (line ∷ lines) known =
        says_line v e line lines
        ∙ ap (λ bs. bs ++ says members (kinds_of (map (call_in coding cast v e) lines))) (line_says v e w e vin win (inl refl) (inl refl) line known.0.0)
        ∙ ap (λ bs. says members (kinds_of (call_in coding cast w e line ∷ [])) ++ bs) (lines_say v w e other mode vin win lines known.1)
        ∙ sym (says_line w e line lines)

    says_turn : (v e : ℕ) (es : List ℕ) (lines : List Line) →
        says members (kinds_of (loop_calls coding cast v lines (e ∷ es))) ≡ says members (kinds_of (map (call_in coding cast v e) lines)) ++ says members (kinds_of (loop_calls coding cast v lines es))
    says_turn v e es lines =
        ap (says members) (kinds_append (map (call_in coding cast v e) lines) (loop_calls coding cast v lines es))
        ∙ says_append members (kinds_of (map (call_in coding cast v e) lines)) (kinds_of (loop_calls coding cast v lines es))

    loop_says : (v w other : ℕ) (mode : Turns) → is_member whole v ≡ true → is_member whole w ≡ true → (lines : List Line) → AreLoopLines pattern.single other mode lines → (es : List ℕ) →
        says members (kinds_of (loop_calls coding cast v lines es)) ≡ says members (kinds_of (loop_calls coding cast w lines es))
    loop_says v w other mode vin win lines known [] = refl
    loop_says v w other mode vin win lines known (e ∷ es) =
        says_turn v e es lines
        ∙ ap (λ bs. bs ++ says members (kinds_of (loop_calls coding cast v lines es))) (lines_say v w e other mode vin win lines known)
        ∙ ap (λ bs. says members (kinds_of (map (call_in coding cast w e) lines)) ++ bs) (loop_says v w other mode vin win lines known es)
        ∙ sym (says_turn w e es lines)

    -- loops over the role itself, and optional ones, say nothing
    quiet_line : (v e : ℕ) (mode : Turns) (line : Line) → KnowsLine pattern.single line → IsLoopLine role line → says members (kinds_of (call_in coding cast v e line ∷ [])) ≡ []
    quiet_line v e mode (LineFence items collect) known l = cond-false _ _ _ (lacks v e items known l.1)
    quiet_line v e mode (LinePut key scope) known l = refl
    quiet_line v e mode LineCommit known l = refl
    quiet_line v e mode (LineGet owner key) known l = refl
    quiet_line v e mode (LineGetNow owner key) known l = refl
    quiet_line v e mode (LinePublish name) known l = refl
    quiet_line v e mode (LineLookup name) known l = refl
    quiet_line v e mode (LineLookupWait name) known l = refl
    quiet_line v e mode (LineUnpublish name) known l = refl
    quiet_line v e mode LineUnpublishAll known l = refl
    quiet_line v e mode (LineFixed reply) known l = refl

    optional_line : (v e : ℕ) (line : Line) → IsOptional line → says members (kinds_of (call_in coding cast v e line ∷ [])) ≡ []
    optional_line v e (LineFence items collect) l = absurd l
    optional_line v e (LinePut key scope) l = refl
    optional_line v e LineCommit l = refl
    optional_line v e (LineGet owner key) l = refl
    optional_line v e (LineGetNow owner key) l = refl
    optional_line v e (LinePublish name) l = refl
    optional_line v e (LineLookup name) l = refl
    optional_line v e (LineLookupWait name) l = refl
    optional_line v e (LineUnpublish name) l = refl
    optional_line v e LineUnpublishAll l = refl
    optional_line v e (LineFixed reply) l = refl

    quiet_lines : (v e : ℕ) (mode : Turns) (lines : List Line) → AreLoopLines pattern.single role mode lines → says members (kinds_of (map (call_in coding cast v e) lines)) ≡ []
    quiet_lines v e mode [] known = refl
    quiet_lines v e mode (line ∷ lines) known =
        says_line v e line lines ∙ ap (λ bs. bs ++ says members (kinds_of (map (call_in coding cast v e) lines))) (quiet_line v e mode line known.0.0 known.0.1.0) ∙ quiet_lines v e mode lines known.1

    optional_lines : (v e other : ℕ) (lines : List Line) → AreLoopLines pattern.single other Chosen lines → says members (kinds_of (map (call_in coding cast v e) lines)) ≡ []
    optional_lines v e other [] known = refl
    optional_lines v e other (line ∷ lines) known =
        says_line v e line lines ∙ ap (λ bs. bs ++ says members (kinds_of (map (call_in coding cast v e) lines))) (optional_line v e line known.0.1.1) ∙ optional_lines v e other lines known.1

    quiet_loop : (v : ℕ) (lines : List Line) → ((e : ℕ) → says members (kinds_of (map (call_in coding cast v e) lines)) ≡ []) → (es : List ℕ) → says members (kinds_of (loop_calls coding cast v lines es)) ≡ []
    quiet_loop v lines quiet [] = refl
    quiet_loop v lines quiet (e ∷ es) = says_turn v e es lines ∙ ap (λ bs. bs ++ says members (kinds_of (loop_calls coding cast v lines es))) (quiet e) ∙ quiet_loop v lines quiet es

    -- callers of the role take the same turns for another role
    not_in : (v other : ℕ) → is_member whole v ≡ true → (other ≡ role → ⊥) → is_member (group other cast.roles) v ≡ false
    not_in v other vin ne = false_from_ne_true _ (λ i. not_both (slice_get cast.roles v) other (sym (group_member role cast.roles v) ∙ vin) (sym (group_member other cast.roles v) ∙ i) (ne_eqb other role ne))

    filter_none : (v : ℕ) (xs : List ℕ) → is_member xs v ≡ false → filter (λ e. not (e == v)) xs ≡ xs
    filter_none v [] f = refl
    filter_none v (x ∷ xs) f = let parts = or_parts (x == v) (is_member xs v) f in cond-true _ _ _ (ap not parts.0) ∙ ap (λ ys. x ∷ ys) (filter_none v xs parts.1)

    in_order : (v i other : ℕ) → is_member whole v ≡ true → (other ≡ role → ⊥) → turns cast v i other InOrder ≡ group other cast.roles
    in_order v i other vin ne = filter_none v (group other cast.roles) (not_in v other vin ne)

    in_round : (v i other : ℕ) → is_member whole v ≡ true → (other ≡ role → ⊥) → turns cast v i other Round ≡ group other cast.roles
    in_round v i other vin ne =
        cond-false _ (filter (λ e. nat_lt v e) (group other cast.roles) ++ filter (λ e. nat_lt e v) (group other cast.roles)) _ (not_in v other vin ne) ∙ filter_none v (group other cast.roles) (not_in v other vin ne)

    step_says : (v w i : ℕ) (waits : Bool) → is_member whole v ≡ true → is_member whole w ≡ true → (step : Step) → IsLawfulStep pattern.single waits step →
        says members (kinds_of (step_calls coding cast v i step)) ≡ says members (kinds_of (step_calls coding cast w i step))
    step_says v w i waits vin win (Once line) known = line_says v v w w vin win (inr vin) (inr win) line known
    step_says v w i waits vin win (Loop other Chosen lines) known =
        quiet_loop v lines (λ e. optional_lines v e other lines known.0) (turns cast v i other Chosen) ∙ sym (quiet_loop w lines (λ e. optional_lines w e other lines known.0) (turns cast w i other Chosen))
    step_says v w i waits vin win (Loop other InOrder lines) known = elim (cases_eq other role) [
      | inl s ↦ (let here = subst (λ n. AreLoopLines pattern.single n InOrder lines) s known.0 in
          quiet_loop v lines (λ e. quiet_lines v e InOrder lines here) (turns cast v i other InOrder) ∙ sym (quiet_loop w lines (λ e. quiet_lines w e InOrder lines here) (turns cast w i other InOrder)))
      | inr ne ↦ ap (λ es. says members (kinds_of (loop_calls coding cast v lines es))) (in_order v i other vin ne) ∙ loop_says v w other InOrder vin win lines known.0 (group other cast.roles)
          ∙ sym (ap (λ es. says members (kinds_of (loop_calls coding cast w lines es))) (in_order w i other win ne))
    ]
    step_says v w i waits vin win (Loop other Round lines) known = elim (cases_eq other role) [
      | inl s ↦ (let here = subst (λ n. AreLoopLines pattern.single n Round lines) s known.0 in
          quiet_loop v lines (λ e. quiet_lines v e Round lines here) (turns cast v i other Round) ∙ sym (quiet_loop w lines (λ e. quiet_lines w e Round lines here) (turns cast w i other Round)))
      | inr ne ↦ ap (λ es. says members (kinds_of (loop_calls coding cast v lines es))) (in_round v i other vin ne) ∙ loop_says v w other Round vin win lines known.0 (group other cast.roles)
          ∙ sym (ap (λ es. says members (kinds_of (loop_calls coding cast w lines es))) (in_round w i other win ne))
    ]

    steps_say : (v w i : ℕ) (waits : Bool) → is_member whole v ≡ true → is_member whole w ≡ true → (steps : List Step) → AreSteps pattern.single waits steps →
        says members (kinds_of (calls_from coding cast v i steps)) ≡ says members (kinds_of (calls_from coding cast w i steps))
    steps_say v w i waits vin win [] known = refl
    steps_say v w i waits vin win (step ∷ steps) known =
        ap (says members) (kinds_append (step_calls coding cast v i step) (calls_from coding cast v (suc i) steps))
        ∙ says_append members (kinds_of (step_calls coding cast v i step)) (kinds_of (calls_from coding cast v (suc i) steps))
        ∙ ap (λ bs. bs ++ says members (kinds_of (calls_from coding cast v (suc i) steps))) (step_says v w i waits vin win step known.0)
        ∙ ap (λ bs. says members (kinds_of (step_calls coding cast w i step)) ++ bs) (steps_say v w (suc i) (waits_step waits step) vin win steps known.1)
        ∙ sym (ap (says members) (kinds_append (step_calls coding cast w i step) (calls_from coding cast w (suc i) steps))
        ∙ says_append members (kinds_of (step_calls coding cast w i step)) (kinds_of (calls_from coding cast w (suc i) steps)))

    -- two of the role say the same
    pub role_says : (v w j : ℕ) → is_member whole v ≡ true → is_member whole w ≡ true →
        collects (instance_of pattern coding cast) v members j (event_count (instance_of pattern coding cast) v) ≡ collects (instance_of pattern coding cast) w members j (event_count (instance_of pattern coding cast) w)
    role_says v w j vin win = same_says (instance_of pattern coding cast) v w members j (by_script v vin ∙ steps_say v w 0 false vin win (pattern.script role) (can.lawful.steps role) ∙ sym (by_script w win))
      where
        by_script : (p : ℕ) → is_member whole p ≡ true → says members (kinds (instance_of pattern coding cast) p) ≡ says members (kinds_of (calls_from coding cast p 0 (pattern.script role)))
        by_script p pin =
            ap (says members) (instance_kinds pattern coding cast p)
            ∙ ap (λ o. says members (kinds_of (calls_from coding cast p 0 (script_in pattern o)))) (plays_role (slice_get cast.roles p) role (sym (group_member role cast.roles p) ∙ pin))

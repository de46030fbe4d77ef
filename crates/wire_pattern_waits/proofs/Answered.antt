-- Each call of an instance comes from a call line of the pattern; and a process that isn't done waits at one.
use Rattle.std.proofs.Common.{◌≡◌, ◌∙◌, ap, sym, subst, refl, ℕ, zero, suc, ◌+◌, ◌<◌, ◌≤◌, ◌++◌, List, [], ◌∷◌, Bool, true, false, length, map, filter, flat_map, Some, inl, inr, ◌⊎◌, add-zero, zero-add, arith}
use Rattle.std.specs.Prelude.{slice_get, slice_index_or}
use Rattle.std.specs.List.{range_with_len}
use Rattle.std.proofs.lemmas.Bool.{cases_lt, cases_Bool}
use Rattle.std.proofs.lemmas.List.{length-append, length-map}
use Rattle.std.proofs.lemmas.List.FromFn.{length-range_with_len}
use Rattle.std.proofs.lemmas.Option.{same_Some, slice_get_past, get_or_from_slice_get, unwrap_or-slice_get}
use Rattle.std.proofs.Common.{unwrap_or}
use Rattle.wire_types.specs.declared.CallEnd.{CallEnd}
use Rattle.wire_types.specs.declared.CallEnd.TheVariants.{Replied, Waiting}
use Rattle.wire_types.specs.declared.Reply.{Reply}
use Rattle.wire_types.specs.declared.verb.Verb.{Verb}
use Rattle.wire_runs.specs.Plan.{Plan}
use Rattle.wire_runs.specs.State.{State}
use Rattle.wire_runs.specs.Ends.{row, rows_below, unanswered}
use Rattle.wire_runs.specs.Patterns.{turns}
use Rattle.wire_runs.proofs.Lists.{slice_get-append_kept, slice_get_push_last, not_in_empty}
use Rattle.wire_pattern.specs.Pattern.{Pattern, Step, Once, Loop, Role}
use Rattle.wire_pattern.specs.Instances.{Cast, cast_of, call_said, turns_said, step_said, steps_said}
use Rattle.wire_pattern_waits.specs.declared.lines.CallLine.{CallLine}
use Rattle.wire_pattern_waits.specs.Lines.{verb_of, lines_in, verbs_in, numbered, roles_lines, call_lines}
use Rattle.wire_pattern_waits.specs.Places.{line_count, step_places, steps_places}

-- the rows of the first processes

rows_count : (plan : Plan) (s : State) (n : ℕ) → length (rows_below plan s n) ≡ n
rows_count plan s zero = refl
rows_count plan s (suc n) = let more = length-append (rows_below plan s n) (row plan s n ∷ []) in let before = rows_count plan s n in omega (arith, more, before)

rows_at : (plan : Plan) (s : State) (n v : ℕ) → v < n → slice_get (rows_below plan s n) v ≡ Some (row plan s v)
rows_at plan s zero v lt = absurd (omega (arith, lt))
rows_at plan s (suc n) v lt =
    go (rows_at plan s n v) (cases_lt v n)
  where
    go : (v < n → slice_get (rows_below plan s n) v ≡ Some (row plan s v)) → (v < n) ⊎ (n ≤ v) → slice_get (rows_below plan s (suc n)) v ≡ Some (row plan s v)
    go before (inl less) = slice_get-append_kept (rows_below plan s n) (row plan s n ∷ []) v (row plan s v) (before less)
    go before (inr ge) =
        let is : v ≡ n = omega (arith, ge, lt) in
        let count : v ≡ length (rows_below plan s n) = is ∙ sym (rows_count plan s n) in
        ap (slice_get (rows_below plan s (suc n))) count ∙ slice_get_push_last (rows_below plan s n) (row plan s n) ∙ ap (λ m. Some (row plan s m)) (sym is)

pub row_of : (plan : Plan) (s : State) (n v : ℕ) → v < n → slice_index_or (rows_below plan s n) v [] ≡ row plan s v
row_of plan s n v lt = get_or_from_slice_get (rows_below plan s n) v (row plan s v) [] (rows_at plan s n v lt)

pub no_row : (plan : Plan) (s : State) (n v : ℕ) → n ≤ v → slice_index_or (rows_below plan s n) v [] ≡ []
no_row plan s n v past =
    let count = rows_count plan s n in
    sym (unwrap_or-slice_get (rows_below plan s n) v []) ∙ ap (λ o. unwrap_or o []) (slice_get_past (rows_below plan s n) v (omega (arith, count, past)))

-- each call has its reply, or the first without one waits
pub replied_or_waits : (replies : List Reply) (k call : ℕ) (end : CallEnd) → slice_get (map Replied replies ++ unanswered false k) call ≡ Some end
    → ((reply : Reply) × (end ≡ Replied reply)) ⊎ (slice_get (map Replied replies ++ unanswered false k) (length replies) ≡ Some Waiting)
replied_or_waits [] zero call end h = absurd (not_in_empty call end h)
replied_or_waits [] (suc k) call end h = inr refl
replied_or_waits (reply ∷ replies) k zero end h = inl (reply, sym (same_Some (Replied reply) end h))
replied_or_waits (reply ∷ replies) k (suc call) end h = replied_or_waits replies k call end h

-- each call has a line

-- the calls of all turns, those of a turn before those of the turns behind it: each turn has one for each line
pub turns_count : {A : Type 0} (turn : ℕ → List A) (all : List ℕ → List A) (n count : ℕ) → all [] ≡ []
    → ((e : ℕ) (es : List ℕ) → all (e ∷ es) ≡ turn e ++ all es)
    → ((e : ℕ) → length (turn e) ≡ count) → (es : List ℕ) → length (flat_map (λ (e : ℕ). range_with_len n count) es) ≡ length (all es)
turns_count turn all n count none more each [] = sym (ap length none)
turns_count turn all n count none more each (e ∷ es) =
    let one = length-append (range_with_len n count) (flat_map (λ (e : ℕ). range_with_len n count) es) in
    let other = ap length (more e es) ∙ length-append (turn e) (all es) in
    let here = length-range_with_len n count in
    let calls = each e in
    let rest = turns_count turn all n count none more each es in
    omega (arith, one, other, here, calls, rest)

step_count : (p : Pattern) (cast : Cast) (v i n : ℕ) (step : Step) → length (step_places cast v i n step) ≡ length (step_said p cast v i step)
step_count p cast v i n (Once line) = refl
step_count p cast v i n (Loop number role mode lines) =
    turns_count (λ e. map (λ l. call_said p cast v e l.call) lines) (turns_said p cast v lines) n (length lines) refl (λ e es. refl)
    (λ e. length-map lines (λ l. call_said p cast v e l.call)) (turns (cast_of cast) v i role mode)

pub places_count : (p : Pattern) (cast : Cast) (v i n : ℕ) (steps : List Step) → length (steps_places cast v i n steps) ≡ length (steps_said p cast v i steps)
places_count p cast v i n [] = refl
places_count p cast v i n (step ∷ steps) =
    let one = length-append (step_places cast v i n step) (steps_places cast v (suc i) (n + line_count step) steps) in
    let other = length-append (step_said p cast v i step) (steps_said p cast v (suc i) steps) in
    let here = step_count p cast v i n step in
    let rest = places_count p cast v (suc i) (n + line_count step) steps in
    omega (arith, one, other, here, rest)

-- which is one of the script's

either : {A : Type 0} (xs ys : List A) (c : ℕ) (x : A) → slice_get (xs ++ ys) c ≡ Some x → (slice_get xs c ≡ Some x) ⊎ ((d : ℕ) × (slice_get ys d ≡ Some x))
either [] ys c x h = inr (c, h)
either (y ∷ xs) ys zero x h = inl h
either (y ∷ xs) ys (suc c) x h = either xs ys c x h

-- from this number up to another
abbrev Between : ℕ → ℕ → ℕ → Type 0
Between n m x = (n ≤ x) × (x < m)

range_between : (n k c x : ℕ) → slice_get (range_with_len n k) c ≡ Some x → Between n (n + k) x
range_between n zero c x h = absurd (not_in_empty c x h)
range_between n (suc k) zero x h = let is : n ≡ x = same_Some n x h in (omega (arith, is), omega (arith, is))
range_between n (suc k) (suc c) x h = let b = range_between (n + 1) k c x h in let l = b.0 in let u = b.1 in (omega (arith, l), omega (arith, u))

turns_between : (n k : ℕ) (es : List ℕ) (c x : ℕ) → slice_get (flat_map (λ (e : ℕ). range_with_len n k) es) c ≡ Some x → Between n (n + k) x
turns_between n k [] c x h = absurd (not_in_empty c x h)
turns_between n k (e ∷ es) c x h = go (turns_between n k es) (either (range_with_len n k) (flat_map (λ (e : ℕ). range_with_len n k) es) c x h)
  where
    go : ((c x : ℕ) → slice_get (flat_map (λ (e : ℕ). range_with_len n k) es) c ≡ Some x → Between n (n + k) x)
        → (slice_get (range_with_len n k) c ≡ Some x) ⊎ ((d : ℕ) × (slice_get (flat_map (λ (e : ℕ). range_with_len n k) es) d ≡ Some x)) → Between n (n + k) x
    go more (inl here) = range_between n k c x here
    go more (inr later) = more later.0 x later.1

step_between : (cast : Cast) (v i n : ℕ) (step : Step) (c x : ℕ) → slice_get (step_places cast v i n step) c ≡ Some x → Between n (n + line_count step) x
step_between cast v i n (Once line) zero x h = let is : n ≡ x = same_Some n x h in (omega (arith, is), omega (arith, is))
step_between cast v i n (Once line) (suc c) x h = absurd (not_in_empty c x h)
step_between cast v i n (Loop number role mode lines) c x h = turns_between n (length lines) (turns (cast_of cast) v i role mode) c x h

lines_count : (step : Step) → length (lines_in step) ≡ line_count step
lines_count (Once line) = refl
lines_count (Loop number role mode lines) = refl

verbs_count : (step : Step) (steps : List Step) → length (verbs_in (step ∷ steps)) ≡ line_count step + length (verbs_in steps)
verbs_count step steps =
    let all = length-map (flat_map lines_in (step ∷ steps)) (λ l. verb_of l.call) in
    let parts = length-append (lines_in step) (flat_map lines_in steps) in
    let rest = length-map (flat_map lines_in steps) (λ l. verb_of l.call) in
    let one = lines_count step in
    omega (arith, all, parts, rest, one)

pub places_between : (cast : Cast) (v i n : ℕ) (steps : List Step) (c x : ℕ) → slice_get (steps_places cast v i n steps) c ≡ Some x
    → Between n (n + length (verbs_in steps)) x
places_between cast v i n [] c x h = absurd (not_in_empty c x h)
places_between cast v i n (step ∷ steps) c x h =
    go (places_between cast v (suc i) (n + line_count step) steps)
    (either (step_places cast v i n step) (steps_places cast v (suc i) (n + line_count step) steps) c x h)
  where
    go : ((c x : ℕ) → slice_get (steps_places cast v (suc i) (n + line_count step) steps) c ≡ Some x
        → Between (n + line_count step) ((n + line_count step) + length (verbs_in steps)) x)
        → (slice_get (step_places cast v i n step) c ≡ Some x) ⊎ ((d : ℕ) × (slice_get (steps_places cast v (suc i) (n + line_count step) steps) d ≡ Some x))
        → Between n (n + length (verbs_in (step ∷ steps))) x
    go more (inl here) =
        let b = step_between cast v i n step c x here in
        let l = b.0 in let u = b.1 in let count = verbs_count step steps in
        (l, omega (arith, u, count))
    go more (inr later) =
        let b = more later.0 x later.1 in
        let l = b.0 in let u = b.1 in let count = verbs_count step steps in
        (omega (arith, l), omega (arith, u, count))

-- and so is told

in_right : {A : Type 0} (x : A) (xs ys : List A) → (k : ℕ) → slice_get ys k ≡ Some x → (m : ℕ) × (slice_get (xs ++ ys) m ≡ Some x)
in_right x [] ys k h = (k, h)
in_right x (y ∷ xs) ys k h = let r = in_right x xs ys k h in (suc r.0, r.1)

-- the call line of this number has some verb
abbrev pub IsListed : ℕ → ℕ → List CallLine → Type 0
IsListed role line lines = (verb : Verb) × ((k : ℕ) × (slice_get lines k ≡ Some (record { role = role; number = line; verb = verb })))

the_same : (n line : ℕ) → n ≤ line → line ≤ n → n ≡ line
the_same n line l le = omega (arith, l, le)

numbered_there : (role n : ℕ) (verbs : List Verb) (line : ℕ) → n ≤ line → line < n + length verbs → IsListed role line (numbered role n verbs)
numbered_there role n [] line l u = absurd (omega (arith, l, u))
numbered_there role n (verb ∷ verbs) line l u = go (numbered_there role (suc n) verbs line) (cases_lt n line)
  where
    go : (suc n ≤ line → line < suc n + length verbs → IsListed role line (numbered role (suc n) verbs)) → (n < line) ⊎ (line ≤ n)
        → IsListed role line (numbered role n (verb ∷ verbs))
    go more (inl less) = let m = more (omega (arith, less)) (omega (arith, u)) in (m.0, (suc m.1.0, m.1.1))
    go more (inr le) = (verb, (0, ap (λ x. Some (record { role = role; number = x; verb = verb })) (the_same n line l le)))

roles_there : (m r line : ℕ) (roles : List Role) (role : Role) → slice_get roles r ≡ Some role → IsListed (m + r) line (numbered (m + r) 1 (verbs_in role.steps))
    → IsListed (m + r) line (roles_lines m roles)
roles_there m r line [] role h there = absurd (not_in_empty r role h)
roles_there m zero line (one ∷ roles) role h there =
    let is : one ≡ role = same_Some one role h in
    let at : m + 0 ≡ m = add-zero m in (
      there.0,
      (
        there.1.0,
        slice_get-append_kept (numbered m 1 (verbs_in one.steps)) (roles_lines (suc m) roles) there.1.0 _
            (ap (λ q. slice_get (numbered m 1 (verbs_in q.steps)) there.1.0) is ∙ ap (λ q. slice_get (numbered q 1 (verbs_in role.steps)) there.1.0) (sym at) ∙ there.1.1),
      ),
    )
roles_there m (suc r) line (one ∷ roles) role h there =
    go (roles_there (suc m) r line roles role h (subst (λ q. IsListed q line (numbered q 1 (verbs_in role.steps))) on there))
  where
    on : m + suc r ≡ suc m + r
    on = omega arith

    go : IsListed (suc m + r) line (roles_lines (suc m) roles) → IsListed (m + suc r) line (roles_lines m (one ∷ roles))
    go more =
        let at = in_right _ (numbered m 1 (verbs_in one.steps)) (roles_lines (suc m) roles) more.1.0 more.1.1 in
        subst (λ q. IsListed q line (roles_lines m (one ∷ roles))) (sym on) (more.0, at)

pub line_there : (p : Pattern) (r line : ℕ) (role : Role) → slice_get p.roles r ≡ Some role → 1 ≤ line → line < 1 + length (verbs_in role.steps)
    → IsListed r line (call_lines p)
line_there p r line role h l u =
    subst (λ q. IsListed q line (call_lines p)) (zero-add r)
    (roles_there 0 r line p.roles role h (numbered_there (0 + r) 1 (verbs_in role.steps) line l u))

cons_not_nil : (x : CallLine) (xs : List CallLine) → x ∷ xs ≡ [] → ⊥
cons_not_nil x xs e = cc

taken : (test : CallLine → Bool) (x : CallLine) (lines : List CallLine) → test x ≡ true → filter test (x ∷ lines) ≡ x ∷ filter test lines
taken test x lines is = rw is refl

passed_by : (test : CallLine → Bool) (x : CallLine) (lines : List CallLine) → test x ≡ false → filter test (x ∷ lines) ≡ filter test lines
passed_by test x lines is = rw is refl

-- what passes the test stays
pub kept : (test : CallLine → Bool) (lines : List CallLine) (k : ℕ) (line : CallLine) → slice_get lines k ≡ Some line → test line ≡ true → filter test lines ≡ [] → ⊥
kept test [] k line h passes none = not_in_empty k line h
kept test (x ∷ lines) zero line h passes none =
    cons_not_nil x (filter test lines) (sym (taken test x lines (ap test (same_Some x line h) ∙ passes)) ∙ none)
kept test (x ∷ lines) (suc k) line h passes none = go (kept test lines k line h passes) (cases_Bool (test x))
  where
    go : (filter test lines ≡ [] → ⊥) → (test x ≡ true) ⊎ (test x ≡ false) → ⊥
    go more (inl is) = cons_not_nil x (filter test lines) (sym (taken test x lines is) ∙ none)
    go more (inr is) = more (sym (passed_by test x lines is) ∙ none)

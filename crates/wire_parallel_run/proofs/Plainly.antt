-- What trails tell is what became of the calls.
use Rattle.std.proofs.Common.{◌≡◌, ◌∙◌, ap, sym, refl, ℕ, zero, suc, ◌-◌, ◌<◌, List, [], ◌∷◌, ◌++◌, ◌&&◌, length, map, cond, not, Option, Some, None, Vec, Global, arith, ◌+◌}
use Rattle.std.proofs.Common.{lt-ltb}
use Rattle.std.specs.Prelude.{slice_get, nat_lt, is_some}
use Rattle.std.proofs.lemmas.Bool.{le-ltb}
use Rattle.std.proofs.lemmas.Option.{slice_get_past}
use Rattle.std.proofs.lemmas.List.Concat.{flat_map-cons}
use Rattle.std.proofs.Math.Bool.{and-true}
use Rattle.wire_types.specs.declared.CallEnd.TheVariants.{Replied}
use Rattle.wire_scripts.specs.Scripts.{Scripts}
use Rattle.wire_scripts.specs.Planned.{plan_of}
use Rattle.wire_runs.specs.Plan.{Plan, event_count, process_count, kinds, kind_at}
use Rattle.wire_runs.specs.State.{State, Answer, Silent, Success, NotFound, ExistsOutside, Duplicate, Value, Published, Reserved}
use Rattle.wire_runs.specs.Step.{IsEnd, IsReachable}
use Rattle.wire_runs.specs.Ends.{given, replies_of, calls_of, unanswered, row, rows_below, is_waiting, waiting_below, outcome}
use Rattle.wire_runs.specs.Races.{IsSettled}
use Rattle.wire_runs.proofs.Known.{reachable_known}
use Rattle.wire_runs.proofs.Fates.{fates_tell}
use Rattle.wire_runs.proofs.Lists.{less_both}
use Rattle.wire_fates.specs.declared.Fate.{Fate}
use Rattle.wire_fates.specs.Fates.{answer_told, fate_told}
use Rattle.wire_board.specs.Cuts.{IsReachedCut}
use Rattle.wire_board.specs.Lanes.{AreFates, AreTrails}
use Rattle.wire_board.proofs.Trails.{fates_none}
use Rattle.wire_core.specs.EndsAfter.{plain_ends}
use Rattle.wire_parallel_run.specs.Trails.{said_by, said_in, fates_in, trail_of, told_row, told_rows, told_waiting, told_outcome, AreAtRest}
use Rattle.wire_parallel_run.proofs.AtRest.{end_if_none_shown, is_plain_end}

pub said_given : (plan : Plan) (a : Answer) → said_by (answer_told plan a) ≡ given plan a
said_given plan Silent = refl
said_given plan Success = refl
said_given plan NotFound = refl
said_given plan ExistsOutside = refl
said_given plan Duplicate = refl
said_given plan (Value put) = refl
said_given plan (Published publish) = refl
said_given plan (Reserved reply) = refl

-- fates that tell answers say the same replies
said_is : (plan : Plan) (trail : List Fate) (answers : List Answer) → length trail ≡ length answers →
    ((i : ℕ) (fate : Fate) (a : Answer) → slice_get trail i ≡ Some fate → slice_get answers i ≡ Some a → fate ≡ answer_told plan a) → said_in trail ≡ replies_of plan answers
said_is plan [] [] long each = refl
said_is plan [] (a ∷ rest) long each = absurd (omega (arith, long))
said_is plan (f ∷ fates) [] long each = absurd (omega (arith, long))
said_is plan (f ∷ fates) (a ∷ rest) long each =
    let first = ap said_by (each 0 f a refl refl) ∙ said_given plan a in
    let more = said_is plan fates rest (omega (arith, long)) (λ i fate b at is. each (suc i) fate b at is) in
    flat_map-cons said_by f fates ∙ (λ i. first i ++ more i) ∙ sym (flat_map-cons (given plan) a rest)

-- the replies of a process in a state that a run came to
trail_said : (plan : Plan) (s : State) (p : ℕ) (trail : List Fate) → IsSettled plan → IsReachable plan s → AreFates plan p trail → length trail ≡ s.done p →
    said_in trail ≡ replies_of plan (s.replies p)
trail_said plan s p trail settled r fates long =
    said_is plan trail (s.replies p) (long ∙ sym ((reachable_known plan settled s r).lengths p))
    (λ i fate a at is. let f = (fates i fate at).0 in f.is ∙ ap (fate_told plan) ((fates_tell plan s settled r).answers (record { proc = p; at = i }) a f.fate is f.has))

-- At an end

abbrev Said : Plan → State → List (Vec Fate Global) → ℕ → Type 0
Said plan s trails n = (p : ℕ) → p < n → said_in (trail_of trails p) ≡ replies_of plan (s.replies p)

abbrev AsLong : State → List (Vec Fate Global) → ℕ → Type 0
AsLong s trails n = (p : ℕ) → p < n → length (trail_of trails p) ≡ s.done p

rows_are : (plan : Plan) (s : State) (trails : List (Vec Fate Global)) (n : ℕ) → IsEnd plan s → Said plan s trails n → told_rows plan trails n ≡ rows_below plan s n
rows_are plan s trails zero end said = refl
rows_are plan s trails (suc n) end said =
    let before = rows_are plan s trails n end (λ p lt. said p (omega (arith, lt))) in
    let same = said n (omega arith) in
    let last : told_row (trail_of trails n) (length (calls_of plan n)) ≡ row plan s n = λ i. map Replied (same i) ++ unanswered (sym (end n) i) (length (calls_of plan n) - length (same i)) in
    λ i. before i ++ last i ∷ []

same_lt : (i n : ℕ) → nat_lt (suc i) (suc n) ≡ nat_lt i n
same_lt i n = let one : suc i ≡ 1 + i = omega arith in ap (λ k. nat_lt k (suc n)) one ∙ less_both i n

some_within : {A : Type 0} (xs : List A) (i : ℕ) → nat_lt i (length xs) ≡ is_some (slice_get xs i)
some_within {A = A} [] i = let past : slice_get {X = A} [] i ≡ None = slice_get_past [] i (omega arith) in le-ltb i 0 (omega arith) ∙ sym (ap (is_some {T = A}) past)
some_within (x ∷ xs) zero = lt-ltb 0 (suc (length xs)) (omega arith)
some_within (x ∷ xs) (suc i) = same_lt i (length xs) ∙ some_within xs i

pub short_waits : (plan : Plan) (s : State) (p done : ℕ) → IsEnd plan s → done ≡ s.done p → nat_lt done (event_count plan p) ≡ is_waiting plan s p
unfolding event_count kind_at
short_waits plan s p done end is =
    ap (λ n. nat_lt n (event_count plan p)) is ∙ some_within (kinds plan p) (s.done p) ∙ sym (and-true _) ∙ (λ i. is_some (kind_at plan p (s.done p)) && not (sym (end p) i))

waiting_is : (plan : Plan) (s : State) (trails : List (Vec Fate Global)) (n : ℕ) → IsEnd plan s → AsLong s trails n → told_waiting plan trails n ≡ waiting_below plan s n
waiting_is plan s trails zero end long = refl
waiting_is plan s trails (suc n) end long =
    let before = waiting_is plan s trails n end (λ p lt. long p (omega (arith, lt))) in
    let last = short_waits plan s n (length (trail_of trails n)) end (long n (omega arith)) in
    λ i. cond (last i) (suc (before i)) (before i)

fates_at : (plan : Plan) (trails : List (Vec Fate Global)) (p : ℕ) → AreTrails plan trails → AreFates plan p (trail_of trails p)
fates_at plan trails p are = go (slice_get trails p) refl
  where
    go : (o : Option (Vec Fate Global)) → slice_get trails p ≡ o → AreFates plan p (fates_in o)
    go None e = fates_none plan p [] refl
    go (Some trail) e = are.each p trail e

-- what trails tell where no process can go on is the end of the plain run
pub told_plainly : (scripts : Scripts) (words : List ℕ) (trails : List (Vec Fate Global)) → IsSettled (plan_of scripts) → IsReachedCut (plan_of scripts) words → AreTrails (plan_of scripts) trails →
    AreAtRest scripts words trails → told_outcome (plan_of scripts) trails ≡ plain_ends scripts
told_plainly scripts words trails settled c are rest =
    let plan = plan_of scripts in
    let n = process_count plan in
    let end = end_if_none_shown scripts words c settled (λ p lt. (rest p lt).rests) in
    let long : AsLong c.state trails n = λ p lt. (rest p lt).as_long ∙ sym (c.done p) in
    let said : Said plan c.state trails n = λ p lt. trail_said plan c.state p (trail_of trails p) settled c.reached (fates_at plan trails p are) (long p lt) in
    let rows = rows_are plan c.state trails n end said in
    let waiting = waiting_is plan c.state trails n end long in
    let here : told_outcome plan trails ≡ outcome plan c.state = λ i. record { rows = rows i; waiting = waiting i } in
    here ∙ ap (outcome plan) (is_plain_end plan c.state settled c.reached end)

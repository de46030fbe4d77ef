-- A program's runs that have done the same so far have been told the same, and go on alike.
use Rattle.std.proofs.Common.{◌≡◌, ℕ, zero, suc, ◌<◌, ◌≤◌, List, [], ◌∷◌, ◌++◌, map, length, take, get_or, true, Option, Some, inl, inr, refl, sym, ap, ◌∙◌, subst, arith, nat_le, leb-true, le-leb}
use Rattle.std.specs.Prelude.{if◌then◌else◌}
use Rattle.std.proofs.lemmas.Bool.{cond-true, cond-false, cases_eq, cases_lt, cases_Bool, or_left, or_right}
use Rattle.std.proofs.Common.{eq-eqb}
use Rattle.wire_runs.specs.Plan.{Plan, Event, Kind, Leave, kind_at, event_count, process_count}
use Rattle.wire_runs.specs.Fences.{arrivals, is_member, is_complete}
use Rattle.wire_runs.specs.State.{Answer, Silent, Value, Published, State, start, next_event, next_kind}
use Rattle.wire_runs.specs.Step.{reply, is_enabled, step, IsInterleaving, run, run_from, IsReachable}
use Rattle.wire_runs.proofs.Basics.{list_all_at_member, arrivals_rise}
use Rattle.wire_runs.proofs.Due.{reachable_sound, done_same, done_other}
use Rattle.wire_runs.proofs.Known.{replies_same}
use Rattle.wire_runs.proofs.Onward.{reached_on, done_on, replies_on}
use Rattle.wire_runs.specs.Ends.{calls_of}
use Rattle.wire_program_laws.specs.Runs.{IsSameHead, IsCommon, AreOfOneProgram}
use Rattle.wire_program_laws.specs.Programs.{Text, Told, Program, event, arrival_at, heard_from, heard, told, IsRunOf, ProgramsTell}
use Rattle.wire_program_laws.proofs.Ahead.{enabled_same, step_same, arrivals_same}
use Rattle.wire_program_laws.proofs.Named.{reachable_named, value_was, publish_was}
use Rattle.wire_program_laws.proofs.Chosen.{chosen_next, chosen_front, chosen_same, same_plan, no_calls, kind_of_calls, none_there}
use Rattle.wire_program_laws.proofs.Tells.{one_run_tells, whole_is_common}

-- an element of a front of a list
front_at : (xs : List Answer) (n i : ℕ) (d : Answer) → i < n → get_or (take n xs) i d ≡ get_or xs i d
front_at [] zero i d lt = refl
front_at [] (suc n) i d lt = refl
front_at (x ∷ xs) zero i d lt = absurd (omega (arith, lt))
front_at (x ∷ xs) (suc n) zero d lt = refl
front_at (x ∷ xs) (suc n) (suc i) d lt = front_at xs n i d (omega (arith, lt))

pushed_at : (xs more : List Answer) (y d : Answer) (i : ℕ) → length xs ≡ i → get_or ((xs ++ y ∷ []) ++ more) i d ≡ y
pushed_at [] more y d zero e = refl
pushed_at [] more y d (suc i) e = absurd (omega (arith, e))
pushed_at (x ∷ xs) more y d zero e = absurd (omega (arith, e))
pushed_at (x ∷ xs) more y d (suc i) e = pushed_at xs more y d i (omega (arith, e))

pub map_alike : (f g : ℕ → Text) (xs : List ℕ) → ((m : ℕ) → is_member xs m ≡ true → f m ≡ g m) → map f xs ≡ map g xs
map_alike f g [] same = refl
map_alike f g (x ∷ xs) same = λ t. same x (or_left _ _ (eq-eqb x x refl)) t ∷ map_alike f g xs (λ m i. same m (or_right _ _ i)) t

-- the arrival that is found is among the first n events, and looking further finds the same
pub arrival_low : (plan : Plan) (m : ℕ) (members : List ℕ) (j n : ℕ) → arrival_at plan m members j n ≤ n
arrival_low plan m members j zero = omega arith
arrival_low plan m members j (suc n) = elim (cases_Bool (nat_le j (arrivals plan m members n))) [
  | inl t ↦ (let e : arrival_at plan m members j (suc n) ≡ arrival_at plan m members j n = cond-true _ _ _ t in let low = arrival_low plan m members j n in omega (arith, e, low))
  | inr f ↦ (let e : arrival_at plan m members j (suc n) ≡ n = cond-false _ _ _ f in omega (arith, e))
]

pub arrival_on : (plan : Plan) (m : ℕ) (members : List ℕ) (j n k : ℕ) → j ≤ arrivals plan m members n → n ≤ k → arrival_at plan m members j k ≡ arrival_at plan m members j n
arrival_on plan m members j n zero there le = let e : n ≡ 0 = omega arith in ap (arrival_at plan m members j) (sym e)
arrival_on plan m members j n (suc k) there le = elim (cases_eq n (suc k)) [
  | inl e ↦ ap (arrival_at plan m members j) (sym e)
  | inr ne ↦
      (let up = arrivals_rise plan m members n k (omega (arith, le, ne)) in
      cond-true _ _ _ (le-leb j (arrivals plan m members k) (omega (arith, up, there))) ∙ arrival_on plan m members j n k there (omega (arith, le, ne)))
]

module _ (program : Program) (a b : Plan) (text other : Event → Text) (v w : List ℕ) (first : IsRunOf program a text v) (second : IsRunOf program b other w) (head : IsSameHead a b)
    (s : State) (common : IsCommon a b v w s) where
  abbrev told_first : ℕ → ℕ → List Told
  told_first p i = told a text ((run a v).replies p) p i

  abbrev told_second : ℕ → ℕ → List Told
  told_second p i = told b other ((run b w).replies p) p i

  -- a state on the way to s, where both have been told the same
  record Way (z : State) (rest : List ℕ) : Type 0 where
    in_first : IsReachable a z
    in_second : IsReachable b z
    goes_on : run_from a z rest ≡ s
    alike : (p i : ℕ) → i ≤ z.done p → told_first p i ≡ told_second p i

  module _ (z : State) (rest : List ℕ) (way : Way z rest) where
    no_more : (p : ℕ) → z.done p ≤ s.done p
    no_more p = let up = done_on a rest z p in let there = ap (λ (t : State). t.done p) way.goes_on in omega (arith, up, there)

    same_so_far : (p i : ℕ) → i < z.done p → kind_at a p i ≡ kind_at b p i
    same_so_far p i lt = common.same p i (let up = no_more p in omega (arith, lt, up))

    -- both say the same
    says_alike : (p i : ℕ) → i ≤ z.done p → text (event p i) ≡ other (event p i)
    says_alike p i le =
        let up = no_more p in
        let in_a = common.in_first.within p in
        let in_b = common.in_second.within p in
        first.said p i (omega (arith, le, up, in_a)) ∙ ap (program.says p) (way.alike p i le) ∙ sym (second.said p i (omega (arith, le, up, in_b)))

    count_same : (p : ℕ) (members : List ℕ) (n : ℕ) → n ≤ z.done p → arrivals a p members n ≡ arrivals b p members n
    count_same = arrivals_same a b head z (reachable_sound a z way.in_first).within (reachable_sound b z way.in_second).within same_so_far

    -- the members of a fence that is complete have said the same
    gave_alike : (members : List ℕ) (j m : ℕ) → is_complete a z.done members j ≡ true → is_member members m ≡ true →
        text (event m (arrival_at a m members j (event_count a m))) ≡ other (event m (arrival_at b m members j (event_count b m)))
    gave_alike members j m all i =
        let there = leb-true _ _ (list_all_at_member _ members m all i) in
        let count = count_same m members (z.done m) (omega arith) in
        let low = arrival_low a m members j (z.done m) in
        ap (λ n. text (event m n)) (arrival_on a m members j (z.done m) (event_count a m) there ((reachable_sound a z way.in_first).within m))
        ∙ says_alike m (arrival_at a m members j (z.done m)) low
        ∙ ap (λ n. other (event m n)) (found (z.done m) (omega arith))
        ∙ ap (λ n. other (event m n)) (sym (arrival_on b m members j (z.done m) (event_count b m) (omega (arith, there, count)) ((reachable_sound b z way.in_second).within m)))
      where
        found : (n : ℕ) → n ≤ z.done m → arrival_at a m members j n ≡ arrival_at b m members j n
        found zero le = refl
        found (suc n) le =
            ap (λ k. if nat_le j k then arrival_at a m members j n else n) (count_same m members n (omega (arith, le)))
            ∙ ap (λ k. if nat_le j (arrivals b m members n) then k else n) (found n (omega (arith, le)))

    -- what is heard by an answer that is given now
    hears_alike : (q : ℕ) (o : Option Kind) → is_enabled a z q ≡ true → next_kind a z q ≡ o → heard a text (next_event z q) o (reply a z (next_event z q) o) ≡ heard b other (next_event z q) o
        (reply a z (next_event z q) o)
    hears_alike q (Some (Leave members)) may is =
        let all : is_complete a z.done members (arrivals a q members (z.done q)) ≡ true = rw is at may in
        map_alike _ _ members (λ m i. gave_alike members (arrivals a q members (z.done q)) m all i
        ∙ ap (λ j. other (event m (arrival_at b m members j (event_count b m)))) (count_same q members (z.done q) (omega arith)))
    hears_alike q o may is = hears (reply a z (next_event z q) o) refl
      where
        hears : (answer : Answer) → reply a z (next_event z q) o ≡ answer → heard_from text answer ≡ heard_from other answer
        hears (Value put) e = λ t. says_alike put.proc put.at (let d = value_was a z (reachable_named a z way.in_first) q o put e in omega (arith, d)) t ∷ []
        hears (Published y) e = λ t. says_alike y.proc y.at (let d = publish_was a z (reachable_named a z way.in_first) q o y e in omega (arith, d)) t ∷ []
        hears _ e = refl

  -- a step on the way
  module _ (z : State) (q : ℕ) (rest : List ℕ) (way : Way z (q ∷ rest)) (may : is_enabled a z q ≡ true) where
    further : suc (z.done q) ≤ s.done q
    further =
        let up = done_on a rest (step a z q) q in
        let d = done_same a z q in
        let there = ap (λ (t : State). t.done q) way.goes_on in
        omega (arith, up, d, there)

    is : next_kind a z q ≡ next_kind b z q
    is = common.same q (z.done q) (let l = further in omega (arith, l))

    may_alike : is_enabled a z q ≡ is_enabled b z q
    may_alike = enabled_same a b head z (reachable_sound a z way.in_first).within (reachable_sound b z way.in_second).within (same_so_far z (q ∷ rest) way) q is

    does : step a z q ≡ step b z q
    does = step_same a b head z (reachable_sound a z way.in_first).within (reachable_sound b z way.in_second).within (same_so_far z (q ∷ rest) way) q is

    abbrev answer : Answer
    answer = reply a z (next_event z q) (next_kind a z q)

    -- the answer in s
    answered : get_or (s.replies q) (z.done q) Silent ≡ answer
    answered =
        let m = replies_on a rest (step a z q) q in
        ap (λ (t : State). get_or (t.replies q) (z.done q) Silent) (sym way.goes_on)
        ∙ ap (λ xs. get_or xs (z.done q) Silent) (m.1 ∙ ap (λ xs. xs ++ m.0) (replies_same a z q))
        ∙ pushed_at (z.replies q) m.0 _ Silent (z.done q) ((reachable_named a z way.in_first).lengths q)

    in_a : get_or ((run a v).replies q) (z.done q) Silent ≡ answer
    in_a =
        let l = further in
        sym (front_at ((run a v).replies q) (s.done q) (z.done q) Silent (omega (arith, l)))
        ∙ ap (λ xs. get_or xs (z.done q) Silent) (sym (common.in_first.replies q)) ∙ answered

    in_b : get_or ((run b w).replies q) (z.done q) Silent ≡ answer
    in_b =
        let l = further in
        sym (front_at ((run b w).replies q) (s.done q) (z.done q) Silent (omega (arith, l)))
        ∙ ap (λ xs. get_or xs (z.done q) Silent) (sym (common.in_second.replies q)) ∙ answered

    abbrev entry_first : Answer → Told
    entry_first r = record { answer = r; texts = heard a text (event q (z.done q)) (next_kind a z q) r }

    abbrev entry_second : Answer → Told
    entry_second r = record { answer = r; texts = heard b other (event q (z.done q)) (next_kind b z q) r }

    entries : entry_first answer ≡ entry_second answer
    entries = λ t. record {
      answer = answer;
      texts = (hears_alike z (q ∷ rest) way q (next_kind a z q) may refl ∙ ap (λ o. heard b other (event q (z.done q)) o answer) is) t;
    }

    last : told_first q (suc (z.done q)) ≡ told_second q (suc (z.done q))
    last =
        ap (λ r. told_first q (z.done q) ++ entry_first r ∷ []) in_a
        ∙ ap (λ xs. xs ++ entry_first answer ∷ []) (way.alike q (z.done q) (omega arith))
        ∙ ap (λ r. told_second q (z.done q) ++ r ∷ []) entries
        ∙ ap (λ r. told_second q (z.done q) ++ entry_second r ∷ []) (sym in_b)

    new : (i : ℕ) → i ≤ suc (z.done q) → told_first q i ≡ told_second q i
    new i le = elim (cases_eq i (suc (z.done q))) [
      | inl e ↦ subst (λ k. told_first q k ≡ told_second q k) (sym e) last
      | inr ne ↦ way.alike q i (omega (arith, le, ne))
    ]

    onward : Way (step a z q) rest
    onward = record {
      in_first = reached_on a z (q ∷ []) way.in_first (may, tt);
      in_second = subst (IsReachable b) (sym does) (reached_on b z (q ∷ []) way.in_second (sym may_alike ∙ may, tt));
      goes_on = way.goes_on;
      alike = λ p i le. (elim (cases_eq p q) [
        | inr ne ↦ (let d = done_other a z q p ne in way.alike p i (omega (arith, le, d)))
        | inl e ↦ subst (λ r. told_first r i ≡ told_second r i) (sym e)
            (new i (let d : (step a z q).done p ≡ suc (z.done q) = subst (λ r. (step a z q).done r ≡ suc (z.done q)) (sym e) (done_same a z q) in omega (arith, le, d)))
      ]);
    }

  walk : (rest : List ℕ) (z : State) → Way z rest → IsInterleaving a z rest → Way s []
  walk [] z way h = record { in_first = subst (IsReachable a) way.goes_on way.in_first; in_second = subst (IsReachable b) way.goes_on way.in_second; goes_on = refl; alike = λ p i le. way.alike p i (let e = ap (λ (t : State). t.done p) way.goes_on in omega (arith, le, e)) }
  walk (q ∷ rest) z way h = walk rest (step a z q) (onward z q rest way h.0) h.1

  arrived : Way s []
  arrived =
      let path = common.in_first.reached in
      walk path.0 start (record {
        in_first = ([], tt, refl);
        in_second = ([], tt, refl);
        goes_on = path.2;
        alike = λ p i le. (let e : i ≡ 0 = omega arith in subst (λ k. told_first p k ≡ told_second p k) (sym e) refl);
      }) path.1

  pub texts_same : (p i : ℕ) → i ≤ s.done p → text (event p i) ≡ other (event p i)
  texts_same = says_alike s [] arrived

  pub goes_alike : (p : ℕ) → kind_at a p (s.done p) ≡ kind_at b p (s.done p)
  goes_alike p = elim (cases_lt p (process_count a)) [
    | inr past ↦ (let count = head.count in none_there a p (s.done p) past ∙ sym (none_there b p (s.done p) (omega (arith, past, count))))
    | inl lt ↦
        (let count = head.count in
        kind_of_calls a p (s.done p)
        ∙ chosen_next program a b text other (run a v) (run b w) p (s.done p) (arrived.alike p) (common.in_first.within p) (common.in_second.within p) 0 (s.done p) (calls_of a p) (calls_of b p) (omega arith)
        (first.chosen p lt) (second.chosen p (omega (arith, lt, count)))
        ∙ sym (kind_of_calls b p (s.done p)))
  ]

  pub front_of : s ≡ run a v → (p : ℕ) → calls_of a p ≡ take (length (calls_of a p)) (calls_of b p)
  front_of whole p = elim (cases_lt p (process_count a)) [
    | inr past ↦ (let none = no_calls a p past in none ∙ sym (ap (λ xs. take (length xs) (calls_of b p)) none))
    | inl lt ↦
        (let count = head.count in
        chosen_front program a b text other (run a v) (run b w) p (s.done p) (arrived.alike p) (common.in_first.within p) (common.in_second.within p) 0 (calls_of a p) (calls_of b p)
        (ap (λ (t : State). t.done p) (sym whole)) (omega arith) (first.chosen p lt) (second.chosen p (omega (arith, lt, count))))
  ]

  pub all_of : s ≡ run a v → s ≡ run b w → (p : ℕ) → calls_of a p ≡ calls_of b p
  all_of whole other_whole p = elim (cases_lt p (process_count a)) [
    | inr past ↦ (let count = head.count in no_calls a p past ∙ sym (no_calls b p (omega (arith, past, count))))
    | inl lt ↦
        (let count = head.count in
        chosen_same program a b text other (run a v) (run b w) p (s.done p) (arrived.alike p) (common.in_first.within p) (common.in_second.within p) 0 (calls_of a p) (calls_of b p)
        (ap (λ (t : State). t.done p) (sym whole)) (ap (λ (t : State). t.done p) (sym other_whole)) (omega arith) (first.chosen p lt) (second.chosen p (omega (arith, lt, count))))
  ]

-- two runs of one program go on alike
runs_of_one : (program : Program) (a b : Plan) (text other : Event → Text) (v w : List ℕ) → IsRunOf program a text v → IsRunOf program b other w → IsSameHead a b → AreOfOneProgram a b v w
runs_of_one program a b text other v w first second head s common = goes_alike program a b text other v w first second head s common

pub programs_tell : ProgramsTell
programs_tell program a b text other v w alike second ends first head =
    let one = runs_of_one program a b text other v w first second head in
    let whole = whole_is_common a b v w alike second.is_run ends head one first.is_run in
    let tells = one_run_tells a b v w alike second.is_run ends first.is_run head one in
    record {
      tells = tells;
      first_calls = front_of program a b text other v w first second head (run a v) whole refl;
      same_texts = texts_same program a b text other v w first second head (run a v) whole;
      same_plan = λ over. same_plan a b head (all_of program a b text other v w first second head (run a v) whole refl (tells.one_end over));
    }

-- From what the parts of `check --anywhere` tell to what it tells, and the same with `--same`.
use Rattle.std.proofs.Common.{◌≡◌, ◌≢◌, ◌∙◌, ◌==◌, ◌↔◌, ◌⊎◌, inl, inr, ap, sym, refl, subst, ℕ, zero, suc, ◌<◌, List, [], ◌∷◌, ◌++◌, length, arith, Bool, false, true, Option, Some, None, Result, Ok, Err, IfOk}
use Rattle.std.specs.Prelude.{option_to_list}
use Rattle.std.proofs.lemmas.Bool.{cases_eq, eqb-true}
use Rattle.wire_types.specs.declared.Fault.{Fault}
use Rattle.wire_types.specs.declared.OutputFormat.{OutputFormat}
use Rattle.wire_scripts.specs.Scripts.{Scripts}
use Rattle.wire_scripts.specs.Planned.{plan_of}
use Rattle.wire_runs.specs.Plan.{Plan, Event, process_count}
use Rattle.wire_runs.specs.Laws.{plain_end}
use Rattle.wire_runs.specs.FindingsAnywhere.{PlacementFinding, OnAll, OnPair, HasPlacementFinding}
use Rattle.wire_runs.specs.PlacingLaws.{AnywhereTells}
use Rattle.wire_runs.specs.Placings.{IsPlacing, IsSettledAnywhere}
use Rattle.wire_runs.proofs.FindingsAnywhere.{placed_is_found, findings_anywhere}
use Rattle.wire_findings.specs.Findings.{lower_name}
use Rattle.wire_runs.proofs.PlainRun.{plain_runs}
use Rattle.wire_anywhere.specs.declared.placed.PlacedFinding.{PlacedFinding}
use Rattle.wire_anywhere.specs.Anywhere.{AreFoundAnywhere, all_placed}
use Rattle.wire_anywhere_report.specs.Differing.{differing_form}
use Rattle.wire_anywhere_report.specs.Forms.{TellsPlaced}
use Rattle.wire_anywhere.specs.declared.Differing.{Differing}
use Rattle.wire_anywhere.specs.Differing.{IsUntold, IsDifferingTold, AreToldTo, AreToldBelow, AreDiffering}
use Rattle.wire_reader.specs.declared.Size.{Size}
use Rattle.wire_command.specs.declared.answer.Answer.{Answer}
use Rattle.wire_command.specs.declared.ended.Ended.{Ended}
use Rattle.wire_command.specs.declared.ended.Ended.TheVariants.{Clean, Found}
use Rattle.wire_command.specs.Answer.{ReadIn, Writes}
use Rattle.wire_commands.specs.CheckAnywhere.{IsSettledEverywhere, EachHasOneEnd, IsFoundThere, AreFoundThere, HasAllFound, IsJudgedAnywhere, IsVerdictAnywhere, EndsInOneStateAnywhere}
use Rattle.wire_commands.specs.CheckSame.{TellsDiffering, TellsFindingsAnywhere, IsSameVerdict, NoneDiffers, IsSameEverywhere}
use Rattle.wire_command.specs.Ending.{ended_of}

-- something is counted where something stands
not_none : {X : Type 0} (x : X) (xs : List X) → (length (x ∷ xs) == 0) ≡ false
not_none x xs = go (length (x ∷ xs) == 0) refl
  where
    go : (b : Bool) → (length (x ∷ xs) == 0) ≡ b → (length (x ∷ xs) == 0) ≡ false
    go true is = let none : length (x ∷ xs) ≡ 0 = eqb-true (length (x ∷ xs)) 0 is in absurd (omega (arith, none))
    go false is = is

-- it is clean exactly where nothing is counted
clean_exactly : {X : Type 0} (xs : List X) → (ended_of (length xs) ≡ Clean) ↔ (xs ≡ [])
clean_exactly [] = ((λ clean. refl), (λ none. refl))
clean_exactly (x ∷ xs) = (
  (λ clean. let some : ended_of (length (x ∷ xs)) ≡ Found (length (x ∷ xs)) = rw (not_none x xs) refl in let bad : Found (length (x ∷ xs)) ≡ Clean = sym some ∙ clean in absurd (cc)),
  (λ none. let bad : x ∷ xs ≡ [] = none in absurd (cc)),
)

each_ends : (plan : Plan) → IsSettledEverywhere plan → EachHasOneEnd plan
each_ends plan settled other is = (plain_runs other).is_the_end (settled other is)

found_there : (s : Scripts) (found : List PlacedFinding) → AreFoundAnywhere s found → AreFoundThere (plan_of s) (all_placed (plan_of s) found)
found_there s found those (OnAll f) has = (placed_is_found (plan_of s) f).on_all ((those.those (OnAll f)).0 has)
found_there s found those (OnPair f a b) has = λ other is are. (placed_is_found (plan_of s) f).alone a b other is are ((those.those (OnPair f a b)).0 has)

all_found : (s : Scripts) (found : List PlacedFinding) → AreFoundAnywhere s found → HasAllFound (plan_of s) (all_placed (plan_of s) found)
all_found s found those f other is there = ((findings_anywhere (plan_of s) (lower_name s.names)).findings (all_placed (plan_of s) found) those f).1 (other, is, there)

-- what the findings tell
pub verdict_so : (form : OutputFormat) (name : List ℕ) (rows : List (List ℕ)) (s shown : Scripts) (found : List PlacedFinding) (ended : Ended) (text : List ℕ) → AreFoundAnywhere s found →
    ((found ≡ []) ↔ IsSettledEverywhere (plan_of s)) → ended ≡ ended_of (length found) → shown ≡ s → TellsPlaced form name rows shown found text → IsVerdictAnywhere form name s rows text ended
verdict_so form name rows s shown found ended text those law ends same tells =
    let to : ended ≡ Clean → IsSettledEverywhere (plan_of s) = λ clean. law.0 ((clean_exactly found).0 (sym ends ∙ clean)) in
    let from : IsSettledEverywhere (plan_of s) → ended ≡ Clean = λ settled. ends ∙ (clean_exactly found).1 (law.1 settled) in
    record {
      found = found;
      judged = record {
        those = those;
        ends = ends;
        settled = (to, from);
        one_end = λ clean. each_ends (plan_of s) (to clean);
        there = found_there s found those;
        all = all_found s found those;
      };
      tells = subst (λ t. TellsPlaced form name rows t found text) same tells;
    }

-- what is found is told
pub some_found : (form : OutputFormat) (name : List ℕ) (rows : List (List ℕ)) (s : Scripts) (count : ℕ) (ended : Ended) (text : List ℕ) → (count == 0) ≡ false → ended ≡ ended_of count →
    IsVerdictAnywhere form name s rows text ended → IsSameVerdict form name s rows text ended
some_found form name rows s count ended text some ends verdict =
    let is : ended ≡ Found count = ends ∙ rw some refl in
    inl (record { verdict = verdict; not_clean = λ clean. let bad : Found count ≡ Clean = sym is ∙ clean in cc })

-- where nothing is found, every placing is settled
pub none_found : (s : Scripts) (found : List PlacedFinding) (none : Bool) → none ≡ (length found == 0) → none ≡ true → ((found ≡ []) ↔ IsSettledEverywhere (plan_of s)) →
    AnywhereTells (plan_of s) → IsSettledAnywhere (plan_of s)
none_found s [] none is there law tells = tells.everywhere.1 (law.0 refl)
none_found s (f ∷ found) none is there law tells = let count : length (f ∷ found) ≡ 0 = eqb-true (length (f ∷ found)) 0 (sym is ∙ there) in absurd (omega (arith, count))

pub differing_so : (form : OutputFormat) (name : List ℕ) (rows : List (List ℕ)) (s shown : Scripts) (differing : List Differing) (ended : Ended) (text : List ℕ) → IsSettledAnywhere (plan_of s) →
    AnywhereTells (plan_of s) → AreDiffering (plan_of s) differing → ended ≡ ended_of (length differing) → shown ≡ s → text ≡ differing_form form name rows shown differing →
    TellsDiffering form name s rows text ended
differing_so form name rows s shown differing ended text settled law those ends same tells =
    let everywhere : IsSettledEverywhere (plan_of s) = law.everywhere.0 settled in
    record {
      differing = differing;
      settled = everywhere;
      one_end = each_ends (plan_of s) everywhere;
      those = those;
      ends = ends;
      tells = tells ∙ ap (λ t. differing_form form name rows t differing) same;
    }

-- a check that is clean tells that each placing has one end
pub clean_each : (size : Size) (form : OutputFormat) (name : List ℕ) (coming old new : Option (List ℕ)) (r : Result Ended Fault) →
    IfOk r (λ ended. Writes size form coming (IsVerdictAnywhere form name) ended old new) → r ≡ Ok Clean → EndsInOneStateAnywhere size coming
clean_each size form name coming old new (Ok e) told clean =
    let is : e ≡ Clean = cc in
    record { scripts = told.scripts; read = record { bytes = told.read.bytes; came = told.read.came; reads = told.read.reads }; one_end = told.tells.judged.one_end is }
clean_each size form name coming old new (Err e) told clean = let bad : Err e ≡ Ok Clean = clean in absurd (cc)

-- where nothing is told, nothing is told of any event
both_none : (xs ys : List Differing) → xs ++ ys ≡ [] → (xs ≡ []) × (ys ≡ [])
both_none [] ys h = (refl, h)
both_none (x ∷ xs) ys h = absurd (cc)

nothing_told : (plan : Plan) (x : Event) (told : Option Differing) → option_to_list told ≡ [] → IsDifferingTold plan x told → IsUntold plan x
nothing_told plan x None none t = t
nothing_told plan x (Some d) none t = absurd (cc)

none_to : (plan : Plan) (p n : ℕ) (found : List Differing) → found ≡ [] → AreToldTo plan p n found → (i : ℕ) → i < n → IsUntold plan (record { proc = p; at = i })
none_to plan p zero found none told i lt = absurd (omega (arith, lt))
none_to plan p (suc n) found none told i lt =
    let parts = both_none told.0 (option_to_list told.1) (sym told.4 ∙ none) in
    elim (cases_eq i n) [
      | inl s ↦ subst (λ m. IsUntold plan (record { proc = p; at = m })) (sym s) (nothing_told plan (record { proc = p; at = n }) told.1 parts.1 told.3)
      | inr ne ↦ none_to plan p n told.0 parts.0 told.2 i (omega (arith, lt, ne))
    ]

none_below : (plan : Plan) (n : ℕ) (found : List Differing) → found ≡ [] → AreToldBelow plan n found → (p : ℕ) → p < n → (i : ℕ) → i < (plain_end plan).done p →
    IsUntold plan (record { proc = p; at = i })
none_below plan zero found none told p lt i there = absurd (omega (arith, lt))
none_below plan (suc n) found none told p lt i there =
    let parts = both_none told.0 told.1 (sym told.4 ∙ none) in
    elim (cases_eq p n) [
      | inl s ↦ subst (λ q. (j : ℕ) → j < (plain_end plan).done q → IsUntold plan (record { proc = q; at = j })) (sym s)
          (none_to plan n ((plain_end plan).done n) told.1 parts.1 told.3) i there
      | inr ne ↦ none_below plan n told.0 parts.0 told.2 p (omega (arith, lt, ne)) i there
    ]

none_differs : (plan : Plan) (found : List Differing) → found ≡ [] → AreDiffering plan found → NoneDiffers plan
none_differs plan found none told x proc at = none_below plan (process_count plan) found none told x.proc proc x.at at

-- and with `--same`, that besides no reply differs
same_too : {size : Size} (form : OutputFormat) (name : List ℕ) (coming : Option (List ℕ)) (s : Scripts) (rows : List (List ℕ)) (text : List ℕ) (ended : Ended) → ReadIn size form coming s rows →
    IsSameVerdict form name s rows text ended → ended ≡ Clean → IsSameEverywhere size coming
same_too form name coming s rows text ended read (inl found) clean = absurd (found.not_clean clean)
same_too form name coming s rows text ended read (inr told) clean =
    let none : told.differing ≡ [] = (clean_exactly told.differing).0 (sym told.ends ∙ clean) in
    record {
      scripts = s;
      read = record { bytes = read.bytes; came = read.came; reads = read.reads };
      one_end = told.one_end;
      same = none_differs (plan_of s) told.differing none told.those;
    }

pub clean_same : (size : Size) (form : OutputFormat) (name : List ℕ) (coming old new : Option (List ℕ)) (r : Result Ended Fault) →
    IfOk r (λ ended. Writes size form coming (IsSameVerdict form name) ended old new) → r ≡ Ok Clean → IsSameEverywhere size coming
clean_same size form name coming old new (Ok e) told clean =
    let is : e ≡ Clean = cc in same_too form name coming told.scripts told.rows told.text e told.read told.tells is
clean_same size form name coming old new (Err e) told clean = let bad : Err e ≡ Ok Clean = clean in absurd (cc)

-- the answer of a plan is that of the scripts that it has
pub found_too : (form : OutputFormat) (name : List ℕ) (rows : List (List ℕ)) (s shown : Scripts) (found : List PlacedFinding) (none : Bool) (r : Result Answer Fault) → shown ≡ s →
    none ≡ (length found == 0) → none ≡ false → IfOk r (λ a. IsVerdictAnywhere form name shown rows a.text.items a.ended) → IfOk r (λ a. a.ended ≡ ended_of (length found)) →
    IfOk r (λ a. IsSameVerdict form name s rows a.text.items a.ended)
found_too form name rows s shown found none (Ok a) same is some verdict ends =
    some_found form name rows s (length found) a.ended a.text.items (sym is ∙ some) ends (subst (λ t. IsVerdictAnywhere form name t rows a.text.items a.ended) same verdict)
found_too form name rows s shown found none (Err e) same is some verdict ends = tt

pub told_too : (form : OutputFormat) (name : List ℕ) (rows : List (List ℕ)) (s shown : Scripts) (r : Result Answer Fault) → shown ≡ s →
    IfOk r (λ a. TellsDiffering form name shown rows a.text.items a.ended) → IfOk r (λ a. IsSameVerdict form name s rows a.text.items a.ended)
told_too form name rows s shown (Ok a) same told = inr (subst (λ t. TellsDiffering form name t rows a.text.items a.ended) same told)
told_too form name rows s shown (Err e) same told = tt

-- From what is found, and the calls by which the plan isn't portable, to what the command tells of libraries.
use Rattle.std.proofs.Common.{◌≡◌, ◌∙◌, ◌==◌, sym, refl, subst, ℕ, zero, suc, List, [], ◌∷◌, length, arith, Bool, false, true, not, ◌||◌, Option, Result, Ok, Err, IfOk}
use Rattle.std.proofs.lemmas.Bool.{eqb-true, true≢false}
use Rattle.std.proofs.lemmas.Option.{none-some, same_Some}
use Rattle.wire_types.specs.declared.Fault.{Fault}
use Rattle.wire_types.specs.declared.OutputFormat.{OutputFormat}
use Rattle.wire_scripts.specs.Scripts.{Scripts}
use Rattle.wire_scripts.specs.Planned.{plan_of}
use Rattle.wire_runs.specs.Plan.{Plan}
use Rattle.wire_library_laws.specs.Library.{Family, Words}
use Rattle.wire_library_laws.specs.Portable.{IsPortable}
use Rattle.wire_library_laws.specs.Promised.{Refines, EndsByRules, LibraryOneEnd}
use Rattle.wire_library_laws.specs.Anywhere.{PortableThere}
use Rattle.wire_portable.specs.Libraries.{family_of, has, either}
use Rattle.wire_portable.specs.Unportable.{IsUnblamed, AreUnportableOn}
use Rattle.wire_portable.specs.Words.{words_of}
use Rattle.wire_portable.specs.declared.libraries.Libraries.{Libraries}
use Rattle.wire_portable.specs.declared.libraries.Library.{Library}
use Rattle.wire_portable.specs.declared.libraries.Library.TheVariants.{V4, V5, V7}
use Rattle.wire_portable.specs.declared.listed.Unportable.{Unportable}
use Rattle.wire_spelling.specs.declared.spelling.Spelt.{Spelt}
use Rattle.wire_reader.specs.declared.Size.{Size}
use Rattle.wire_command.specs.declared.ended.Ended.{Ended}
use Rattle.wire_command.specs.declared.ended.Ended.TheVariants.{Clean, Found}
use Rattle.wire_portable_commands.specs.CheckPortable.{KeepsRules, KeepsRulesOn, IsVerdictOn, TellsLibraries, IsPortableVerdict, HasOneEndOn, EndsOnLibraries, ended_beside}
use Rattle.wire_portable_commands.specs.Text.{whole_text}
use Rattle.wire_portable_commands.specs.Words.{blamed_in, others, portable_in}

not_true : (b : Bool) → not b ≡ true → b ≡ false
not_true true h = sym h
not_true false h = refl

-- what isn't of the others is of none
free_of : (s : Libraries) (library : Library) → has (others s) library ≡ true → has s library ≡ false
free_of s V4 h = not_true s.v4 h
free_of s V5 h = not_true s.v5 h
free_of s V7 h = not_true s.v7 h

or_false : (a b : Bool) → (a || b) ≡ false → (a ≡ false) × (b ≡ false)
or_false false b h = (refl, h)
or_false true b h = absurd (true≢false h)

free_of_both : (s t : Libraries) (library : Library) → has (either s t) library ≡ false → (has s library ≡ false) × (has t library ≡ false)
free_of_both s t V4 h = or_false s.v4 t.v4 h
free_of_both s t V5 h = or_false s.v5 t.v5 h
free_of_both s t V7 h = or_false s.v7 t.v7 h

-- a library that is blamed in no line stands in none
unblamed : (lines : List Unportable) (library : Library) → has (blamed_in lines) library ≡ false → IsUnblamed library lines
unblamed [] library h k line is = absurd (none-some line is)
unblamed (x ∷ xs) library h zero line is = subst (λ (l : Unportable). has l.libraries library ≡ false) (same_Some _ _ is) (free_of_both x.libraries (blamed_in xs) library h).0
unblamed (x ∷ xs) library h (suc k) line is = unblamed xs library (free_of_both x.libraries (blamed_in xs) library h).1 k line is

all_portable : (library : Library) → has (portable_in []) library ≡ true
all_portable V4 = refl
all_portable V5 = refl
all_portable V7 = refl

module _ (refines : Refines) (ends : EndsByRules) (one : LibraryOneEnd) (there : PortableThere) where
  keeps_rules : (family : Family) (words : Words) (plan : Plan) → IsPortable family words plan → KeepsRules family words plan
  keeps_rules family words plan p = record {
    by_rules = λ h run. refines family words plan h p run;
    stuck = λ h run end. ends family words plan h p run end;
    one_end = λ its h run end. one family words plan h its p run end;
  }

  keeps_on : (anywhere : Bool) (s : Scripts) (spelling : List (List (Option Spelt))) (lines : List Unportable) → AreUnportableOn anywhere s spelling lines → (library : Library) →
      has (portable_in lines) library ≡ true → KeepsRulesOn anywhere s spelling library
  keeps_on false s spelling lines are library h =
      keeps_rules (family_of library) (words_of library s spelling) (plan_of s) (are library (unblamed lines library (free_of (blamed_in lines) library h)))
  keeps_on true s spelling lines are library h = λ other placing.
      keeps_rules (family_of library) (words_of library s spelling) other
      (there (family_of library) (words_of library s spelling) (plan_of s) other placing (are library (unblamed lines library (free_of (blamed_in lines) library h))))

  -- what is told is the verdict
  pub portable_so : (anywhere : Bool) (form : OutputFormat) (name : List ℕ) (s : Scripts) (rows : List (List ℕ)) (told text : List ℕ) (told_ended ended : Ended) (spelling : List (List (Option Spelt)))
      (lines : List Unportable) → IsVerdictOn anywhere form name s rows told told_ended → AreUnportableOn anywhere s spelling lines → ended ≡ ended_beside told_ended (length lines) →
      text ≡ whole_text form name rows s told lines → TellsLibraries anywhere form name spelling s rows text ended
  portable_so anywhere form name s rows told text told_ended ended spelling lines verdict those count tells = record {
    told = told;
    told_ended = told_ended;
    verdict = verdict;
    lines = lines;
    those = those;
    keep = keeps_on anywhere s spelling lines those;
    ends = count;
    tells = tells;
  }

one_end_on : (anywhere : Bool) (form : OutputFormat) (name : List ℕ) (s : Scripts) (rows : List (List ℕ)) (text : List ℕ) (ended : Ended) → IsVerdictOn anywhere form name s rows text ended → ended ≡ Clean →
    HasOneEndOn anywhere (plan_of s)
one_end_on false form name s rows text ended verdict clean = verdict.judged.one_end clean
one_end_on true form name s rows text ended verdict clean = verdict.judged.one_end clean

-- it is clean only where nothing is found, and no call is blamed
some_blamed : (told : Ended) (x : Unportable) (xs : List Unportable) → ended_beside told (length (x ∷ xs)) ≡ Found (length (x ∷ xs))
some_blamed told x xs = go (length (x ∷ xs) == 0) refl
  where
    go : (b : Bool) → (length (x ∷ xs) == 0) ≡ b → ended_beside told (length (x ∷ xs)) ≡ Found (length (x ∷ xs))
    go true is = let none : length (x ∷ xs) ≡ 0 = eqb-true (length (x ∷ xs)) 0 is in absurd (omega (arith, none))
    go false is = rw is refl

none_blamed : (told : Ended) (lines : List Unportable) → ended_beside told (length lines) ≡ Clean → (lines ≡ []) × (told ≡ Clean)
none_blamed told [] clean = (refl, clean)
none_blamed told (x ∷ xs) clean = let bad : Found (length (x ∷ xs)) ≡ Clean = sym (some_blamed told x xs) ∙ clean in absurd (cc)

-- a check that is clean tells that each library ends as the plain run
pub clean_kept : {size : Size} (anywhere : Bool) (form : OutputFormat) (name : List ℕ) (coming : Option (List ℕ)) (s : Scripts) (rows : List (List ℕ)) (text : List ℕ) (ended : Ended) (Wrote : Type 0)
    (r : Result Ended Fault) → IsPortableVerdict size coming anywhere form name s rows text ended → IfOk r (λ e. (e ≡ ended) × Wrote) → r ≡ Ok Clean →
    EndsOnLibraries anywhere size coming
clean_kept anywhere form name coming s rows text ended Wrote (Ok e) verdict wrote clean =
    let is : e ≡ Clean = cc in
    let told = verdict.tells in
    let none = none_blamed told.told_ended told.lines (sym told.ends ∙ sym wrote.0 ∙ is) in
    record {
      scripts = s;
      spelling = verdict.spelling;
      spelled = verdict.spelled;
      one_end = one_end_on anywhere form name s rows told.told told.told_ended told.verdict none.1;
      keep = λ library. told.keep library (subst (λ lines. has (portable_in lines) library ≡ true) (sym none.0) (all_portable library));
    }
clean_kept anywhere form name coming s rows text ended Wrote (Err e) verdict wrote clean = let bad : Err e ≡ Ok Clean = clean in absurd (cc)

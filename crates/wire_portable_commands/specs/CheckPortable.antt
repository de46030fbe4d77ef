-- What `check --portable` writes: the findings, and on which libraries each run does as the rules say.
use Rattle.std.specs.Prelude.{◌≡◌, ◌==◌, ℕ, Bool, true, false, List, Option, length, if◌then◌else◌}
use Rattle.wire_types.specs.declared.OutputFormat.{OutputFormat}
use Rattle.wire_scripts.specs.Scripts.{Scripts}
use Rattle.wire_scripts.specs.Planned.{plan_of}
use Rattle.wire_runs.specs.Plan.{Plan}
use Rattle.wire_runs.specs.Step.{run, IsEnd}
use Rattle.wire_runs.specs.PlainRun.{plain_run}
use Rattle.wire_runs.specs.Laws.{HasOneEnd}
use Rattle.wire_runs.specs.Placings.{IsPlacing}
use Rattle.wire_library_laws.specs.Library.{Family, Words, Moment, told, completed, IsLibraryRun, IsLibraryEnd}
use Rattle.wire_library_laws.specs.Promised.{IsByRules}
use Rattle.wire_portable.specs.Libraries.{family_of, has}
use Rattle.wire_spelling.specs.Spelling.{AreSetsNumbered, spelled_sets}
use Rattle.wire_portable.specs.Unportable.{AreUnportableOn}
use Rattle.wire_portable.specs.Words.{words_of}
use Rattle.wire_portable.specs.declared.libraries.Library.{Library}
use Rattle.wire_portable.specs.declared.listed.Unportable.{Unportable}
use Rattle.wire_spelling.specs.declared.spelling.Spelt.{Spelt}
use Rattle.wire_reader.specs.declared.Size.{Size}
use Rattle.wire_command.specs.declared.ended.Ended.{Ended}
use Rattle.wire_command.specs.declared.ended.Ended.TheVariants.{Found}
use Rattle.wire_commands.specs.Check.{IsVerdict}
use Rattle.wire_commands.specs.CheckAnywhere.{IsVerdictAnywhere}
use Rattle.wire_command.specs.Read.{ReadAs}
use Rattle.wire_portable_commands.specs.Text.{whole_text}
use Rattle.wire_portable_commands.specs.Words.{portable_in}

-- a library of this family does as the rules say of the plan: in each of its runs, what is answered is in that order an
-- interleaving by the rules, with the same replies; where the run can't go on, nobody can by the rules; and if the plan has
-- one end, each run that can't go on ends there
pub record KeepsRules (family : Family) (words : Words) (plan : Plan) : Type 0 where
  pub by_rules : (h : List Moment) → IsLibraryRun family words plan h → IsByRules plan h
  pub stuck : (h : List Moment) → IsLibraryRun family words plan h → IsLibraryEnd family words plan h → IsEnd plan (run plan (completed h))
  pub one_end : HasOneEnd plan → (h : List Moment) → IsLibraryRun family words plan h → IsLibraryEnd family words plan h → told plan h ≡ run plan (plain_run plan)

-- the library does so on the plan's nodes, or whatever its nodes
abbrev pub KeepsRulesOn : (anywhere : Bool) → Scripts → List (List (Option Spelt)) → Library → Type 0
KeepsRulesOn false s spelling library = KeepsRules (family_of library) (words_of library s spelling) (plan_of s)
KeepsRulesOn true s spelling library =
    (other : Plan) → IsPlacing (plan_of s) other → KeepsRules (family_of library) (words_of library s spelling) other

-- the findings of the plan, or those of all its placings
abbrev pub IsVerdictOn : (anywhere : Bool) → OutputFormat → List ℕ → Scripts → List (List ℕ) → List ℕ → Ended → Type 0
IsVerdictOn false form name s rows text ended = IsVerdict form name s rows text ended
IsVerdictOn true form name s rows text ended = IsVerdictAnywhere form name s rows text ended

-- it ends as a check of the findings does, where no call is blamed, else with so many
abbrev pub ended_beside : Ended → ℕ → Ended
ended_beside ended count = if count == 0 then ended else Found count

-- what was to come reads as these scripts, and the calls of its fences spell their sets so
pub record IsSpelled (size : Size) (coming : Option (List ℕ)) (scripts : Scripts) (spelling : List (List (Option Spelt))) : Type 0 where
  pub read : ReadAs size coming scripts
  pub numbered : AreSetsNumbered (spelled_sets read.bytes) spelling

-- the text of all findings and of all calls by which the plan isn't portable, and how the check ends. Each library that the
-- last line names does as the rules say
pub record TellsLibraries (anywhere : Bool) (form : OutputFormat) (name : List ℕ) (spelling : List (List (Option Spelt))) (scripts : Scripts)
    (rows : List (List ℕ)) (text : List ℕ) (ended : Ended) : Type 0 where
  pub told : List ℕ
  pub told_ended : Ended
  pub verdict : IsVerdictOn anywhere form name scripts rows told told_ended
  pub lines : List Unportable
  pub those : AreUnportableOn anywhere scripts spelling lines
  pub keep : (library : Library) → has (portable_in lines) library ≡ true → KeepsRulesOn anywhere scripts spelling library
  pub ends : ended ≡ ended_beside told_ended (length lines)
  pub tells : text ≡ whole_text form name rows scripts told lines

-- so it is told of what was to come, as that spells the sets of its fences
pub record IsPortableVerdict (size : Size) (coming : Option (List ℕ)) (anywhere : Bool) (form : OutputFormat) (name : List ℕ) (scripts : Scripts)
    (rows : List (List ℕ)) (text : List ℕ) (ended : Ended) : Type 0 where
  pub spelling : List (List (Option Spelt))
  pub spelled : IsSpelled size coming scripts spelling
  pub tells : TellsLibraries anywhere form name spelling scripts rows text ended

-- the plan has one end, or each of its placings
abbrev pub HasOneEndOn : (anywhere : Bool) → Plan → Type 0
HasOneEndOn false plan = HasOneEnd plan
HasOneEndOn true plan = (other : Plan) → IsPlacing plan other → HasOneEnd other

-- what was to come read as scripts whose plan has one end, on its nodes or on whatever nodes, and each library does there as
-- the rules say
pub record EndsOnLibraries (anywhere : Bool) (size : Size) (coming : Option (List ℕ)) : Type 0 where
  pub scripts : Scripts
  pub spelling : List (List (Option Spelt))
  pub spelled : IsSpelled size coming scripts spelling
  pub one_end : HasOneEndOn anywhere (plan_of scripts)
  pub keep : (library : Library) → KeepsRulesOn anywhere scripts spelling library

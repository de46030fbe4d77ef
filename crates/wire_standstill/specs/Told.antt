-- What is told of the ranks that wait for ever: of a state, of a plan, and of the bytes of one.
use Rattle.std.specs.Prelude.{◌≡◌, ℕ, List, map, Ok}
use Rattle.wire_types.specs.Outcome.{Ends}
use Rattle.wire_runs.specs.State.{State}
use Rattle.wire_runs.specs.Step.{run}
use Rattle.wire_runs.specs.PlainRun.{plain_run}
use Rattle.wire_scripts.specs.Scripts.{Scripts}
use Rattle.wire_scripts.specs.Planned.{plan_of}
use Rattle.wire_reader.specs.declared.Size.{Size}
use Rattle.wire_reader.specs.Reads.{Reads}
use Rattle.wire_explain.specs.Quote.{shown_byte}
use Rattle.wire_standstill.specs.Standstill.{IsStandstill}
use Rattle.wire_standstill.specs.Lines.{told_of}
use Rattle.wire_standstill.specs.Report.{standstill_members, standstill_json}

-- the state where the plain run of a plan stands at last
abbrev pub last_state : Scripts → State
last_state scripts = run (plan_of scripts) (plain_run (plan_of scripts))

-- the text tells of a deadlock in this state, where there is one, and of the ranks that wait for no rank
pub record TellsWhere (scripts : Scripts) (state : State) (text : List ℕ) : Type 0 where
  pub circle : List ℕ
  pub never : List ℕ
  pub is : IsStandstill (plan_of scripts) state circle never
  pub told : text ≡ map shown_byte (told_of scripts state circle never)

abbrev pub TellsStandstill : Scripts → List ℕ → Type 0
TellsStandstill scripts text = TellsWhere scripts (last_state scripts) text

-- the same of the scripts that these bytes read as
pub record TellsStandstillOf (size : Size) (bytes text : List ℕ) : Type 0 where
  pub scripts : Scripts
  pub reads : Reads size bytes (Ok scripts)
  pub tells : TellsStandstill scripts text

-- the text is the start of an object that tells the same of this state
pub record ListsWhere (scripts : Scripts) (state : State) (text : List ℕ) : Type 0 where
  pub circle : List ℕ
  pub never : List ℕ
  pub is : IsStandstill (plan_of scripts) state circle never
  pub told : text ≡ standstill_members scripts state circle never

abbrev pub ListsStandstill : Scripts → List ℕ → Type 0
ListsStandstill scripts text = ListsWhere scripts (last_state scripts) text

-- the text is an object that tells the same, with a report
pub record ReportsWhere (scripts : Scripts) (state : State) (ends : Ends) (text : List ℕ) : Type 0 where
  pub circle : List ℕ
  pub never : List ℕ
  pub is : IsStandstill (plan_of scripts) state circle never
  pub told : text ≡ standstill_json scripts state ends circle never

abbrev pub ReportsStandstill : Scripts → Ends → List ℕ → Type 0
ReportsStandstill scripts ends text = ReportsWhere scripts (last_state scripts) ends text

-- A program on other nodes.
use Rattle.std.specs.Prelude.{◌≡◌, ℕ, ◌<◌, List, Some}
use Rattle.wire_types.specs.declared.Reply.{Reply}
use Rattle.wire_runs.specs.Plan.{Plan, Event, Fixed, kind, process_count}
use Rattle.wire_runs.specs.Step.{run, IsEnd}
use Rattle.wire_runs.specs.Races.{IsSettled}
use Rattle.wire_runs.specs.Laws.{plain_end}
use Rattle.wire_runs.specs.Placings.{IsSettledAnywhere}
use Rattle.wire_runs.specs.PlacingLaws.{RepliesAlike}
use Rattle.wire_runs.specs.Ends.{calls_of}
use Rattle.wire_program_laws.specs.Runs.{IsSameHead}
use Rattle.wire_program_laws.specs.Programs.{Text, Program, IsRunOf, IsToldWith}

-- the call is one of a reserved key or name, or its reply is the same on every placing
pub data IsUntold (plan : Plan) (x : Event) : Type 0 where
  Reserved : (reply : Reply) → kind plan x ≡ Some (Fixed reply) → IsUntold plan x
  Alike : RepliesAlike plan x → IsUntold plan x

-- nothing is found on any placing, and each call that is answered replies the same on all, calls of reserved keys and
-- names aside
pub record IsSameOnAll (plan : Plan) : Type 0 where
  pub settled : IsSettledAnywhere plan
  pub same : (x : Event) → x.at < (plain_end plan).done x.proc → IsUntold plan x

-- the same processes with the same calls, each process on whatever node. Calls of reserved keys have the same replies too
pub record IsMoved (b c : Plan) : Type 0 where
  pub keep : b.keep ≡ c.keep
  pub count : process_count b ≡ process_count c
  pub calls : (p : ℕ) → calls_of c p ≡ calls_of b p

-- the run w of one plan is a complete run of the program on the other nodes too, and it tells of each run there
pub record IsToldThere (program : Program) (c : Plan) (other : Event → Text) (w : List ℕ) : Type 0 where
  pub settled : IsSettled c
  pub is_run : IsRunOf program c other w
  pub ends : IsEnd c (run c w)
  pub tells : (a : Plan) (text : Event → Text) (v : List ℕ) → IsRunOf program a text v → IsSameHead a c → IsToldWith a c text other v w

-- one complete run of a program tells of all its runs on all nodes, if the plan of its calls has nothing to find and the
-- same replies on all
abbrev pub ProgramsTellElsewhere : Type 0
ProgramsTellElsewhere = (program : Program) (b c : Plan) (other : Event → Text) (w : List ℕ) → IsSameOnAll b → IsRunOf program b other w → IsEnd b (run b w)
    → IsMoved b c → IsToldThere program c other w

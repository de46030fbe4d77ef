-- What following an order of steps writes: the report of the state to which the steps lead.
use Rattle.std.specs.Prelude.{◌≡◌, ℕ, suc, Bool, List, Option, Some, Ok, Err, ◌⊎◌, false, take, slice_get}
use Rattle.std.specs.Io.KnownBytes.{Appends}
use Rattle.wire_types.specs.Front.{WritesFront}
use Rattle.wire_types.specs.declared.Fault.{Fault}
use Rattle.wire_types.specs.declared.Fault.TheVariants.{Memory, Read, NotReady}
use Rattle.wire_scripts.specs.Scripts.{Scripts}
use Rattle.wire_scripts.specs.Planned.{plan_of}
use Rattle.wire_reader.specs.declared.Size.{Size}
use Rattle.wire_reader.specs.Order.{order_read}
use Rattle.wire_runs.specs.State.{start}
use Rattle.wire_runs.specs.Step.{is_enabled, run, IsInterleaving}
use Rattle.wire_core.specs.EndsAfter.{ends_after}
use Rattle.wire_report.specs.Report.{report_form}
use Rattle.wire_command.specs.Read.{WereComing, ReadAs, Refuses}

-- the report of the state after these steps, in lines or as JSON
abbrev pub report_after : Bool → Scripts → List ℕ → List ℕ
report_after json scripts steps = report_form json scripts (ends_after scripts steps)

-- what was to come read as an order of these steps of the scripts
pub record OrdersAs (size : Size) (coming : Option (List ℕ)) (scripts : Scripts) (steps : List ℕ) : Type 0 where
  pub bytes : List ℕ
  pub came : WereComing coming bytes
  pub reads : order_read size scripts bytes ≡ Ok steps

-- it has this fault as an order of the scripts
pub record RefusesSteps (size : Size) (coming : Option (List ℕ)) (scripts : Scripts) (fault : Fault) : Type 0 where
  pub bytes : List ℕ
  pub came : WereComing coming bytes
  pub reads : order_read size scripts bytes ≡ Err fault

-- after so many of the steps, each enabled when it came, the next isn't enabled: its number, from 1, is the fault's
pub record StopsAfter (scripts : Scripts) (steps : List ℕ) (fault : Fault) : Type 0 where
  pub n : ℕ
  pub is : fault ≡ NotReady (suc n)
  pub enabled : IsInterleaving (plan_of scripts) start (take n steps)
  pub p : ℕ
  pub next : slice_get steps n ≡ Some p
  pub not_enabled : is_enabled (plan_of scripts) (run (plan_of scripts) (take n steps)) p ≡ false

-- what was to come read as scripts, and as an order of these steps of theirs
pub record OrderedAs (size : Size) (coming order_coming : Option (List ℕ)) (scripts : Scripts) (steps : List ℕ) : Type 0 where
  pub read : ReadAs size coming scripts
  pub order : OrdersAs size order_coming scripts steps

-- each step was enabled when it came, and all of the report of the state after them went out
pub record WritesFollowed (size : Size) (json : Bool) (coming order_coming old new : Option (List ℕ)) : Type 0 where
  pub scripts : Scripts
  pub steps : List ℕ
  pub ordered : OrderedAs size coming order_coming scripts steps
  pub enabled : IsInterleaving (plan_of scripts) start steps
  pub wrote : Appends old new (report_after json scripts steps)

-- and of that report exactly as many bytes went out as the fault says, which aren't all of it
pub record BreaksOffFollowed (size : Size) (json : Bool) (coming order_coming old new : Option (List ℕ)) (fault : Fault) : Type 0 where
  pub scripts : Scripts
  pub steps : List ℕ
  pub ordered : OrderedAs size coming order_coming scripts steps
  pub enabled : IsInterleaving (plan_of scripts) start steps
  pub wrote : WritesFront old new (report_after json scripts steps) fault

-- the file reads as scripts, and the order has this fault
pub record RefusesOrder (size : Size) (coming order_coming : Option (List ℕ)) (fault : Fault) : Type 0 where
  pub scripts : Scripts
  pub read : ReadAs size coming scripts
  pub refuses : RefusesSteps size order_coming scripts fault

-- both are read, and a step isn't enabled when it comes
pub record StopsInOrder (size : Size) (coming order_coming : Option (List ℕ)) (fault : Fault) : Type 0 where
  pub scripts : Scripts
  pub steps : List ℕ
  pub ordered : OrderedAs size coming order_coming scripts steps
  pub stops : StopsAfter scripts steps fault

-- why nothing is written: memory ran out, a read failed, the file is refused, or the order is, or a step isn't enabled
abbrev pub StopsBefore : Size → Option (List ℕ) → Option (List ℕ) → Fault → Type 0
StopsBefore size coming order_coming fault =
    (fault ≡ Memory) ⊎ ((fault ≡ Read) ⊎ (Refuses size coming fault
    ⊎ (RefusesOrder size coming order_coming fault ⊎ StopsInOrder size coming order_coming fault)))

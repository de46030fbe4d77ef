-- Whether lookup-waits are of names that are published once and never taken away.
use Rattle.std.specs.Prelude.{◌≡◌, ◌<◌, ℕ, Some, Ok, slice_get}
use Rattle.wire_runs.specs.Plan.{Plan, Event, LookupWait, kind}
use Rattle.wire_runs.specs.Order.{PublishesOnce}
use Rattle.wire_scripts.specs.Scripts.{Scripts}
use Rattle.wire_scripts.specs.Planned.{plan_of}
use Rattle.wire_reader.specs.declared.Size.TheVariants.{OfVersion}
use Rattle.wire_reader.specs.Reads.{Reads}
use Rattle.wire_pattern.specs.Pattern.{Pattern}
use Rattle.wire_pattern.specs.Instances.{instance_text}
use Rattle.wire_size_laws.specs.Answered.{WaitsForOne}
use Rattle.wire_cutoff.specs.Selections.{Selection, selections}
use Rattle.wire_pattern_waits.specs.Waits.{alone}

-- if the event is a lookup-wait, it is of a name that is published once and never taken away
abbrev pub IsForOne : Plan → Event → Type 0
IsForOne plan y = (name : ℕ) → kind plan y ≡ Some (LookupWait name) → (x : Event) × PublishesOnce plan x name

-- so it is with each of the first n events of a process
abbrev pub AreForOne : Plan → ℕ → ℕ → Type 0
AreForOne plan p n = (i : ℕ) → i < n → IsForOne plan (record { proc = p; at = i })

-- so it is with each lookup-wait in the instance of this selection, as its text reads
abbrev pub SelectionWaitsForOne : Pattern → Selection → Type 0
SelectionWaitsForOne p selection = (scripts : Scripts) → Reads OfVersion (instance_text p (alone p selection)) (Ok scripts) → WaitsForOne (plan_of scripts)

-- and in that of each selection that is judged
abbrev pub AllWaitForOne : Pattern → Type 0
AllWaitForOne p = (number : ℕ) (selection : Selection) → slice_get (selections p) number ≡ Some selection → SelectionWaitsForOne p selection

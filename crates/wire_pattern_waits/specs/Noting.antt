-- What is noted of one instance more.
use Rattle.std.specs.Prelude.{◌≡◌, ◌⊎◌, ◌↔◌, ℕ, Bool, true, List}
use Rattle.wire_types.specs.declared.CallEnd.{CallEnd}
use Rattle.wire_scripts.specs.Scripts.{Scripts}
use Rattle.wire_core.specs.EndsAfter.{plain_ends}
use Rattle.wire_pattern.specs.Pattern.{Pattern}
use Rattle.wire_pattern.specs.Instances.{Cast}
use Rattle.wire_pattern_waits.specs.LineSets.{has_line}
use Rattle.wire_pattern_waits.specs.Stops.{StuckAt}

-- where this became of the calls of scripts in their plain run, the set has afterwards the lines that it had, those at
-- which a process of the instance waits, and no others
abbrev pub AreNotedToo : Pattern → Cast → List (List CallEnd) → List (List Bool) → List (List Bool) → Type 0
AreNotedToo p cast rows old new = (scripts : Scripts) → rows ≡ (plain_ends scripts).rows → (role line : ℕ)
    → (has_line new role line ≡ true) ↔ ((has_line old role line ≡ true) ⊎ StuckAt p cast scripts role line)

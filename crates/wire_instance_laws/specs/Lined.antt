-- The calls of an instance's text come from the lines of the pattern.
use Rattle.std.specs.Prelude.{◌≡◌, ℕ, ◌-◌, List, [], map, length, Some, Ok, slice_get, slice_index_or}
use Rattle.wire_scripts.specs.Scripts.{Scripts}
use Rattle.wire_reader.specs.declared.limits.Size.{Size}
use Rattle.wire_reader.specs.Reads.{Reads}
use Rattle.wire_reader.specs.Located.{AreCallLines}
use Rattle.wire_pattern.specs.Pattern.{Pattern}
use Rattle.wire_pattern.specs.Planned.{steps_in}
use Rattle.wire_pattern.specs.Instances.{Cast, IsCast, process_count, cast_of, steps_lines, instance_lines, instance_text}
use Rattle.wire_pattern.specs.Lawful.{IsSoundPattern}

-- of the line n of a text, counted from 1, the number in this list; 0 past its end
abbrev pub line_in : List ℕ → ℕ → ℕ
line_in lines n = slice_index_or lines (n - 1) 0

-- rows: for each process of the text the lines of its calls. Each comes from the line of the role's script that says the
-- call
pub record AreOfRoles (p : Pattern) (cast : Cast) (rows : List (List ℕ)) : Type 0 where
  pub count : length rows ≡ process_count cast
  pub lines : (v role : ℕ) → slice_get (cast_of cast).roles v ≡ Some role →
      map (line_in (instance_lines p cast)) (slice_index_or rows v []) ≡ steps_lines cast v 0 (steps_in (slice_get p.roles role))

-- the lines of the calls of an instance's text lead to those of the pattern
abbrev pub LinesLead : Type 0
LinesLead = (p : Pattern) (cast : Cast) (size : Size) (s : Scripts) (rows : List (List ℕ)) → IsSoundPattern p → IsCast p cast
    → Reads size (instance_text p cast) (Ok s) → AreCallLines size (instance_text p cast) rows → AreOfRoles p cast rows

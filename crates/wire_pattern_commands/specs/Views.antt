-- The string of a counterexample says the text of its plan.
use Rattle.std.specs.Prelude.{◌≡◌, ℕ, ◌<◌, ◌^◌, false, List, ◌∷◌, ◌++◌}
use Rattle.std.specs.List.{flat_map}
use Rattle.wire_pattern.specs.Pattern.{Pattern}
use Rattle.wire_pattern.specs.Instances.{Cast, IsCast, process_count, instance_text}
use Rattle.wire_pattern.specs.Lawful.{IsSoundPattern}
use Rattle.wire_pattern_commands.specs.Strings.{string_said, text_byte}

-- the text of each instance is what its string says
abbrev pub InstancesReadBack : Type 0
InstancesReadBack = (p : Pattern) (cast : Cast) (rest : List ℕ) → IsSoundPattern p → IsCast p cast → process_count cast < 10 ^ 9
    → string_said false (flat_map text_byte (instance_text p cast) ++ 34 ∷ rest) ≡ instance_text p cast

-- The lines that tell for which numbers of processes a verdict is: of each group that has a least number, how many it has
-- at least.
use Rattle.std.specs.Prelude.{◌==◌, ◌||◌, ℕ, List, [], ◌++◌, codes, decimal, if◌then◌else◌}
use Rattle.std.specs.List.{flat_map}
use Rattle.wire_pattern.specs.Pattern.{Role, Pattern}

-- of a group whose least number is above zero: `at least N ROLE`
abbrev pub least_line : Role → List ℕ
least_line role =
    if role.single || role.least == 0 then [] else codes "at least " ++ (decimal role.least ++ (codes " " ++ (role.name ++ codes "\n")))

-- those of all groups, in their order
abbrev pub least_text : Pattern → List ℕ
least_text p = flat_map least_line p.roles

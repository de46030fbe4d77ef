-- The turns of loops of `for some` that an instance leaves out, and how they are told.
use Rattle.std.specs.Prelude.{◌==◌, ℕ, Bool, List, [], ◌∷◌, ◌++◌, codes, decimal, length, if◌then◌else◌}
use Rattle.std.specs.List.{flat_map}
use Rattle.wire_scripts.specs.Scripts.{Scripts}
use Rattle.wire_words.specs.Words.{name_of}
use Rattle.wire_pattern.specs.Pattern.{Pattern}
use Rattle.wire_pattern.specs.Instances.{Turn, Cast, cast_of}
use Rattle.wire_cutoff.specs.Judged.{turn_line}
use Rattle.wire_pattern_commands.specs.declared.left_out.LeftOut.{LeftOut}

-- a turn: the process that would take it, the one that it is for, and the line of its loop, where the processes have these
-- roles
abbrev pub left_turn : Pattern → List ℕ → Turn → LeftOut
left_turn p roles turn = record { caller = turn.caller; each = turn.each; line = turn_line p roles turn }

-- the turn, if it isn't taken
abbrev pub left_in : Pattern → List ℕ → Turn × Bool → List LeftOut
left_in p roles choice = if choice.1 then [] else left_turn p roles choice.0 ∷ []

-- all turns that aren't
abbrev pub left_out : Pattern → Cast → List LeftOut
left_out p cast = flat_map (left_in p (cast_of cast).roles) cast.chosen

-- the process that would take it, and the one that it is for
abbrev pub rank_words : Scripts → LeftOut → List ℕ
rank_words scripts turn = name_of scripts turn.caller ++ (codes " for " ++ name_of scripts turn.each)

abbrev pub line_words : ℕ → List ℕ
line_words line = codes ", line " ++ (decimal line ++ codes " of the file\n")

abbrev pub turn_words : Scripts → LeftOut → List ℕ
turn_words scripts turn = rank_words scripts turn ++ line_words turn.line

-- a line for each
abbrev pub turns_text : Scripts → List LeftOut → List ℕ
turns_text scripts turns = flat_map (turn_words scripts) turns

-- the same below a heading, where there are any
abbrev pub indented_turn : Scripts → LeftOut → List ℕ
indented_turn scripts turn = codes "    " ++ turn_words scripts turn

abbrev pub left_part : Scripts → List LeftOut → List ℕ
left_part scripts turns =
    if length turns == 0 then [] else codes "  turns not taken:\n" ++ flat_map (indented_turn scripts) turns

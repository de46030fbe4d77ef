-- How `expand` is to put ranks on nodes, as its options say it.
use Rattle.std.specs.Prelude.{ℕ, ◌||◌, Bool, false, if◌then◌else◌, List, Option, Some, None, is_some, option_and_then}
use Rattle.std.specs.Prelude.{option_map, codes}
use Rattle.std.specs.Int.NonZero.{non_zero_u32_get}
use Rattle.std.specs.Option.{option_map_or}
use Rattle.std.specs.Str.{bytes_eq}
use Rattle.clap.specs.Words.{Row, Text, first_of}
use Rattle.wire_command_line.specs.Workers.{nonzero_said}
use Rattle.wire_command_line.specs.declared.request.Spread.{Spread}
use Rattle.wire_command_line.specs.declared.request.Spread.TheVariants.{Apart, PerNode, ByNode}

-- each rank on a node of its own, as long as there are nodes; so many ranks on each node; or in turn on so many nodes
pub data SpreadSaid : Type 0 where
  AllApart : SpreadSaid
  SoManyEach : ℕ → SpreadSaid
  InTurn : ℕ → SpreadSaid

abbrev pub spread_by : Spread → SpreadSaid
spread_by Apart = AllApart
spread_by (PerNode each) = SoManyEach (non_zero_u32_get each)
spread_by (ByNode nodes) = InTurn (non_zero_u32_get nodes)

-- the number of an option, where it was given and its word says one that isn't 0
abbrev pub number_given : Text → List Row → Option ℕ
number_given name rows = option_and_then nonzero_said (first_of name rows)

-- `--by` was given, and its word is `node`
abbrev pub is_by_node : List Row → Bool
is_by_node rows = option_map_or (λ word. bytes_eq word (codes "node")) (first_of (codes "by") rows) false

abbrev pub by_node_said : List Row → Option SpreadSaid
by_node_said rows = if is_by_node rows then option_map InTurn (number_given (codes "nodes") rows) else None

-- one of the options is given that put ranks on nodes in turn
abbrev pub has_turns : List Row → Bool
has_turns rows = is_some (first_of (codes "by") rows) || is_some (first_of (codes "nodes") rows)

-- what the options say; nothing where they don't go together, or a number or a way isn't said
abbrev pub spread_said : List Row → Option SpreadSaid
spread_said rows =
    if is_some (first_of (codes "per-node") rows) then
    (if has_turns rows then None else option_map SoManyEach (number_given (codes "per-node") rows))
    else (if has_turns rows then by_node_said rows else Some AllApart)

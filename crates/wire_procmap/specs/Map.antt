-- The map of scripts: the row of each process, and the kind of each key.
use Rattle.std.specs.Prelude.{ℕ, List, length, map}
use Rattle.wire_scripts.specs.Scripts.{Scripts}
use Rattle.wire_procmap.specs.declared.key.KeyKind.{KeyKind}
use Rattle.wire_procmap.specs.declared.row.ProcessNumbers.{ProcessNumbers}
use Rattle.wire_procmap.specs.Keys.{key_kind}
use Rattle.wire_procmap.specs.Rows.{rows_of}

pub record Map : Type 0 where
  pub rows : List ProcessNumbers
  pub kinds : List KeyKind

abbrev pub map_of : Scripts → Map
map_of scripts = record { rows = rows_of scripts.processes; kinds = map key_kind scripts.keys }

-- how many rows the map has, one for each process
abbrev pub row_count : Map → ℕ
row_count m = length m.rows

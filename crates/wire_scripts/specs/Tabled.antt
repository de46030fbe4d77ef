-- Scripts, put together of their parts.
use Rattle.std.specs.Prelude.{ℕ, List}
use Rattle.wire_scripts.specs.Scripts.{Process, Scripts}
use Rattle.wire_scripts.specs.declared.scripts.Format.{Format}
use Rattle.wire_scripts.specs.declared.scripts.Tables.{Tables}

abbrev pub scripts_from_parts : Format → List (List ℕ) → List (List ℕ) → Tables → List Process → Scripts
scripts_from_parts format nodes jobs tables processes = record {
  version = format.version;
  nodes = nodes;
  jobs = jobs;
  keys = tables.keys;
  names = tables.names;
  values = tables.values;
  sets = tables.sets;
  processes = processes;
  keeps = format.keeps;
}

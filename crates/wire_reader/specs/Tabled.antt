-- What the tables hold while the calls are numbered: for the contracts of private functions. What is read is said in
-- Reads.
use Rattle.std.specs.Prelude.{◌≡◌, ℕ, ◌+◌, Bool, List, [], ◌∷◌, ◌++◌, length, if◌then◌else◌}
use Rattle.wire_types.specs.declared.Version.{Version}
use Rattle.wire_lines.specs.Said as said
use Rattle.wire_scripts.specs.Scripts.{Process, Scripts}
use Rattle.wire_scripts.specs.declared.Tables.{Tables}
use Rattle.wire_reader.specs.declared.numbered_tables.NumberedTables.{NumberedTables}
use Rattle.wire_reader.specs.FirstPass.{is_among, Started, Declared}
use Rattle.wire_reader.specs.Reads.{Seen, set_members}

abbrev pub seen_of : NumberedTables → Seen
seen_of t = record { keys = t.keys; names = t.names; values = t.values; sets = t.sets }

-- what the tables of scripts hold
abbrev pub seen_by_tables : Tables → Seen
seen_by_tables t = record { keys = t.keys; names = t.names; values = t.values; sets = t.sets }

-- the scripts of a version, with or without the line `keep`, of these nodes and jobs, whose calls name what the tables
-- hold
abbrev pub scripts_said : Version → Bool → List (List ℕ) → List (List ℕ) → Seen → List Process → Scripts
scripts_said version keeps nodes jobs s processes = record {
  version = version;
  nodes = nodes;
  jobs = jobs;
  keys = s.keys;
  names = s.names;
  values = s.values;
  sets = s.sets;
  processes = processes;
  keeps = keeps;
}

abbrev pub nothing_seen : Seen
nothing_seen = record { keys = []; names = []; values = []; sets = [] }

-- how much the tables hold
abbrev pub entry_count : Seen → ℕ
entry_count s = length s.keys + (length s.names + (length s.values + length s.sets))

-- a table with one text more, unless it is there
abbrev pub with_text : List (List ℕ) → List ℕ → List (List ℕ)
with_text texts text = if is_among texts text then texts else texts ++ text ∷ []

-- the tables after a call of a process of this job
abbrev pub seen_with : Declared → Seen → ℕ → said.Call → Seen
seen_with d s own_job (said.Put scope key value) = record s { keys = with_text s.keys key; values = with_text s.values value }
seen_with d s own_job said.Commit = s
seen_with d s own_job (said.Fence set collect) = record s { sets = with_text s.sets (set_members d own_job set) }
seen_with d s own_job (said.Get job rank key) = record s { keys = with_text s.keys key }
seen_with d s own_job (said.GetNow job rank key) = record s { keys = with_text s.keys key }
seen_with d s own_job (said.Publish name value) = record s { names = with_text s.names name; values = with_text s.values value }
seen_with d s own_job (said.Lookup name) = record s { names = with_text s.names name }
seen_with d s own_job (said.LookupWait name) = record s { names = with_text s.names name }
seen_with d s own_job (said.Unpublish name) = record s { names = with_text s.names name }
seen_with d s own_job said.UnpublishAll = s

-- the tables after these calls of a process of this job
abbrev pub seen_after : Declared → Seen → ℕ → List (ℕ × said.Call) → Seen
seen_after d s own_job [] = s
seen_after d s own_job (c ∷ cs) = seen_after d (seen_with d s own_job c.1) own_job cs

-- the tables after the calls of these processes
abbrev pub all_seen : Declared → Seen → List Started → Seen
all_seen d s [] = s
all_seen d s (p ∷ ps) = all_seen d (seen_after d s p.job p.calls) ps

-- a table goes on in a later one
abbrev pub IsPrefix : List (List ℕ) → List (List ℕ) → Type 0
IsPrefix table later = (more : List (List ℕ)) × (later ≡ table ++ more)

pub record GoOn (s later : Seen) : Type 0 where
  pub keys : IsPrefix s.keys later.keys
  pub names : IsPrefix s.names later.names
  pub values : IsPrefix s.values later.values
  pub sets : IsPrefix s.sets later.sets

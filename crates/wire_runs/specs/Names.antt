-- Which calls concern a name.
use Rattle.std.specs.Prelude.{ℕ, zero, suc, Bool, false, ◌||◌, Option, Some, ◌==◌}
use Rattle.wire_runs.specs.Plan.{Plan, Kind, Publish, Lookup, LookupWait, Unpublish, UnpublishAll, kind_at, event_count}
use Rattle.wire_runs.specs.Plan.{Event}

-- whether it publishes the name
abbrev pub is_publish : ℕ → Option Kind → Bool
is_publish name (Some (Publish n)) = n == name
is_publish name _ = false

-- whether one of p's first n events publishes the name
abbrev pub publishes : Plan → ℕ → ℕ → ℕ → Bool
publishes plan p name zero = false
publishes plan p name (suc n) = is_publish name (kind_at plan p n) || publishes plan p name n

-- whether it can take the name away. A call that takes away all names of its process can take each that the process's
-- script publishes anywhere
abbrev pub takes_name : Plan → ℕ → Event → Option Kind → Bool
takes_name plan name x (Some (Unpublish n)) = n == name
takes_name plan name x (Some UnpublishAll) = publishes plan x.proc name (event_count plan x.proc)
takes_name plan name x _ = false

-- whether it can change what is published under the name
abbrev pub writes_name : Plan → ℕ → Event → Option Kind → Bool
writes_name plan name x (Some (Publish n)) = n == name
writes_name plan name x o = takes_name plan name x o

-- whether it is a call on the name
abbrev pub calls_name : Plan → ℕ → Event → Option Kind → Bool
calls_name plan name x (Some (Lookup n)) = n == name
calls_name plan name x (Some (LookupWait n)) = n == name
calls_name plan name x o = writes_name plan name x o

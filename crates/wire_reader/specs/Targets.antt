-- What the items of a set name, by number: for the contracts of private functions. What is read is said in Reads.
use Rattle.std.specs.Prelude.{◌≡◌, ◌↔◌, ◌⊎◌, ℕ, zero, suc, ◌<◌, ◌≤◌, ◌==◌, Bool, true, false, nat_lt, List, [], ◌∷◌, length}
use Rattle.std.specs.List.{All, Contains, list_any, position_or_len}
use Rattle.wire_lines.specs.Said as said
use Rattle.wire_reader.specs.FirstPass.{is_among, number_or_count, Started, Declared}
use Rattle.wire_reader.specs.Reads.{is_proc, places_from}
use Rattle.wire_reader.specs.declared.members.Target.{Target}
use Rattle.wire_reader.specs.declared.members.Target.TheVariants.{One, Every}

-- whether a process is what is named
abbrev pub is_target : Target → Started → Bool
is_target (One job rank) p = is_proc job rank p
is_target (Every job) p = p.job == job

abbrev pub is_any_target : List Target → Started → Bool
is_any_target targets p = list_any (λ t. is_target t p) targets

abbrev pub target_by : Declared → said.Item → Target
target_by d (said.One job rank) = One (number_or_count d.jobs job) rank
target_by d (said.Every job) = Every (number_or_count d.jobs job)

-- whether there is a process of this job and this rank
abbrev pub has_number : Declared → ℕ → ℕ → Bool
has_number d job rank = nat_lt (position_or_len (is_proc job rank) d.processes) (length d.processes)

abbrev pub is_declared_target : Declared → Target → Bool
is_declared_target d (One job rank) = has_number d job rank
is_declared_target d (Every job) = nat_lt job (length d.jobs)

-- the members of the set of what is named
abbrev pub named_in : Declared → List Target → List ℕ
named_in d targets = places_from (is_any_target targets) 0 d.processes

-- whether the process of a number passes a test
abbrev pub passes_at : (Started → Bool) → List Started → ℕ → Bool
passes_at test [] k = false
passes_at test (p ∷ ps) zero = test p
passes_at test (p ∷ ps) (suc k) = passes_at test ps k

-- the processes that a target names are those from one number to below another
abbrev pub IsRangeOf : Declared → Target → ℕ → ℕ → Type 0
IsRangeOf d target first past = (k : ℕ) → ((first ≤ k) × (k < past)) ↔ (passes_at (is_target target) d.processes k ≡ true)

-- the new list has what the old one has, and the numbers from the first to below the past one
abbrev pub AddsRange : ℕ → ℕ → List ℕ → List ℕ → Type 0
AddsRange first past old new = (k : ℕ) → Contains new k ↔ (Contains old k ⊎ ((first ≤ k) × (k < past)))

-- the numbers of what is named, in whatever order, however often
abbrev pub AreTargetNumbers : Declared → List Target → List ℕ → Type 0
AreTargetNumbers d targets numbers = (k : ℕ) → Contains numbers k ↔ (passes_at (is_any_target targets) d.processes k ≡ true)

-- what was named, with a number
abbrev pub Note : Type 0
Note = List Target × ℕ

-- a note tells the number of a set that is there
pub record IsNote (d : Declared) (sets : List (List ℕ)) (note : Note) : Type 0 where
  pub there : is_among sets (named_in d note.0) ≡ true
  pub number : note.1 ≡ number_or_count sets (named_in d note.0)

pub record AreNotesOf (d : Declared) (sets : List (List ℕ)) (notes : List Note) : Type 0 where
  pub each : All (IsNote d sets) notes

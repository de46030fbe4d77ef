-- What the tables of a map of scripts hold.
use Rattle.std.proofs.Common.{◌≡◌, ◌∙◌, ap, ℕ, ◌<◌, ◌==◌, Some, None, length, get_or, count_by, position, arith}
use Rattle.wire_scripts.specs.Scripts.{Scripts}
use Rattle.wire_scripts.specs.Map.{size_of_job}
use Rattle.wire_procmap.specs.declared.row.ProcessNumbers.{ProcessNumbers}
use Rattle.wire_procmap.specs.Map.{Map, map_of, row_count}
use Rattle.wire_procmap.specs.Places.{IsAt}
use Rattle.wire_procmap.specs.Rows.{row_of}
use Rattle.wire_procmap.proofs.Places.{has_place, found_at, none_at}
use Rattle.wire_procmap.proofs.Rows.{length_of_rows, row_at, size_of_rows}

-- the map of scripts has their processes
pub count_of_map : (scripts : Scripts) → row_count (map_of scripts) ≡ length scripts.processes
count_of_map scripts = length_of_rows scripts.processes

pub row_in : (m : Map) (p : ℕ) (d : ProcessNumbers) → p < row_count m → (scripts : Scripts) → m ≡ map_of scripts → get_or m.rows p d ≡ row_of scripts.processes p
row_in m p d there scripts all =
    let within : p < length scripts.processes = omega (arith, there, ap row_count all, count_of_map scripts) in
    ap (λ (x : Map). get_or x.rows p d) all ∙ row_at scripts.processes p d within

pub size_in_map : (m : Map) (job n : ℕ) → n ≡ count_by (λ (r : ProcessNumbers). r.job == job) m.rows → (scripts : Scripts) → m ≡ map_of scripts → n ≡ size_of_job scripts.processes job
size_in_map m job n is scripts all =
    is ∙ ap (λ (x : Map). count_by (λ (r : ProcessNumbers). r.job == job) x.rows) all ∙ size_of_rows scripts.processes job

pub found_in : (m : Map) (job rank p : ℕ) → Some p ≡ position (has_place job rank) m.rows → (scripts : Scripts) → m ≡ map_of scripts → IsAt scripts.processes job rank p
found_in m job rank p is scripts all =
    found_at scripts.processes job rank p (is ∙ ap (λ (x : Map). position (has_place job rank) x.rows) all)

pub none_in : (m : Map) (job rank : ℕ) → None ≡ position (has_place job rank) m.rows → (scripts : Scripts) (p : ℕ) → m ≡ map_of scripts → IsAt scripts.processes job rank p → ⊥
none_in m job rank is scripts p all =
    none_at scripts.processes job rank p (is ∙ ap (λ (x : Map). position (has_place job rank) x.rows) all)

-- The process of a job and a rank.
use Rattle.std.specs.Prelude.{◌≡◌, ℕ, ◌<◌, List, length}
use Rattle.wire_scripts.specs.Scripts.{Process}
use Rattle.wire_scripts.specs.Map.{job_at, rank_of}

-- the process of this number has this rank in this job
pub record IsAt (processes : List Process) (job rank p : ℕ) : Type 0 where
  pub there : p < length processes
  pub of_job : job_at processes p ≡ job
  pub of_rank : rank_of processes p ≡ rank

-- no two processes have one rank in one job
abbrev pub OneProcess : Type 0
OneProcess = (processes : List Process) (job rank p q : ℕ) → IsAt processes job rank p → IsAt processes job rank q → p ≡ q

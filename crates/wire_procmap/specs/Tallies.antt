-- How many processes were counted of each job, on each node, and of each job on each node: for the contracts of private
-- functions.
use Rattle.std.specs.Prelude.{◌≡◌, ℕ, List, Bool, ◌&&◌, ◌==◌, Option, Some, None, count_by}
use Rattle.std.specs.HashMap.{get}
use Rattle.wire_scripts.specs.Scripts.{Process}
use Rattle.wire_procmap.specs.declared.tally.Tally.{Tally}
use Rattle.wire_procmap.specs.declared.row.Counts.{Counts}

-- whether two pairs are the same
abbrev pub is_same : ℕ × ℕ → ℕ × ℕ → Bool
is_same a b = (a.0 == b.0) && (a.1 == b.1)

abbrev pub count_in : Option ℕ → ℕ
count_in None = 0
count_in (Some n) = n

-- how often a pair was counted
abbrev pub counted : Tally → ℕ × ℕ → ℕ
counted tally pair = count_in (get is_same tally.counts pair)

-- what a process is counted under: its job, its node, and both
abbrev pub job_of : Process → ℕ × ℕ
job_of q = (0, q.job)

abbrev pub node_of : Process → ℕ × ℕ
node_of q = (0, q.node)

abbrev pub both_of : Process → ℕ × ℕ
both_of q = (q.job, q.node)

-- each pair was counted once for each of these processes that is counted under it
abbrev pub IsTally : (Process → ℕ × ℕ) → List Process → Tally → Type 0
IsTally pair_of processes tally = (pair : ℕ × ℕ) → counted tally pair ≡ count_by (λ q. is_same (pair_of q) pair) processes

-- these processes are counted by job, by node, and by both
pub record AreCounts (processes : List Process) (counts : Counts) : Type 0 where
  pub jobs : IsTally job_of processes counts.jobs
  pub nodes : IsTally node_of processes counts.nodes
  pub both : IsTally both_of processes counts.both

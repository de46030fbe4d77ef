-- The process map: each number counts processes of the file's list (PMIx Standard 5.0, Reserved Keys).
use Rattle.std.specs.Prelude.{ℕ, List, ◌==◌, ◌&&◌, Option, Some, None, count_by, take, slice_get}
use Rattle.wire_scripts.specs.Process.{Process}

abbrev pub job_in : Option Process → ℕ
job_in None = 0
job_in (Some process) = process.job

abbrev pub node_in : Option Process → ℕ
node_in None = 0
node_in (Some process) = process.node

-- the number of the job of the process of this number
abbrev pub job_at : List Process → ℕ → ℕ
job_at processes p = job_in (slice_get processes p)

-- and of its node
abbrev pub node_at : List Process → ℕ → ℕ
node_at processes p = node_in (slice_get processes p)

-- PMIX_RANK: how many processes of its job stand before it
abbrev pub rank_of : List Process → ℕ → ℕ
rank_of processes p = count_by (λ q. q.job == job_at processes p) (take p processes)

-- PMIX_LOCAL_RANK: how many of them on its node
abbrev pub local_rank_of : List Process → ℕ → ℕ
local_rank_of processes p = count_by (λ q. (q.job == job_at processes p) && (q.node == node_at processes p)) (take p processes)

-- PMIX_NODE_RANK: how many processes of all jobs on its node stand before it
abbrev pub node_rank_of : List Process → ℕ → ℕ
node_rank_of processes p = count_by (λ q. q.node == node_at processes p) (take p processes)

-- PMIX_JOB_SIZE: how many processes a job has
abbrev pub size_of_job : List Process → ℕ → ℕ
size_of_job processes job = count_by (λ q. q.job == job) processes

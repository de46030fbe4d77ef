-- The rows of a map, by their numbers and by their jobs.
use Rattle.std.proofs.Common.{◌≡◌, ◌∙◌, ap, sym, refl, ℕ, zero, suc, ◌+◌, ◌<◌, ◌≤◌, ◌==◌, ◌&&◌, List, [], Bool, false, cond, None, map, take, length, get_or, count_by, position, add-one, arith}
use Rattle.std.proofs.Common.{subst, ◌++◌, ◌∷◌}
use Rattle.std.specs.Prelude.{nat_lt}
use Rattle.std.specs.List.{range_with_len, position_or_len}
use Rattle.std.proofs.Common.{inl, inr}
use Rattle.std.proofs.lemmas.Bool.{ltb-false, cases_Bool, cond-true}
use Rattle.std.proofs.lemmas.Option.{slice_get-get_or, none-some}
use Rattle.std.proofs.lemmas.List.FromFn.{length-map-range_with_len, map-range_with_len_more, get_or-map-range_with_len, sum_by-map-range_with_len_more}
use Rattle.std.proofs.lemmas.List.Sums.{sum_by_more, fails_before_first}
use Rattle.std.proofs.Math.Seq.{take-length}
use Rattle.wire_scripts.specs.Scripts.{Process}
use Rattle.wire_scripts.specs.Map.{job_in, node_in, job_at, node_at, size_of_job}
use Rattle.wire_procmap.specs.declared.row.ProcessNumbers.{ProcessNumbers}
use Rattle.wire_procmap.specs.Rows.{row_of, rows_of}

pub nobody : Process
nobody = record { job = 0; rank = 0; node = 0; calls = [] }

pub length_of_rows : (processes : List Process) → length (rows_of processes) ≡ length processes
length_of_rows processes = length-map-range_with_len (row_of processes) 0 (length processes)

pub row_at : (processes : List Process) (p : ℕ) (d : ProcessNumbers) → p < length processes → get_or (rows_of processes) p d ≡ row_of processes p
row_at processes p d h = get_or-map-range_with_len (row_of processes) 0 (length processes) p p d h (omega arith)

pub job_there : (processes : List Process) (p : ℕ) (d : Process) → p < length processes → job_at processes p ≡ (get_or processes p d).job
job_there processes p d h = ap job_in (slice_get-get_or processes p d h)

pub node_there : (processes : List Process) (p : ℕ) (d : Process) → p < length processes → node_at processes p ≡ (get_or processes p d).node
node_there processes p d h = ap node_in (slice_get-get_or processes p d h)

-- a row of counts
pub row_is : (processes : List Process) (p job node rank local_rank node_rank job_size : ℕ) → job ≡ job_at processes p → node ≡ node_at processes p →
    rank ≡ count_by (λ (q : Process). q.job == job) (take p processes) → local_rank ≡ count_by (λ (q : Process). (q.job == job) && (q.node == node)) (take p processes) →
    node_rank ≡ count_by (λ (q : Process). q.node == node) (take p processes) → job_size ≡ count_by (λ (q : Process). q.job == job) processes →
    ◌≡◌ {A = ProcessNumbers} (record { job = job; node = node; rank = rank; local_rank = local_rank; node_rank = node_rank; job_size = job_size }) (row_of processes p)
unfolding row_of
row_is processes p job node rank local_rank node_rank job_size of_job of_node ranks locals nodes sizes =
    let rank_is = ranks ∙ ap (λ j. count_by (λ (q : Process). q.job == j) (take p processes)) of_job in
    let local_is = locals ∙ ap (λ j. count_by (λ (q : Process). (q.job == j) && (q.node == node)) (take p processes)) of_job
    ∙ ap (λ n. count_by (λ (q : Process). (q.job == job_at processes p) && (q.node == n)) (take p processes)) of_node in
    let node_is = nodes ∙ ap (λ n. count_by (λ (q : Process). q.node == n) (take p processes)) of_node in
    let size_is = sizes ∙ ap (λ j. count_by (λ (q : Process). q.job == j) processes) of_job in
    λ t. record { job = of_job t; node = of_node t; rank = rank_is t; local_rank = local_is t; node_rank = node_is t; job_size = size_is t }

-- one row more
pub rows_more : (processes : List Process) (n : ℕ) → map (row_of processes) (range_with_len 0 (n + 1)) ≡ map (row_of processes) (range_with_len 0 n) ++ row_of processes n ∷ []
rows_more processes n = map-range_with_len_more (row_of processes) 0 n n (omega arith)

-- the first rows count the jobs of the first processes
counted : (processes : List Process) (job k : ℕ) → k ≤ length processes →
    count_by (λ (r : ProcessNumbers). r.job == job) (map (row_of processes) (range_with_len 0 k)) ≡ count_by (λ (q : Process). q.job == job) (take k processes)
unfolding row_of
counted processes job zero h = refl
counted processes job (suc k) h =
    let low : k < length processes = omega arith in
    let ih = counted processes job k (omega arith) in
    let here : cond (job_at processes k == job) 1 0 ≡ cond ((get_or processes k nobody).job == job) 1 0 = ap (λ n. cond (n == job) 1 0) (job_there processes k nobody low) in
    let rows = sum_by-map-range_with_len_more (λ (r : ProcessNumbers). cond (r.job == job) 1 0) (row_of processes) 0 k k (omega arith) in
    let firsts = sum_by_more (λ (q : Process). cond (q.job == job) 1 0) processes k nobody low in
    let Counts : ℕ → Type 0 = λ n. count_by (λ (r : ProcessNumbers). r.job == job) (map (row_of processes) (range_with_len 0 n)) ≡ count_by (λ (q : Process). q.job == job) (take n processes) in
    subst Counts (add-one k) (rows ∙ ap (λ n. n + cond (job_at processes k == job) 1 0) ih ∙ ap (λ n. count_by (λ (q : Process). q.job == job) (take k processes) + n) here ∙ sym firsts)

pub size_of_rows : (processes : List Process) (job : ℕ) → count_by (λ (r : ProcessNumbers). r.job == job) (rows_of processes) ≡ size_of_job processes job
size_of_rows processes job = counted processes job (length processes) (omega arith) ∙ ap (count_by (λ (q : Process). q.job == job)) (take-length processes)

-- where no element passes, each fails
pub none_passes : {A : Type 0} (p : A → Bool) (xs : List A) (k : ℕ) (d : A) → None ≡ position p xs → k < length xs → p (get_or xs k d) ≡ false
none_passes p xs k d e h =
    elim (cases_Bool (nat_lt (position_or_len p xs) (length xs))) [
      | inl t ↦ absurd (none-some (position_or_len p xs) (e ∙ cond-true _ _ _ t))
      | inr f ↦ let past = ltb-false _ _ f in fails_before_first p xs k d (omega arith)
    ]

-- A job and a rank name at most one process, and the first row that has them is that of the process.
use Rattle.std.proofs.Common.{◌≡◌, ◌∙◌, ap, sym, ℕ, ◌<◌, ◌≤◌, ◌==◌, ◌&&◌, List, Bool, true, false, cond, Some, None, take, length, get_or, count_by, position, arith, inl, inr, eq-eqb}
use Rattle.std.proofs.lemmas.Bool.{cases_order, cond-true, and_parts, and_from, eqb-true, both_ways}
use Rattle.std.proofs.lemmas.List.{take-take, get_or-take, length-take-le}
use Rattle.std.proofs.lemmas.List.Quantifiers.{position-Some}
use Rattle.std.proofs.lemmas.List.Sums.{sum_by_more_le}
use Rattle.wire_scripts.specs.Scripts.{Process}
use Rattle.wire_scripts.specs.Map.{job_at}
use Rattle.wire_procmap.specs.declared.row.ProcessNumbers.{ProcessNumbers}
use Rattle.wire_procmap.specs.Places.{IsAt, OneProcess}
use Rattle.wire_procmap.specs.Rows.{row_of, rows_of}
use Rattle.wire_procmap.proofs.Rows.{nobody, job_there, length_of_rows, row_at, none_passes}

abbrev of_job : List Process → ℕ → ℕ → ℕ
of_job processes job p = count_by (λ (q : Process). q.job == job) (take p processes)

-- ranks rise along a job
rises : (processes : List Process) (job p q : ℕ) → p < q → q ≤ length processes → job_at processes p ≡ job → of_job processes job p < of_job processes job q
rises processes job p q before within is =
    let there : p < length (take q processes) = omega (arith, length-take-le q processes within) in
    let more = sum_by_more_le (λ (x : Process). cond (x.job == job) 1 0) (take q processes) p nobody there in
    let front : of_job (take q processes) job p ≡ of_job processes job p = ap (count_by (λ (x : Process). x.job == job)) (take-take p q processes (omega arith)) in
    let own : (get_or (take q processes) p nobody).job ≡ job = ap (λ (x : Process). x.job) (get_or-take q processes p nobody before) ∙ sym (job_there processes p nobody (omega arith)) ∙ is in
    let one : ◌≡◌ {A = ℕ} (cond ((get_or (take q processes) p nobody).job == job) 1 0) 1 = cond-true _ 1 0 (eq-eqb _ _ own) in
    omega (arith, more, front, one)

-- the rank, counted by the job's number
ranked : (processes : List Process) (job rank p : ℕ) → IsAt processes job rank p → of_job processes job p ≡ rank
ranked processes job rank p at = ap (λ j. of_job processes j p) (sym at.of_job) ∙ at.of_rank

pub one_process : OneProcess
one_process processes job rank p q first second = elim (cases_order p q) [
  | inl same ↦ same
  | inr (inl less) ↦
      let rise = rises processes job p q less (omega (arith, second.there)) first.of_job in
      absurd (omega (arith, rise, ranked processes job rank p first, ranked processes job rank q second))
  | inr (inr more) ↦
      let rise = rises processes job q p more (omega (arith, first.there)) second.of_job in
      absurd (omega (arith, rise, ranked processes job rank p first, ranked processes job rank q second))
]

abbrev pub has_place : ℕ → ℕ → ProcessNumbers → Bool
has_place job rank r = (r.job == job) && (r.rank == rank)

pub found_at : (processes : List Process) (job rank p : ℕ) → Some p ≡ position (has_place job rank) (rows_of processes) → IsAt processes job rank p
unfolding row_of
found_at processes job rank p e =
    let found = position-Some (has_place job rank) (rows_of processes) p (row_of processes p) (sym e) in
    let within : p < length processes = omega (arith, found.0, length_of_rows processes) in
    let passes : has_place job rank (row_of processes p) ≡ true = ap (has_place job rank) (sym (row_at processes p (row_of processes p) within)) ∙ found.1 in
    let parts = and_parts _ _ passes in
    record { there = within; of_job = eqb-true _ _ parts.0; of_rank = eqb-true _ _ parts.1 }

pub none_at : (processes : List Process) (job rank p : ℕ) → None ≡ position (has_place job rank) (rows_of processes) → IsAt processes job rank p → ⊥
unfolding row_of
none_at processes job rank p e at =
    let within : p < length (rows_of processes) = omega (arith, at.there, length_of_rows processes) in
    let fails = none_passes (has_place job rank) (rows_of processes) p (row_of processes p) e within in
    let fails_here : has_place job rank (row_of processes p) ≡ false = ap (has_place job rank) (sym (row_at processes p (row_of processes p) at.there)) ∙ fails in
    both_ways _ fails_here (and_from _ _ (eq-eqb _ _ at.of_job) (eq-eqb _ _ at.of_rank))

-- The processes that were read stand in the order of their jobs, and the rank of each counts those of its job before it.
use Rattle.std.proofs.Common.{◌≡◌, ◌∙◌, ap, sym, subst, refl, ℕ, zero, suc, ◌+◌, ◌<◌, ◌≤◌, List, [], ◌∷◌, cond, Option, Some, None, inl, inr, length, map, take, count_by, option_map, arith, eq-eqb}
use Rattle.std.proofs.Common.{zero-add}
use Rattle.std.specs.Prelude.{◌==◌, slice_get}
use Rattle.std.proofs.lemmas.Bool.{cases_eq, cond-true, cond-false}
use Rattle.std.proofs.lemmas.List.{length-map}
use Rattle.std.proofs.lemmas.List.Sums.{sum_by-cons}
use Rattle.std.proofs.lemmas.Option.{slice_get-map}
use borrow.Author.Tests.{ne_eqb}
use Rattle.wire_scripts.specs.Process.{Process}
use Rattle.wire_scripts.specs.Map.{job_in, job_at, rank_of}
use Rattle.wire_scripts.specs.Scripts.{AreRanked}
use Rattle.wire_reader.specs.FirstPass.{Started, Declared}
use Rattle.wire_reader.specs.Reads.{Seen, process_of}
use Rattle.wire_reader.proofs.Ranked.{JobsFrom, RanksFrom, with_one, counted_once}

module _ (d : Declared) (s : Seen) where
  least : (m : ℕ) (ps : List Started) (q : ℕ) → JobsFrom m ps → q < length ps → m ≤ job_at (map (process_of d s) ps) q
  least m [] q h low = absurd (omega arith)
  least m (x ∷ ps) zero h low = h.0
  least m (x ∷ ps) (suc q) h low =
      let here = h.0 in
      let rest = least x.job ps q h.1 (omega arith) in
      omega arith

  rising : (m : ℕ) (ps : List Started) (p q : ℕ) → JobsFrom m ps → p ≤ q → q < length ps → job_at (map (process_of d s) ps) p ≤ job_at (map (process_of d s) ps) q
  rising m [] p q h le low = absurd (omega arith)
  rising m (x ∷ ps) zero zero h le low = omega arith
  rising m (x ∷ ps) zero (suc q) h le low = least x.job ps q h.1 (omega arith)
  rising m (x ∷ ps) (suc p) zero h le low = absurd (omega arith)
  rising m (x ∷ ps) (suc p) (suc q) h le low = rising x.job ps p q h.1 (omega arith) (omega arith)

  -- how many of a job stand among the first so many
  abbrev before : ℕ → List Started → ℕ → ℕ
  before job ps k = count_by (λ (q : Process). q.job == job) (take k (map (process_of d s) ps))

  counted_no : (n : ℕ → ℕ) (job other : ℕ) → (job ≡ other → ⊥) → with_one n other job ≡ n job
  counted_no n job other apart = rw (ne_eqb job other apart) refl

  counted : (n : ℕ → ℕ) (ps : List Started) (k : ℕ) (p : Started) → RanksFrom n ps → slice_get ps k ≡ Some p → p.rank ≡ n p.job + before p.job ps k
  counted n [] k p h at = absurd (cc)
  counted n (x ∷ ps) zero p h at =
      let same : x ≡ p = cc in
      let none : before p.job (x ∷ ps) zero ≡ 0 = refl in
      let own : p.rank ≡ n p.job = subst (λ y. y.rank ≡ n y.job) same h.0 in
      omega arith
  counted n (x ∷ ps) (suc k) p h at =
      let rest : p.rank ≡ with_one n x.job p.job + before p.job ps k = counted (with_one n x.job) ps k p h.1 at in
      let more : before p.job (x ∷ ps) (suc k) ≡ cond (x.job == p.job) 1 0 + before p.job ps k = sum_by-cons (λ (q : Process). cond (q.job == p.job) 1 0) (process_of d s x)
      (take k (map (process_of d s) ps)) in
      elim (cases_eq p.job x.job) [
        | inl same ↦
            let here = counted_once n p.job x.job same in
            let one : ◌≡◌ {A = ℕ} (cond (x.job == p.job) 1 0) 1 = cond-true _ 1 0 (eq-eqb _ _ (sym same)) in
            omega (arith, rest, more, here, one)
        | inr other ↦
            let here = counted_no n p.job x.job other in
            let one : ◌≡◌ {A = ℕ} (cond (x.job == p.job) 1 0) 0 = cond-false _ 1 0 (ne_eqb x.job p.job (λ e. other (sym e))) in
            omega (arith, rest, more, here, one)
      ]

  rank_is : (ps : List Started) (k : ℕ) (process : Process) → RanksFrom (λ j. 0) ps → slice_get (map (process_of d s) ps) k ≡ Some process → process.rank ≡ rank_of (map (process_of d s) ps) k
  rank_is ps k process h at = of_process (slice_get ps k) refl (sym (slice_get-map (process_of d s) ps k) ∙ at)
    where
      of_process : (o : Option Started) → slice_get ps k ≡ o → option_map (process_of d s) o ≡ Some process → process.rank ≡ rank_of (map (process_of d s) ps) k
      of_process None stands e = absurd (cc)
      of_process (Some p) stands e =
          let is : process_of d s p ≡ process = cc in
          let job : job_at (map (process_of d s) ps) k ≡ p.job = ap job_in (slice_get-map (process_of d s) ps k ∙ ap (option_map (process_of d s)) stands) in
          subst (λ (x : Process). x.rank ≡ rank_of (map (process_of d s) ps) k) is
          (counted (λ j. 0) ps k p h stands ∙ zero-add (before p.job ps k) ∙ ap (λ j. before j ps k) (sym job))

  pub ranked : (ps : List Started) → JobsFrom 0 ps → RanksFrom (λ j. 0) ps → AreRanked (map (process_of d s) ps)
  ranked ps jobs ranks = record {
    together = λ p q le low. rising 0 ps p q jobs le (subst (λ n. q < n) (length-map ps (process_of d s)) low);
    ranks = λ p process at. rank_is ps p process ranks at;
  }

-- The rank of one more process.
use Rattle.std.proofs.Common.{◌≡◌, ◌∙◌, ap, sym, ℕ, ◌+◌, ◌<◌, ◌≤◌, ◌==◌, inl, inr, List, [], ◌∷◌, ◌++◌, Bool, length, take, get_or, set, arith, length-take, length-append}
use Rattle.std.specs.Prelude.{slice_index_or, slice_get}
use Rattle.std.specs.List.{count_by}
use Rattle.std.proofs.lemmas.Bool.{eq-eqb, ne_eqb, cases_eq, cases_lt}
use Rattle.std.proofs.lemmas.List.{get_or-map, length-map, get_or-set_same, get_or-set_other}
use Rattle.std.proofs.lemmas.List.Sums.{count_by_more_yes, count_by_more_no, count_by-le-length}
use Rattle.std.proofs.Math.ListN.{get_or-append}
use Rattle.std.proofs.Math.Seq.{get_or-append_seam}
use Rattle.wire_pattern.specs.Pattern.{Role}
use Rattle.wire_pattern.specs.Instances.{job_in}
use Rattle.wire_instances.specs.Tables.{jobs_by, rank_in}

-- the job of the next process
pub its_job : (roles : List Role) (numbers : List ℕ) (i job : ℕ) → i < length numbers → job ≡ job_in (slice_get roles (get_or numbers i 0)) → job ≡ get_or (jobs_by roles numbers) i 0
its_job roles numbers i job h e = e ∙ sym (get_or-map (λ role. job_in (slice_get roles role)) numbers i 0 0 h)

pub job_count : (roles : List Role) (numbers : List ℕ) → length (jobs_by roles numbers) ≡ length numbers
job_count roles numbers = length-map numbers (λ role. job_in (slice_get roles role))

-- the ranks grow by one
pub grow : (ranks : List ℕ) (rank i : ℕ) → length ranks ≡ i → length (ranks ++ rank ∷ []) ≡ i + 1
grow ranks rank i h = omega (arith, h, length-append ranks (rank ∷ []))

-- a rank is no higher than the number of its process
pub low_rank : (p : ℕ → Bool) (jobs : List ℕ) (i rank : ℕ) → rank ≡ count_by p (take i jobs) → rank ≤ i
low_rank p jobs i rank e = omega (arith, e, count_by-le-length p (take i jobs), length-take i jobs)

pub counted : (jobs counts : List ℕ) (i job width rank j : ℕ) → i < length jobs → job ≡ get_or jobs i 0 → job < width → length counts ≡ width
    → ((k : ℕ) → k < width → slice_index_or counts k 0 ≡ count_by (λ x. x == k) (take i jobs)) → rank ≡ slice_index_or counts job 0 → j < width
    → slice_index_or (set counts job (rank + 1)) j 0 ≡ count_by (λ x. x == j) (take (i + 1) jobs)
counted jobs counts i job width rank j h is low wide inv r below = elim (cases_eq j job) [
  | inl e ↦
      ap (λ k. slice_index_or (set counts job (rank + 1)) k 0) e ∙ get_or-set_same counts job (rank + 1) 0 (omega (arith, low, wide)) ∙ ap (λ m. m + 1) (r ∙ inv job low)
      ∙ sym (count_by_more_yes (λ x. x == job) jobs i 0 h (eq-eqb (get_or jobs i 0) job (sym is))) ∙ ap (λ k. count_by (λ x. x == k) (take (i + 1) jobs)) (sym e)
  | inr ne ↦
      get_or-set_other counts job j (rank + 1) 0 ne ∙ inv j below
      ∙ sym (count_by_more_no (λ x. x == j) jobs i 0 h (ne_eqb (get_or jobs i 0) j (λ e. ne (sym e ∙ sym is))))
]

pub ranked : (jobs ranks new : List ℕ) (i job rank v : ℕ) → length ranks ≡ i → job ≡ get_or jobs i 0 → rank ≡ count_by (λ x. x == job) (take i jobs)
    → ((w : ℕ) → w < i → slice_index_or ranks w 0 ≡ rank_in jobs w) → new ≡ ranks ++ rank ∷ [] → v < i + 1 → slice_index_or new v 0 ≡ rank_in jobs v
ranked jobs ranks new i job rank v long is r inv more below = elim (cases_lt v i) [
  | inl l ↦ ap (λ xs. slice_index_or xs v 0) more ∙ get_or-append ranks (rank ∷ []) 0 v (omega (arith, l, long)) ∙ inv v l
  | inr g ↦
      let e : v ≡ i = omega (arith, g, below) in
      let f : v ≡ length ranks = omega (arith, e, long) in
      ap (λ xs. slice_index_or xs v 0) more ∙ ap (λ w. slice_index_or (ranks ++ rank ∷ []) w 0) f ∙ get_or-append_seam ranks rank [] 0 ∙ r
      ∙ ap (λ j. count_by (λ x. x == j) (take i jobs)) is ∙ ap (rank_in jobs) (sym e)
]

-- Where a process stands: its job's processes stand together, and its rank counts those before it.
use Rattle.std.proofs.Common.{◌≡◌, ◌∙◌, ap, sym, subst, refl, ℕ, zero, suc, ◌+◌, ◌<◌, ◌≤◌, List, [], ◌∷◌, Bool, true, false, cond, Some, length, map, get_or, arith, true≢false}
use Rattle.std.specs.Prelude.{◌==◌, not, slice_get}
use Rattle.std.specs.List.{position_or_len}
use Rattle.std.specs.List.Sorted.{IsNonDecreasingBy}
use Rattle.std.proofs.lemmas.List.{length-map}
use borrow.Author.Tests.{eqb-true, ne_eqb}
use Rattle.wire_reader.specs.FirstPass.{Started, Declared}
use Rattle.wire_reader.specs.Reads.{is_proc}
use Rattle.wire_reader.specs.Within.{IsDeclared}
use Rattle.wire_reader.specs.Drafted.{started_of}
use Rattle.wire_reader.specs.declared.draft.Started.{Started as Building}
use Rattle.wire_lines.proofs.Colon.{and_left, and_right}
use Rattle.wire_reader.proofs.Changed.{first_run}
use Rattle.wire_reader.proofs.Ranked.{JobsFrom, RanksFrom, IsGood, run_good, with_one, counted_once}

pub declared_good : (d : Declared) → IsDeclared d → IsGood d
declared_good d declared =
    let run = first_run declared.0 declared.1 declared.2 d declared.3 in
    run_good declared.0 run.0 run.1 d run.2

job_least : (m : ℕ) (ps : List Started) (k : ℕ) (p : Started) → JobsFrom m ps → slice_get ps k ≡ Some p → m ≤ p.job
job_least m [] k p h at = absurd (cc)
job_least m (x ∷ ps) zero p h at = let same : x ≡ p = cc in subst (λ y. m ≤ y.job) same h.0
job_least m (x ∷ ps) (suc k) p h at =
    let here = h.0 in
    let rest = job_least x.job ps k p h.1 at in
    omega arith

counted_other : (n : ℕ → ℕ) (job other : ℕ) → (job ≡ other → ⊥) → with_one n other job ≡ n job
counted_other n job other apart = rw (ne_eqb job other apart) refl

-- where the processes below a job's are the first so many, the ranks of the job's count on from there
stands : (m : ℕ) (n : ℕ → ℕ) (ps : List Started) (first k : ℕ) (p : Started) → JobsFrom m ps → RanksFrom n ps → slice_get ps k ≡ Some p
    → ((i : ℕ) (q : Started) → i < first → slice_get ps i ≡ Some q → q.job < p.job)
    → ((i : ℕ) (q : Started) → first ≤ i → slice_get ps i ≡ Some q → p.job ≤ q.job) → k + n p.job ≡ first + p.rank
stands m n [] first k p jobs ranks at below above = absurd (cc)
stands m n (x ∷ ps) zero zero p jobs ranks at below above =
    let same : x ≡ p = cc in
    let rank : p.rank ≡ n p.job = subst (λ y. y.rank ≡ n y.job) same ranks.0 in
    omega arith
stands m n (x ∷ ps) zero (suc k) p jobs ranks at below above =
    let least = above zero x (omega arith) refl in
    let most = job_least x.job ps k p jobs.1 at in
    let same : p.job ≡ x.job = omega arith in
    let once = counted_once n p.job x.job same in
    let rest = stands x.job (with_one n x.job) ps zero k p jobs.1 ranks.1 at (λ i q lt h. absurd (omega arith)) (λ i q le h. above (suc i) q (omega arith) h) in
    omega arith
stands m n (x ∷ ps) (suc first) zero p jobs ranks at below above =
    let same : x ≡ p = cc in
    let less = subst (λ y. y.job < p.job) same (below zero x (omega arith) refl) in
    absurd (omega arith)
stands m n (x ∷ ps) (suc first) (suc k) p jobs ranks at below above =
    let less = below zero x (omega arith) refl in
    let none = counted_other n p.job x.job (λ e. omega arith) in
    let rest = stands x.job (with_one n x.job) ps first k p jobs.1 ranks.1 at (λ i q lt h. below (suc i) q (omega arith) h) (λ i q le h. above (suc i) q (omega arith) h) in
    omega arith

-- what a list holds, moved to what is seen of it
pub seen_at : (bs : List Building) (k : ℕ) (p : Started) → slice_get (map started_of bs) k ≡ Some p → (k < length bs) × ((b : Building) → started_of (get_or bs k b) ≡ p)
seen_at [] k p at = absurd (cc)
seen_at (x ∷ bs) zero p at = (omega arith, λ b. cc)
seen_at (x ∷ bs) (suc k) p at = let r = seen_at bs k p at in (let s = r.0 in omega arith, r.1)

-- jobs rise
jobs_rise : (m : ℕ) (bs : List Building) → JobsFrom m (map started_of bs) → IsNonDecreasingBy (λ (p : Building). p.job) bs
jobs_rise m [] h i j b le lt = absurd (omega arith)
jobs_rise m (x ∷ bs) h zero zero b le lt = omega arith
jobs_rise m (x ∷ bs) h zero (suc j) b le lt = rest_least x.job bs j b h.1 (omega arith)
  where
    rest_least : (m : ℕ) (bs : List Building) (j : ℕ) (b : Building) → JobsFrom m (map started_of bs) → j < length bs → m ≤ (get_or bs j b).job
    rest_least m [] j b h lt = absurd (omega arith)
    rest_least m (x ∷ bs) zero b h lt = h.0
    rest_least m (x ∷ bs) (suc j) b h lt = let here = h.0 in let rest = rest_least x.job bs j b h.1 (omega arith) in omega arith
jobs_rise m (x ∷ bs) h (suc i) zero b le lt = absurd (omega arith)
jobs_rise m (x ∷ bs) h (suc i) (suc j) b le lt = jobs_rise x.job bs h.1 i j b (omega arith) (omega arith)

pub declared_rise : (d : Declared) (bs : List Building) → IsDeclared d → d.processes ≡ map started_of bs → IsNonDecreasingBy (λ (p : Building). p.job) bs
declared_rise d bs declared is = jobs_rise 0 bs (subst (JobsFrom 0) is (declared_good d declared).together)

-- the place of a process, from that of the first of its job
pub place_is : (d : Declared) (bs : List Building) (job first k : ℕ) (p : Started) → IsDeclared d → d.processes ≡ map started_of bs → slice_get (map started_of bs) k ≡ Some p → p.job ≡ job
    → ((i : ℕ) (b : Building) → i < first → (get_or bs i b).job < job) → ((i : ℕ) (b : Building) → first ≤ i → i < length bs → job ≤ (get_or bs i b).job) → first + p.rank ≡ k
place_is d bs job first k p declared is at same below above =
    let good = declared_good d declared in
    let all = stands 0 (λ j. 0) (map started_of bs) first k p (subst (JobsFrom 0) is good.together) (subst (RanksFrom (λ j. 0)) is good.ranked) at
    (λ i q lt h. let r = seen_at bs i q h in let low = below i (any bs i r.0) lt in let job_is = ap (λ (x : Started). x.job) (r.1 (any bs i r.0)) in omega arith)
    (λ i q le h. let r = seen_at bs i q h in let high = above i (any bs i r.0) le r.0 in let job_is = ap (λ (x : Started). x.job) (r.1 (any bs i r.0)) in omega arith) in
    omega arith
  where
    any : (xs : List Building) (i : ℕ) → i < length xs → Building
    any [] i lt = absurd (omega arith)
    any (x ∷ xs) i lt = x

module _ (f : Started → Bool) where
  -- where none passes
  position_none : (ps : List Started) → ((k : ℕ) (p : Started) → slice_get ps k ≡ Some p → f p ≡ false) → position_or_len f ps ≡ length ps
  position_none [] h = refl
  position_none (x ∷ ps) h =
      let here : f x ≡ false = h zero x refl in
      let rest = position_none ps (λ k p at. h (suc k) p at) in
      rw here (omega arith)

  -- where one alone passes
  position_one : (ps : List Started) (m : ℕ) (p : Started) → slice_get ps m ≡ Some p → f p ≡ true → ((k : ℕ) (q : Started) → slice_get ps k ≡ Some q → f q ≡ true → k ≡ m) → position_or_len f ps ≡ m
  position_one [] m p at h only = absurd (cc)
  position_one (x ∷ ps) zero p at h only = let same : x ≡ p = cc in let here : f x ≡ true = ap f same ∙ h in rw here refl
  position_one (x ∷ ps) (suc m) p at h only =
      let rest = position_one ps m p at h (λ k q there passes. let e = only (suc k) q there passes in omega arith) in
      elim (f x) as (λ t. f x ≡ t → cond (not t) (1 + position_or_len f ps) 0 ≡ suc m) [
        | true ↦ λ e. let other = only zero x refl e in absurd (omega arith)
        | false ↦ λ e. omega arith
      ] refl

-- the only place where a process of a job and a rank may stand
abbrev IsOnlyPlace : List Started → ℕ → ℕ → ℕ → Type 0
IsOnlyPlace ps job rank m = (k : ℕ) (p : Started) → slice_get ps k ≡ Some p → p.job ≡ job → p.rank ≡ rank → k ≡ m

is_job : (job rank : ℕ) (p : Started) → is_proc job rank p ≡ true → p.job ≡ job
is_job job rank p h = eqb-true p.job job (and_left (p.job == job) (p.rank == rank) h)

is_rank : (job rank : ℕ) (p : Started) → is_proc job rank p ≡ true → p.rank ≡ rank
is_rank job rank p h = eqb-true p.rank rank (and_right (p.job == job) (p.rank == rank) h)

position_found : (ps : List Started) (job rank m : ℕ) (p : Started) → IsOnlyPlace ps job rank m → slice_get ps m ≡ Some p → is_proc job rank p ≡ true → position_or_len (is_proc job rank) ps ≡ m
position_found ps job rank m p only at h = position_one (is_proc job rank) ps m p at h (λ k q there passes. only k q there (is_job job rank q passes) (is_rank job rank q passes))

position_missed : (ps : List Started) (job rank m : ℕ) → IsOnlyPlace ps job rank m → ((p : Started) → slice_get ps m ≡ Some p → is_proc job rank p ≡ false) →
    position_or_len (is_proc job rank) ps ≡ length ps
position_missed ps job rank m only none = position_none (is_proc job rank) ps each
  where
    each : (k : ℕ) (p : Started) → slice_get ps k ≡ Some p → is_proc job rank p ≡ false
    each k p at = elim (is_proc job rank p) as (λ t. is_proc job rank p ≡ t → t ≡ false) [
      | true ↦ λ e. absurd (true≢false (sym e ∙ none p (ap (λ n. slice_get ps n) (sym (only k p at (is_job job rank p e) (is_rank job rank p e))) ∙ at)))
      | false ↦ λ e. refl
    ] refl

get_at : (bs : List Building) (k : ℕ) (b : Building) → k < length bs → b ≡ get_or bs k b → slice_get (map started_of bs) k ≡ Some (started_of b)
get_at [] k b lt is = absurd (omega arith)
get_at (x ∷ bs) zero b lt is = ap (λ y. Some (started_of y)) (sym is)
get_at (x ∷ bs) (suc k) b lt is = get_at bs k b (omega arith) is

module _ (bs : List Building) (job rank first : ℕ) (each : (k : ℕ) (p : Started) → slice_get (map started_of bs) k ≡ Some p → p.job ≡ job → first + p.rank ≡ k) where
  only : IsOnlyPlace (map started_of bs) job rank (first + rank)
  only k p at same is = sym (each k p at same) ∙ ap (λ r. first + r) is

  module _ (b : Building) (lt : first + rank < length bs) (is : b ≡ get_or bs (first + rank) b) where
    -- the process there is the one
    pub stands_there : is_proc job rank (started_of b) ≡ true → first + rank ≡ position_or_len (is_proc job rank) (map started_of bs)
    stands_there h = sym (position_found (map started_of bs) job rank (first + rank) (started_of b) only (get_at bs (first + rank) b lt is) h)

    -- it is another
    pub stands_nowhere : is_proc job rank (started_of b) ≡ false → length bs ≡ position_or_len (is_proc job rank) (map started_of bs)
    stands_nowhere h =
        sym (position_missed (map started_of bs) job rank (first + rank) only
        (λ p at. let same : started_of b ≡ p = (let e = get_at bs (first + rank) b lt is in cc) in ap (is_proc job rank) (sym same) ∙ h)
        ∙ length-map bs started_of)

  -- there is none
  pub stands_past : length bs ≤ first + rank → length bs ≡ position_or_len (is_proc job rank) (map started_of bs)
  stands_past le =
      sym (position_missed (map started_of bs) job rank (first + rank) only (λ p at. let r = seen_at bs (first + rank) p at in absurd (let s = r.0 in omega arith))
      ∙ length-map bs started_of)

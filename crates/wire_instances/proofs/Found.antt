-- What is found in the tables of an instance.
use Rattle.std.proofs.Common.{◌≡◌, ◌∙◌, ap, sym, refl, ℕ, zero, suc, ◌+◌, ◌<◌, ◌^◌, ◌≤◌, Bool, true, replicate, List, [], ◌∷◌, length, map, get_or, arith}
use Rattle.std.specs.Prelude.{slice_get, slice_index_or, sum_by, nat_lt, ◌&&◌}
use Rattle.std.specs.List.{list_all}
use Rattle.std.proofs.lemmas.Bool.{and_parts}
use Rattle.std.proofs.lemmas.Bool.Decides.{nat_tests}
use Rattle.std.proofs.lemmas.List.{get_or-map, length-map}
use Rattle.wire_pattern.specs.declared.pattern.Job.{Job as CodeJob}
use Rattle.wire_pattern.specs.Pattern.{Pattern, Role}
use Rattle.wire_pattern.specs.Lawful.{IsSoundPattern}
use Rattle.wire_pattern.specs.Views.{job_by}
use Rattle.wire_pattern.specs.Instances.{Cast, IsCast, process_count, job_at, job_in, job_name, roles_from}
use Rattle.wire_instances.proofs.Groups.{length_roles}
use Rattle.wire_instances.proofs.Takes.{all_append}
use Rattle.wire_instances.specs.Tables.{AreTables, first_of, jobs_by, rank_in}

-- the job of a process is that of its role
pub job_found : (p : Pattern) (cast : Cast) (v : ℕ) → v < process_count cast → job_in (slice_get p.roles (slice_index_or (roles_from 0 cast.sizes) v 0)) ≡ job_at p cast v
job_found p cast v h =
    sym (get_or-map (λ role. job_in (slice_get p.roles role)) (roles_from 0 cast.sizes) v 0 0 (omega (arith, h, length_roles 0 cast.sizes)))

-- the name of a job, as the code has it
pub name_found : (p : Pattern) (jobs : List CodeJob) (n : ℕ) (job : CodeJob) → map job_by jobs ≡ p.jobs → n < length jobs → job ≡ get_or jobs n job → job.name.items ≡ job_name p n
name_found p jobs n job is h at =
    ap (λ j. j.name.items) at
    ∙ sym (get_or-map (λ j. j.name) (map job_by jobs) n (job_by job) [] (omega (arith, h, length-map jobs job_by)) ∙ ap (λ j. j.name) (get_or-map job_by jobs n job (job_by job) h))
    ∙ ap (λ js. slice_index_or (map (λ j. j.name) js) n []) is

pub no_name : (p : Pattern) (jobs : List CodeJob) (n : ℕ) → map job_by jobs ≡ p.jobs → (n < length jobs → ⊥) → [] ≡ job_name p n
no_name p jobs n is h =
    sym (past_end (map (λ j. j.name) (map job_by jobs)) n (λ l. h (omega (arith, l, length-map (map job_by jobs) (λ j. j.name), length-map jobs job_by))))
    ∙ ap (λ js. slice_index_or (map (λ j. j.name) js) n []) is
  where
    past_end : (xs : List (List ℕ)) (i : ℕ) → (i < length xs → ⊥) → slice_index_or xs i [] ≡ []
    past_end [] i h = refl
    past_end (x ∷ xs) zero h = absurd (h (omega arith))
    past_end (x ∷ xs) (suc i) h = past_end xs i (λ l. h (omega (arith, l)))

pub lt_from : (a b : ℕ) → nat_lt a b ≡ true → a < b
lt_from a b h = grind (arith, nat_tests)

to_lt : (a b : ℕ) → a < b → nat_lt a b ≡ true
to_lt a b h = grind (arith, nat_tests)

all_copies : (p : ℕ → Bool) (n x : ℕ) → p x ≡ true → list_all p (replicate n x) ≡ true
all_copies p zero x h = refl
all_copies p (suc n) x h = ap (λ b. b && list_all p (replicate n x)) h ∙ all_copies p n x h

roles_below : (m n : ℕ) (sizes : List ℕ) → n + length sizes ≤ m → list_all (λ r. nat_lt r m) (roles_from n sizes) ≡ true
roles_below m n [] h = refl
roles_below m n (size ∷ sizes) h =
    all_append (λ r. nat_lt r m) (replicate size n) (roles_from (suc n) sizes) (all_copies (λ r. nat_lt r m) size n (to_lt n m (omega (arith, h)))) (roles_below m (suc n) sizes (omega (arith, h)))

pub at_all : (p : ℕ → Bool) (xs : List ℕ) (i : ℕ) → list_all p xs ≡ true → i < length xs → p (slice_index_or xs i 0) ≡ true
at_all p (x ∷ xs) zero h l = (and_parts (p x) (list_all p xs) h).0
at_all p (x ∷ xs) (suc i) h l = at_all p xs i (and_parts (p x) (list_all p xs) h).1 (omega (arith, l))
at_all p [] i h l = absurd (omega (arith, l))

job_below : (jobs : ℕ) (roles : List Role) (r : ℕ) → list_all (λ role. nat_lt role.job jobs) roles ≡ true → r < length roles → job_in (slice_get roles r) < jobs
job_below jobs (x ∷ xs) zero h l = lt_from x.job jobs (and_parts (nat_lt x.job jobs) (list_all (λ role. nat_lt role.job jobs) xs) h).0
job_below jobs (x ∷ xs) (suc r) h l = job_below jobs xs r (and_parts (nat_lt x.job jobs) (list_all (λ role. nat_lt role.job jobs) xs) h).1 (omega (arith, l))
job_below jobs [] r h l = absurd (omega (arith, l))

-- the job of each process is there
pub jobs_there : (p : Pattern) (sizes numbers : List ℕ) (roles : List Role) (jobs : ℕ) → IsSoundPattern p → length sizes ≡ length p.roles → roles ≡ p.roles → numbers ≡ roles_from 0 sizes
    → jobs ≡ length p.jobs → (v : ℕ) → v < length numbers → job_in (slice_get roles (slice_index_or numbers v 0)) < jobs
jobs_there p sizes numbers roles jobs sound sized r n j v h =
    let low : slice_index_or numbers v 0 < length sizes =
    ap_lt (sym (ap (λ xs. slice_index_or xs v 0) n))
    (lt_from _ (length sizes) (at_all (λ m. nat_lt m (length sizes)) (roles_from 0 sizes) v (roles_below (length sizes) 0 sizes (omega arith)) (omega (arith, h, ap length n)))) in
    let below = job_below (length p.jobs) p.roles (slice_index_or numbers v 0) sound.in_jobs (omega (arith, low, sized)) in
    omega (arith, below, j, ap (λ rs. job_in (slice_get rs (slice_index_or numbers v 0))) r)
  where
    ap_lt : {a b m : ℕ} → a ≡ b → a < m → b < m
    ap_lt e l = omega (arith, e, l)

pub few_processes : (sizes numbers : List ℕ) → numbers ≡ roles_from 0 sizes → sum_by (λ (size : ℕ). size) sizes < 2 ^ 31 → length numbers < 2 ^ 31
few_processes sizes numbers is few = omega (arith, few, ap length is, length_roles 0 sizes)

-- the tables of an instance
pub tables : (p : Pattern) (cast : Cast) (sizes others numbers firsts roles ranks : List ℕ) (declared : List Role) → IsCast p cast → IsSoundPattern p → sizes ≡ cast.sizes → others ≡ cast.sizes
    → declared ≡ p.roles → length firsts ≡ length sizes + 1 → ((role : ℕ) → role ≤ length sizes → slice_index_or firsts role 0 ≡ first_of sizes role) → roles ≡ roles_from 0 others
    → numbers ≡ roles → length ranks ≡ length numbers → ((v : ℕ) → v < length numbers → slice_index_or ranks v 0 ≡ rank_in (jobs_by declared numbers) v)
    → AreTables p cast firsts roles ranks
tables p cast sizes others numbers firsts roles ranks declared of sound s o d fc fs rs n rc rk =
    let is : numbers ≡ roles_from 0 cast.sizes = n ∙ rs ∙ ap (roles_from 0) o in
    let long : length numbers ≡ process_count cast = ap length is ∙ length_roles 0 cast.sizes in
    record {
      is_cast = of;
      is_sound = sound;
      first_count = omega (arith, fc, ap length s);
      are_firsts = λ role l. fs role (omega (arith, l, ap length s)) ∙ ap (λ xs. first_of xs role) s;
      are_roles = rs ∙ ap (roles_from 0) o;
      rank_count = rc ∙ long;
      are_ranks = λ v l. rk v (omega (arith, l, long)) ∙ ap (λ js. rank_in js v) (ap (λ ns. jobs_by declared ns) is ∙ ap (λ ds. jobs_by ds (roles_from 0 cast.sizes)) d);
    }

-- What each process of a cast of a sound pattern has: a role, a job with a name, a rank.
use Rattle.std.proofs.Common.{◌≡◌, sym, subst, ℕ, zero, suc, ◌<◌, ◌≤◌, List, [], ◌∷◌, map, length, Bool, true, Some, slice_get, slice_index_or, IsTrue, arith}
use Rattle.std.specs.Prelude.{◌==◌, nat_lt}
use Rattle.std.specs.List.{list_all}
use Rattle.std.proofs.lemmas.Option.{none-some, same_Some}
use borrow.Author.Tests.{ltb-true}
use Rattle.wire_types.specs.Said.{is_name}
use Rattle.wire_runs.proofs.Lists.{slice_get-map_kept}
use Rattle.wire_lines.proofs.Colon.{and_left, and_right}
use Rattle.wire_pattern.specs.Pattern.{Role, JobLine, Pattern}
use Rattle.wire_pattern.specs.Instances.{Cast, IsCast, process_count, cast_of, job_in, process_jobs, job_at, rank_at, job_name}
use Rattle.wire_pattern.specs.Lawful.{is_plain_name, IsSoundPattern}
use Rattle.wire_instance_laws.proofs.Roles.{count_is, roles_rise, role_below, stands, index_at, counted_low}

pub all_at : {A : Type 0} (f : A → Bool) (xs : List A) (n : ℕ) (x : A) → list_all f xs ≡ true → slice_get xs n ≡ Some x → f x ≡ true
all_at f [] n x h at = absurd (none-some x at)
all_at f (y ∷ ys) zero x h at = subst (λ z. f z ≡ true) (same_Some _ _ at) (and_left _ _ h)
all_at f (y ∷ ys) (suc n) x h at = all_at f ys n x (and_right (f y) _ h) at

-- a name that is there
pub named : (f : List ℕ → Bool) (jobs : List JobLine) (n : ℕ) → list_all (λ (j : JobLine). f j.name) jobs ≡ true → n < length jobs → f (slice_index_or (map (λ (j : JobLine). j.name) jobs) n []) ≡ true
named f [] n h low = absurd (omega (arith, low))
named f (j ∷ jobs) zero h low = and_left _ _ h
named f (j ∷ jobs) (suc n) h low = named f jobs n (and_right (f j.name) _ h) (omega (arith, low))

pub index_low : (k : ℕ) (xs : List ℕ) (n m : ℕ) → list_all (λ x. nat_lt x k) xs ≡ true → k ≤ m → 0 < m → slice_index_or xs n 0 < m
index_low k [] n m h le some = some
index_low k (x ∷ xs) zero m h le some = let low : x < k = ltb-true x k (and_left _ _ h) in omega (arith, low, le)
index_low k (x ∷ xs) (suc n) m h le some = index_low k xs n m (and_right (nat_lt x k) _ h) le some

module _ (p : Pattern) (cast : Cast) where
  pub job_is : (q r : ℕ) → slice_get (cast_of cast).roles q ≡ Some r → job_at p cast q ≡ job_in (slice_get p.roles r)
  job_is q r at = index_at (process_jobs p cast) q (job_in (slice_get p.roles r)) 0 (slice_get-map_kept (λ (role : ℕ). job_in (slice_get p.roles role)) (cast_of cast).roles q r at)

  pub rank_low : (q : ℕ) → rank_at p cast q ≤ q
  rank_low q = counted_low (λ (job : ℕ). job == job_at p cast q) q (process_jobs p cast)

  module _ (sound : IsSoundPattern p) (is_cast : IsCast p cast) where
    pub role_at : (q : ℕ) → q < process_count cast → (r : ℕ) × (slice_get (cast_of cast).roles q ≡ Some r)
    role_at q low = stands (cast_of cast).roles q (subst (λ n. q < n) (sym (count_is cast)) low)

    pub role_low : (q r : ℕ) → slice_get (cast_of cast).roles q ≡ Some r → r < length p.roles
    role_low q r at = subst (λ n. r < n) is_cast.sized (role_below 0 (length cast.sizes) (cast_of cast).roles q r (roles_rise cast) at)

    pub job_of_role : (r : ℕ) → r < length p.roles → job_in (slice_get p.roles r) < length p.jobs
    job_of_role r low =
        let role = stands p.roles r low in
        subst (λ o. job_in o < length p.jobs) (sym role.1) (ltb-true role.0.job (length p.jobs) (all_at (λ (x : Role). nat_lt x.job (length p.jobs)) p.roles r role.0 sound.in_jobs role.1))

    pub job_low : (q : ℕ) → q < process_count cast → job_at p cast q < length p.jobs
    job_low q low =
        let r = role_at q low in
        subst (λ j. j < length p.jobs) (sym (job_is q r.0 r.1)) (job_of_role r.0 (role_low q r.0 r.1))

    pub name_plain : (j : ℕ) → j < length p.jobs → is_plain_name (job_name p j) ≡ true
    name_plain j low = named is_plain_name p.jobs j sound.job_names low

    pub name_lawful : (j : ℕ) → j < length p.jobs → IsTrue (is_name (job_name p j))
    name_lawful j low = and_left _ _ (name_plain j low)

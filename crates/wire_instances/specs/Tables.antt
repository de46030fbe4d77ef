-- Sizes of a cast; and, for private contracts alone, what the tables of an instance hold.
use Rattle.std.specs.Prelude.{◌≡◌, ◌≤◌, ◌<◌, ◌==◌, ◌&&◌, ℕ, suc, Bool, true, false, not, nat_le, nat_lt, List}
use Rattle.std.specs.Prelude.{length, take, sum_by, map, count_by}
use Rattle.std.specs.Prelude.{slice_get, slice_index_or, Some}
use Rattle.wire_runs.specs.Patterns.{Cast, Turns, Round, Chosen}
use Rattle.wire_pattern.specs.Pattern.{Pattern, Role}
use Rattle.wire_pattern.specs.Lawful.{IsSoundPattern}
use Rattle.wire_pattern.specs.Planned.{single_in}
use Rattle.wire_pattern.specs.Instances as spec
use Rattle.wire_pattern.specs.Instances.{IsCast, process_count, roles_from, job_in, rank_at}

-- a size for each role, 1 for a single one
pub record AreSizes (roles : List Role) (sizes : List ℕ) : Type 0 where
  pub sized : length sizes ≡ length roles
  pub only : (role : ℕ) → single_in (slice_get roles role) ≡ true → slice_get sizes role ≡ Some 1

-- the number of the first process of a role
abbrev pub first_of : List ℕ → ℕ → ℕ
first_of sizes role = sum_by (λ (size : ℕ). size) (take role sizes)

-- a pattern with a cast of it
pub record Scene : Type 0 where
  pub pattern : Pattern
  pub cast : spec.Cast

-- the jobs of processes of these roles
abbrev pub jobs_by : List Role → List ℕ → List ℕ
jobs_by roles numbers = map (λ role. job_in (slice_get roles role)) numbers

-- how many processes before v have the job of v
abbrev pub rank_in : List ℕ → ℕ → ℕ
rank_in jobs v = count_by (λ job. job == slice_index_or jobs v 0) (take v jobs)

-- of each role its first process, and of each process its role and its rank in its job
pub record AreTables (p : Pattern) (cast : spec.Cast) (firsts roles ranks : List ℕ) : Type 0 where
  pub is_cast : IsCast p cast
  pub is_sound : IsSoundPattern p
  pub first_count : length firsts ≡ suc (length cast.sizes)
  pub are_firsts : (role : ℕ) → role ≤ length cast.sizes → slice_index_or firsts role 0 ≡ first_of cast.sizes role
  pub are_roles : roles ≡ roles_from 0 cast.sizes
  pub rank_count : length ranks ≡ process_count cast
  pub are_ranks : (v : ℕ) → v < process_count cast → slice_index_or ranks v 0 ≡ rank_at p cast v

-- whether a loop goes round the processes from first up to end, and is the caller v's, one of these
abbrev pub goes_round : Turns → ℕ → ℕ → ℕ → Bool
goes_round Round first end v = nat_le first v && nat_lt v end
goes_round _ first end v = false

-- whether a loop that isn't `cyclic` takes a turn for e
abbrev pub takes : Cast → ℕ → ℕ → Turns → ℕ → Bool
takes cast v i Chosen e = not (e == v) && cast.chosen v i e
takes cast v i _ e = not (e == v)

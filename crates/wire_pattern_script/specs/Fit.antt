-- What holds of all that lines declare: for the contracts of private functions. What is read is said in Reads.
use Rattle.std.specs.Prelude.{◌≡◌, ◌≤◌, ℕ, ◌==◌, ◌&&◌, ◌||◌, Bool, true, not, nat_lt, nat_le, List, [], ◌∷◌, map, length}
use Rattle.std.specs.Prelude.{Option, Some, None}
use Rattle.std.specs.List.{list_all}
use Rattle.wire_scripts.specs.Apart.{AreDistinct}
use Rattle.wire_pattern.specs.Lawful.{is_plain_name}
use Rattle.wire_pattern_lines.specs.Said.{is_lawful_call, names_each, is_commit}
use Rattle.wire_pattern_script.specs.FirstPass.{LocatedCall, LoopLines, StepLines, OnceLine, LoopOf, RoleLines, Declared}
use Rattle.wire_pattern_script.specs.FirstPass.{job_names, role_names, job_limit, role_limit}

-- a call outside of loops, and in one
abbrev pub is_fit_line : LocatedCall → Bool
is_fit_line line = is_lawful_call line.1 && not (names_each line.1)

abbrev pub is_fit_turn : LocatedCall → Bool
is_fit_turn line = is_lawful_call line.1 && (is_commit line.1 || names_each line.1)

abbrev pub is_fit_step : StepLines → Bool
is_fit_step (OnceLine line) = is_fit_line line
is_fit_step (LoopOf l) = list_all is_fit_turn l.lines

abbrev pub is_fit_loop : Option LoopLines → Bool
is_fit_loop None = true
is_fit_loop (Some l) = list_all is_fit_turn l.lines

abbrev pub has_fit_steps : RoleLines → Bool
has_fit_steps role = list_all is_fit_step role.steps

abbrev pub has_least : RoleLines → Bool
has_least role = nat_le role.least 9 && (not role.single || role.least == 1)

-- numbers that rise from one, or stay
abbrev pub are_rising : ℕ → List ℕ → Bool
are_rising n [] = true
are_rising n (m ∷ ms) = nat_le n m && are_rising m ms

abbrev pub role_jobs : Declared → List ℕ
role_jobs d = map (λ r. r.job) d.roles

pub record IsFit (d : Declared) : Type 0 where
  pub few_jobs : length d.jobs ≤ job_limit
  pub few_roles : length d.roles ≤ role_limit
  pub named_jobs : list_all is_plain_name (job_names d) ≡ true
  pub jobs_apart : AreDistinct (job_names d)
  pub named_roles : list_all is_plain_name (role_names d) ≡ true
  pub roles_apart : AreDistinct (role_names d)
  pub in_jobs : list_all (λ j. nat_lt j (length d.jobs)) (role_jobs d) ≡ true
  pub rising : are_rising 0 (role_jobs d) ≡ true
  pub least : list_all has_least d.roles ≡ true
  pub steps : list_all has_fit_steps d.roles ≡ true
  pub open_lines : is_fit_loop d.open_loop ≡ true

-- One more process is looked at for whether its job is broken.
use Rattle.std.proofs.Common.{◌≡◌, ◌∙◌, ap, sym, refl, inl, inr, ℕ, ◌+◌, ◌<◌, ◌==◌, List, [], ◌∷◌, ◌++◌, Bool, true, false, not, length, drop, drop-cons, get_or, add-one}
use Rattle.std.proofs.lemmas.Bool.Decides.{eqb_tells}
use Rattle.std.proofs.lemmas.List.Folds.{list_any-append}
use Rattle.std.specs.Prelude.{◌||◌, ◌&&◌, if◌then◌else◌}
use Rattle.std.specs.List.{list_all, list_any}
use Rattle.wire_runs.specs.Fences.{is_member}
use Rattle.wire_scripts.specs.Scripts.{Process}
use Rattle.wire_scripts.specs.Canonical.{members_from}

-- the first of some numbers, which counts only where it is of the job
first_apart : (test : ℕ → Bool) (n : ℕ) (rest : List ℕ) (before here is_there : Bool) → is_there ≡ test n
    → ((before || (not is_there && here)) || not (list_all test rest)) ≡ (before || not (list_all test (if here then n ∷ rest else rest)))
first_apart test n rest true here is_there e = refl
first_apart test n rest false true true e = ap (λ b. not (b && list_all test rest)) e
first_apart test n rest false true false e = ap (λ b. not (b && list_all test rest)) e
first_apart test n rest false false true e = refl
first_apart test n rest false false false e = refl

-- the job of the process of number n is added where the process isn't in the set
pub one_process : (set : List ℕ) (processes : List Process) (n job its_job : ℕ) (before after is_there all : Bool) (process : Process) → n < length processes
    → process ≡ get_or processes n process
    → its_job ≡ process.job
    → is_there ≡ is_member set n
    → after ≡ (before || (not is_there && (its_job == job)))
    → (before || not (list_all (is_member set) (members_from n job (drop n processes)))) ≡ all
    → (after || not (list_all (is_member set) (members_from (n + 1) job (drop (n + 1) processes)))) ≡ all
one_process set processes n job its_job before after is_there all process there found its e now h =
    ap (λ b. b || not (list_all (is_member set) (members_from (n + 1) job (drop (n + 1) processes)))) (now ∙ ap (λ j. before || (not is_there && (j == job))) its)
    ∙ first_apart (is_member set) n (members_from (n + 1) job (drop (n + 1) processes)) before (process.job == job) is_there e
    ∙ ap (λ ps. before || not (list_all (is_member set) (members_from n job ps))) (sym opened)
    ∙ h
  where
    opened : drop n processes ≡ process ∷ drop (n + 1) processes
    opened = drop-cons processes n process there ∙ ap (λ m. get_or processes n process ∷ drop m processes) (sym (add-one n)) ∙ ap (λ p. p ∷ drop (n + 1) processes) (sym found)

or_false : (b : Bool) → b ≡ (b || false)
or_false true = refl
or_false false = refl

-- a job is in jobs with one more if it is that job or was there
pub with_one : (jobs now pushed : List ℕ) (one its_job job : ℕ) (is_there : Bool) → is_there ≡ false → now ≡ pushed → pushed ≡ jobs ++ its_job ∷ [] → its_job ≡ one
    → list_any (λ j. j == job) now ≡ (list_any (λ j. j == job) jobs || (not is_there && (one == job)))
with_one jobs now pushed one its_job job is_there e is more same =
    ap (list_any (λ j. j == job)) (is ∙ more ∙ ap (λ j. jobs ++ j ∷ []) same) ∙ list_any-append (λ j. j == job) jobs (one ∷ [])
    ∙ ap (λ b. list_any (λ j. j == job) jobs || b) (sym (or_false (one == job)) ∙ ap (λ b. not b && (one == job)) (sym e))

-- a job that is there needn't be added
pub there_already : (jobs slice : List ℕ) (one its_job job : ℕ) (is_there found : Bool) → is_there ≡ false → found ≡ true → found ≡ list_any (λ j. j == its_job) slice → slice ≡ jobs
    → its_job ≡ one
    → list_any (λ j. j == job) jobs ≡ (list_any (λ j. j == job) jobs || (not is_there && (one == job)))
there_already jobs slice one its_job job is_there found e h is read same = elim (eqb_tells one job) [
  | inl equal ↦ sym (there equal.1) ∙ ap (λ b. b || (not is_there && (one == job))) (there equal.1)
  | inr other ↦ or_false _ ∙ ap (λ b. list_any (λ j. j == job) jobs || b) (sym (ap (λ b. not b && (one == job)) e ∙ other.0))
]
  where
    there : one ≡ job → true ≡ list_any (λ j. j == job) jobs
    there equal = sym h ∙ is ∙ ap (list_any (λ j. j == its_job)) read ∙ ap (λ k. list_any (λ j. j == k) jobs) (same ∙ equal)

-- a process of the set breaks no job
pub not_broken : (before : Bool) (one job : ℕ) (is_there : Bool) → is_there ≡ true → before ≡ (before || (not is_there && (one == job)))
not_broken before one job is_there e = or_false before ∙ ap (λ b. before || (not b && (one == job))) (sym e)

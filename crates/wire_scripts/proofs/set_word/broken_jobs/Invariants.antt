use Rattle.std.proofs.Common.{◌≡◌, ◌==◌, ℕ, not, drop}
use Rattle.std.specs.Prelude.{◌||◌}
use Rattle.std.specs.List.{list_any, list_all}
use Rattle.wire_runs.specs.Fences.{is_member}
use Rattle.wire_scripts.specs.Scripts.{numbers_of}
use Rattle.wire_scripts.specs.Canonical.{members_from, is_whole}
use Rattle.wire_scripts.proofs.set_word.broken_jobs.Given as goal

abbrev pub invariant-loop-number : goal.invariant-loop-number
invariant-loop-number l = (job : ℕ) →
    (list_any (λ j. j == job) l.broken.items || not (list_all (is_member (numbers_of l.set)) (members_from l.number job (drop l.number l.process-items))))
    ≡ not (is_whole l.scripts.processes (numbers_of l.set) job)

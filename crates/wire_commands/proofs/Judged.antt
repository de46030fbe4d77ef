-- What a replay tells of its calls.
use Rattle.std.proofs.Common.{◌≡◌, ◌≢◌, ◌∙◌, ap, sym, subst, refl, ℕ, List, [], ◌∷◌, Option, None}
use Rattle.wire_types.specs.Outcome.{Ends}
use Rattle.wire_scripts.specs.Scripts.{Scripts}
use Rattle.wire_scripts.specs.Planned.{plan_of}
use Rattle.wire_runs.specs.Races.{IsSettled}
use Rattle.wire_runs.specs.Ends.{outcome}
use Rattle.wire_runs.proofs.PlainRun.{plain_runs}
use Rattle.wire_findings.specs.declared.finding.Finding.{Finding}
use Rattle.wire_core.specs.EndsAfter.{plain_ends}
use Rattle.wire_parallel_run.specs.Collect.{IsCompleteRun}
use Rattle.wire_command.specs.declared.ended.Ended.{Ended}
use Rattle.wire_command.specs.Ending.{ended_with}
use Rattle.wire_commands.specs.Complete.{TellsFailure, AlwaysFailsSo, TellsCalls}

-- a complete interleaving of a settled plan ends as the plain run does
same_ends : (s : Scripts) (order : List ℕ) (ends : Ends) → IsSettled (plan_of s) → IsCompleteRun s order ends → ends ≡ plain_ends s
same_ends s order ends settled complete =
    complete.told ∙ ap (outcome (plan_of s)) ((plain_runs (plan_of s)).is_the_end settled order complete.legal complete.ended)

pub fails_so : (s shown : Scripts) (ends : Ends) (failure : Option (List ℕ)) → IsSettled (plan_of s) → shown ≡ s → ends ≡ plain_ends s → TellsFailure shown ends failure → AlwaysFailsSo s failure
fails_so s shown ends failure settled same at told =
    let plainly : TellsFailure s (plain_ends s) failure = subst (λ e. TellsFailure s e failure) at (subst (λ t. TellsFailure t ends failure) same told) in
    record {
      plainly = plainly;
      always = λ order e complete. subst (λ x. TellsFailure s x failure) (sym (same_ends s order e settled complete)) plainly;
    }

-- where something is found, no call is told of
pub found_calls : (s : Scripts) (found counted : List Finding) (ended : Ended) → found ≢ [] → counted ≡ found → ended ≡ ended_with counted → TellsCalls s ended None
found_calls s [] counted ended some count ends = absurd (some refl)
found_calls s (f ∷ fs) counted ended some count ends = subst (λ e. TellsCalls s e None) (sym (ends ∙ ap ended_with count)) refl

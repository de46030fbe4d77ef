-- At the end of the plain run each call has come as far on every placing.
use Rattle.std.proofs.Common.{◌≡◌, ℕ, zero, suc, ◌-◌, List, [], ◌∷◌, ◌++◌, length, map, Option, Some, None, refl, sym, ap, ◌∙◌, arith, slice_get}
use Rattle.wire_types.specs.Replies.{bare}
use Rattle.wire_types.specs.declared.CallEnd.{CallEnd}
use Rattle.wire_types.specs.declared.CallEnd.TheVariants.{Replied}
use Rattle.wire_types.specs.declared.Reply.{Reply}
use Rattle.wire_types.specs.declared.Status.TheVariants as status
use Rattle.wire_runs.specs.Plan.{Plan, Process, Kind, Fixed, Call, CallPut, CallCommit, CallFence, CallGet, CallGetNow, CallPublish, CallLookup, CallLookupWait, CallUnpublish, CallUnpublishAll, CallFixed}
use Rattle.wire_runs.specs.Plan.{kinds, kinds_of, process_kinds, event_count}
use Rattle.wire_runs.specs.PlainRun.{plain_run}
use Rattle.wire_runs.specs.Step.{is_enabled, run}
use Rattle.wire_runs.specs.Ends.{replies_of, unanswered, process_calls, calls_of, row}
use Rattle.wire_runs.specs.Laws.{plain_end}
use Rattle.wire_runs.specs.Placings.{without_reply, IsPlacing}
use Rattle.wire_runs.specs.PlacingLaws.{how_far, SameProgressOnPlacements}
use Rattle.wire_runs.proofs.Ends.{gives, given_by, counted_run}
use Rattle.wire_runs.proofs.PlacingKeeps.{counts}
use Rattle.wire_runs.proofs.PlacingRuns.{run_alike, done_alike}

gives_blind : (k : Kind) → gives (Some k) ≡ gives (Some (without_reply k))
gives_blind (Fixed reply) = refl
gives_blind _ = refl

given_blind : (ks : List Kind) (n : ℕ) → given_by ks n ≡ given_by (map without_reply ks) n
given_blind [] n = refl
given_blind (k ∷ ks) zero = refl
given_blind (k ∷ ks) (suc n) = let first = gives_blind k in let rest = given_blind ks n in omega (arith, first, rest)

-- the events of calls give a reply for each call
all_given : (calls : List Call) → given_by (kinds_of calls) (length (kinds_of calls)) ≡ length calls
all_given [] = refl
all_given (CallPut key scope ∷ calls) = let rest = all_given calls in omega (arith, rest)
all_given (CallCommit ∷ calls) = let rest = all_given calls in omega (arith, rest)
all_given (CallFence members collect ∷ calls) = let rest = all_given calls in omega (arith, rest)
all_given (CallGet owner key ∷ calls) = let rest = all_given calls in omega (arith, rest)
all_given (CallGetNow owner key ∷ calls) = let rest = all_given calls in omega (arith, rest)
all_given (CallPublish name ∷ calls) = let rest = all_given calls in omega (arith, rest)
all_given (CallLookup name ∷ calls) = let rest = all_given calls in omega (arith, rest)
all_given (CallLookupWait name ∷ calls) = let rest = all_given calls in omega (arith, rest)
all_given (CallUnpublish name ∷ calls) = let rest = all_given calls in omega (arith, rest)
all_given (CallUnpublishAll ∷ calls) = let rest = all_given calls in omega (arith, rest)
all_given (CallFixed r ∷ calls) = let rest = all_given calls in omega (arith, rest)

given_in : (process : Option Process) → given_by (process_kinds process) (length (process_kinds process)) ≡ length (process_calls process)
given_in None = refl
given_in (Some process) = all_given process.calls

-- calls with as many replies have come as far, if those behind have
as_far : (replies others : List Reply) (rest behind : List CallEnd) → length replies ≡ length others → rest ≡ behind →
    map how_far (map Replied replies ++ rest) ≡ map how_far (map Replied others ++ behind)
as_far [] [] rest behind many same = ap (map how_far) same
as_far [] (other ∷ others) rest behind many same = absurd (omega (arith, many))
as_far (reply ∷ replies) [] rest behind many same = absurd (omega (arith, many))
as_far (reply ∷ replies) (other ∷ others) rest behind many same = ap (λ ends. Replied (bare status.Success) ∷ ends) (as_far replies others rest behind (omega (arith, many)) same)

module _ (plan other : Plan) (same : IsPlacing plan other) (p : ℕ) where
  given_same : (n : ℕ) → given_by (kinds plan p) n ≡ given_by (kinds other p) n
  given_same n = given_blind (kinds plan p) n ∙ ap (λ ks. given_by ks n) (same.same_calls p) ∙ sym (given_blind (kinds other p) n)

  calls_same : length (calls_of plan p) ≡ length (calls_of other p)
  unfolding event_count kinds
  calls_same =
      sym (given_in (slice_get plan.processes p)) ∙ ap (given_by (kinds plan p)) (counts plan other same p)
      ∙ given_same (event_count other p) ∙ given_in (slice_get other.processes p)

  replies_same : length (replies_of plan ((plain_end plan).replies p)) ≡ length (replies_of other ((plain_end other).replies p))
  replies_same =
      counted_run plan (plain_run plan) p ∙ ap (given_by (kinds plan p)) (done_alike plan other same p)
      ∙ given_same ((plain_end other).done p) ∙ sym (counted_run other (plain_run other) p)

  enabled_same : is_enabled plan (plain_end plan) p ≡ is_enabled other (plain_end other) p
  enabled_same = ((run_alike plan other same).runs (plain_run plan)).enabled p ∙ ap (λ w. is_enabled other (run other w) p) (run_alike plan other same).plain

  pub row_alike : map how_far (row plan (plain_end plan) p) ≡ map how_far (row other (plain_end other) p)
  row_alike =
      as_far (replies_of plan ((plain_end plan).replies p)) (replies_of other ((plain_end other).replies p)) _ _ replies_same
      (ap (λ ready. unanswered ready (length (calls_of plan p) - length (replies_of plan ((plain_end plan).replies p)))) enabled_same
      ∙ ap (λ n. unanswered (is_enabled other (plain_end other) p) (n - length (replies_of plan ((plain_end plan).replies p)))) calls_same
      ∙ ap (λ n. unanswered (is_enabled other (plain_end other) p) (length (calls_of other p) - n)) replies_same)

pub ends_alike : SameProgressOnPlacements
ends_alike = row_alike

-- What a run of a settled plan has done so far is what the plain run does.
use Rattle.std.proofs.Common.{◌≡◌, ℕ, List, take, get_or, sym, ap, ◌∙◌, subst, arith, take_at}
use Rattle.std.specs.Prelude.{slice_get}
use Rattle.std.proofs.lemmas.Option.{slice_get-get_or}
use Rattle.wire_runs.specs.Plan.{Plan}
use Rattle.wire_runs.specs.State.{Success, State}
use Rattle.wire_runs.specs.Step.{IsInterleaving, run_from, IsEnd, IsReachable}
use Rattle.wire_runs.specs.PlainRun.{plain_from}
use Rattle.wire_runs.specs.Races.{IsSettled}
use Rattle.wire_runs.specs.Laws.{plain_end, RepliesArePlain}
use Rattle.wire_runs.proofs.Length.{left_from}
use Rattle.wire_runs.proofs.PlainRun.{plain_is_run, plain_ends, plain_runs}
use Rattle.wire_runs.proofs.Known.{reachable_known}
use Rattle.wire_runs.proofs.Fates.{fates_tell}
use Rattle.wire_runs.proofs.Onward.{reached_on, done_on, Begin, replies_on}
use Rattle.wire_runs.proofs.Lists.{slice_get-append_kept}

-- from each state that a run can reach, a run goes on to the plain run's end
pub to_plain_end : (plan : Plan) → IsSettled plan → (s : State) → IsReachable plan s → (w : List ℕ) × IsInterleaving plan s w × (run_from plan s w ≡ plain_end plan)
to_plain_end plan settled s r =
    let left = left_from plan.processes s.done 0 in
    let w = plain_from plan left s in
    let legal = plain_is_run plan left s in
    let on = reached_on plan s w r legal in
    (w, legal, sym on.2 ∙ (plain_runs plan).is_the_end settled on.0 on.1 (subst (IsEnd plan) (sym on.2) (plain_ends plan left s (omega arith))))

more_there : (plan : Plan) → IsSettled plan → (s : State) → IsReachable plan s → (p : ℕ) → Begin s (plain_end plan) p
more_there plan settled s r p =
    let on = to_plain_end plan settled s r in
    let m = replies_on plan on.0 s p in
    (m.0, ap (λ (t : State). t.replies p) (sym on.2) ∙ m.1)

pub replies_are_plain : RepliesArePlain
replies_are_plain plan s settled r =
    let lengths = (reachable_known plan settled s r).lengths in
    record {
      done = λ p. (
          let on = to_plain_end plan settled s r in
          let up = done_on plan on.0 s p in
          let there = ap (λ (t : State). t.done p) on.2 in
          omega (arith, up, there));
      count = lengths;
      replies = λ p. (let m = more_there plan settled s r p in sym (ap (take (s.done p)) m.1 ∙ take_at (s.replies p) m.0 (s.done p) (lengths p)));
      fates = λ z fate d has. (
          let m = more_there plan settled s r z.proc in
          let some = slice_get-get_or (s.replies z.proc) z.at Success (let l = lengths z.proc in omega (arith, d, l)) in
          let a = get_or (s.replies z.proc) z.at Success in
          (a, ap (λ xs. slice_get xs z.at) m.1 ∙ slice_get-append_kept (s.replies z.proc) m.0 z.at a some, (fates_tell plan s settled r).answers z a fate some has));
    }

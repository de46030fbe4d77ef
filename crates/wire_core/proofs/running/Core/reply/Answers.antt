use Rattle.std.proofs.Common.{◌∙◌, ◌∷◌, [], ap, sym, Some}
use Rattle.wire_plan.specs.Kinds.{kind_of}
use Rattle.wire_runs.specs.State.{next_event}
use Rattle.wire_runs.specs.Sight.{get_now_sees}
use Rattle.wire_runs.specs.Step.{reply as answer}
use Rattle.wire_runs.specs.Ends.{given}
use Rattle.wire_core.specs.Seeing.{reply_to}
use Rattle.wire_core.proofs.Ranks.{seen_given}
use Rattle.wire_scripts.specs.Planned.{plan_of}
use Rattle.wire_runs.proofs.Basics.{process_within}
use Rattle.wire_core.specs.Course.{state_of}
use Rattle.wire_core.proofs.running.Core.reply.Goals as goal

pub see_key-requires : goal.see_key-requires
see_key-requires c = process_within (plan_of c.args.self.now.scripts) c.args.proc.number ((state_of c.args.self.now).done c.args.proc.number) (kind_of c.args.self.now.scripts.sets c.args.kind)
    c.requires

pub see_key_now-requires : goal.see_key_now-requires
see_key_now-requires c = process_within (plan_of c.args.self.now.scripts) c.args.proc.number ((state_of c.args.self.now).done c.args.proc.number) (kind_of c.args.self.now.scripts.sets c.args.kind)
    c.requires

pub returns-in-GetNow : goal.returns-in-GetNow
returns-in-GetNow c =
    let plan = plan_of c.args.self.now.scripts in
    let s = state_of c.args.self.now in
    let p = c.args.proc.number in
    let owner = c.in-GetNow.owner.number in
    ap (λ k. given plan (answer plan s (next_event s p) (Some (kind_of c.args.self.now.scripts.sets k)))) c.in-GetNow.is
    ∙ seen_given plan owner (get_now_sees plan s p (s.done p) owner c.in-GetNow.key)
    ∙ ap (λ v. reply_to v ∷ []) (sym c.see_key_now.ensures)
    ∙ ap (λ r. r ∷ []) (sym c.reply_to_get-in-GetNow.ensures)

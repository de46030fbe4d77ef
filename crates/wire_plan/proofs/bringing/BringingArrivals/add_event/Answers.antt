use Rattle.std.proofs.Common.{◌≡◌, ◌∙◌, ap, sym, Some}
use Rattle.std.proofs.lemmas.Bool.{true≢false}
use Rattle.std.proofs.lemmas.Option.{same_Some}
use Rattle.wire_runs.specs.Plan.{Arrive, set_of, kind_at}
use Rattle.wire_scripts.specs.Scripts.{set_at}
use Rattle.wire_scripts.specs.Planned.{plan_of}
use Rattle.wire_plan.specs.Index.{BringsData}
use Rattle.wire_plan.specs.Kinds.{kind_of}
use Rattle.wire_plan.proofs.Delivering.{where_bringing, bringing_where}
use Rattle.wire_plan.proofs.Gathering.{other_kind}
use Rattle.wire_plan.proofs.FirstBringing.{arrival_added}
use Rattle.wire_plan.proofs.Grown.{one_other}
use Rattle.wire_plan.proofs.bringing.BringingArrivals.add_event.Goals as goal

pub returns-in_ok-push : goal.returns-in_ok-push
returns-in_ok-push c =
    let s = c.args.events.now in
    let p = c.args.event.proc.number in
    let at = c.args.event.at in
    let is : kind_at (plan_of s) p at ≡ Some (Arrive (set_of (set_at s.sets c.in-Arrive.set)) c.in-Arrive.collect) =
    c.kind.ensures ∙ ap (λ k. Some (kind_of s.sets k)) c.in-Arrive.is in
    arrival_added (plan_of s) c.args.event c.args.self.now.arrivals.items _ c.in_ok-push.ensures.items
    (where_bringing s c.args.fences.now c.requires.fences p at c.fence_at-fence.result.number 0 _ _ is c.fence_at-fence.ensures (sym c.brings.ensures ∙ c.if-brings.true))

pub returns-else-brings : goal.returns-else-brings
returns-else-brings c =
    let s = c.args.events.now in
    let p = c.args.event.proc.number in
    let at = c.args.event.at in
    let is : kind_at (plan_of s) p at ≡ Some (Arrive (set_of (set_at s.sets c.in-Arrive.set)) c.in-Arrive.collect) =
    c.kind.ensures ∙ ap (λ k. Some (kind_of s.sets k)) c.in-Arrive.is in
    one_other (BringsData (plan_of s)) p at _
    (λ b. true≢false (sym (bringing_where s c.args.fences.now c.requires.fences p at c.fence_at-fence.result.number 0 _ _ is c.fence_at-fence.ensures b) ∙ sym c.brings.ensures ∙ c.if-brings.false))

pub returns-in_default : goal.returns-in_default
returns-in_default c =
    one_other (BringsData (plan_of c.args.events.now)) c.args.event.proc.number c.args.event.at _
    (λ b. other_kind c.args.events.now.sets c.kind.result c.in_default.not-Arrive b.members b.arrival.collect (same_Some _ _ (sym c.kind.ensures ∙ b.arrival.is)))

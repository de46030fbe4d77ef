use Rattle.std.proofs.Common.{◌≡◌, ◌∙◌, ap, sym, subst, map, None}
use Rattle.wire_scripts.specs.Planned.{plan_of}
use Rattle.wire_runs.specs.State.{next_event, next_kind}
use Rattle.wire_runs.specs.Step.{run, may_do}
use Rattle.wire_core.specs.Waiting.{Awaits}
use Rattle.wire_core.proofs.Waiting.{noted_more}
use Rattle.wire_core.proofs.running.Core.note.Goals.{in-Some, in-None}
use Rattle.wire_core.proofs.running.Core.note.Goals as goal

pub invariant_of-self : goal.invariant_of-self
invariant_of-self c =
    let scripts = c.self.inside.plan.now in
    let table = c.self.inside.fences.now in
    let plan = plan_of scripts in
    let s = run plan (map (λ p. p.number) c.self.inside.history.items) in
    let p = c.args.proc.number in
    let off = rw (← c.self.view_is) at c.requires.waits in
    let within = rw (← c.self.view_is) at c.requires.within in
    let awaits : Awaits scripts table (next_event s p) c.match-next_kind.awaited =
    elim c.match-next_kind.branch [
      | in-Some w ↦
          let place = rw (← c.self.view_is) at w.next_event.ensures in
          subst (λ a. Awaits scripts table (next_event s p) a) (sym w.awaited-is) (subst (λ x. Awaits scripts table x w.awaited_at-awaited.result) place w.awaited_at-awaited.ensures)
      | in-None w ↦
          let none : None ≡ next_kind plan s p = rw (← c.self.view_is) at w.in-None.ensures.kind in
          subst (λ a. Awaits scripts table (next_event s p) a) (sym w.awaited-is) (λ state other. ap (may_do plan state (next_event s p)) (sym none) ∙ ap (may_do plan other (next_event s p)) none)
    ] in record {
      course = c.self.invariant.course;
      room = c.self.invariant.room;
      shared = c.self.invariant.shared;
      noted = rw c.note.ensures (noted_more scripts table s c.self.inside.waits p c.match-next_kind.awaited c.self.invariant.noted within off awaits);
      looked = c.self.invariant.looked;
      keeping_is = c.self.invariant.keeping_is;
    }

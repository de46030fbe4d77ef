use Rattle.std.proofs.Common.{rules, ◌≡◌, ◌≤◌, ◌∙◌, ap, sym, subst, None, length, vec_capacity}
use Rattle.std.specs.Prelude.{replicate}
use Rattle.wire_runs.specs.State.{start}
use Rattle.wire_core.specs.Waiting.{AreNotesTrue}
use Rattle.wire_core.proofs.Shared.{new_names}
use Rattle.wire_core.proofs.Waiting.{noted_first}
use Rattle.wire_scripts.specs.Planned.{plan_of}
use Rattle.wire_core.proofs.Gains.{keeping_first}
use Rattle.wire_core.proofs.running.Core.new.Goals as goal

pub invariant_of-result : goal.invariant_of-result
invariant_of-result c =
    let scripts = c.args.plan.now in
    let table = c.fences-fences.result.now in
    let none = c.in_ok-history.ensures.items in
    let count : c.len.result ≡ length scripts.names = c.len.ensures ∙ ap length (c.names.ensures ∙ ap (λ s. s.names) c.scripts.ensures.scripts) in record {
      course = search rules;
      room = subst (λ n. n ≤ vec_capacity c.in_ok-history.history) c.event_total-events.ensures.total c.in_ok-history.ensures.capacity;
      shared = rw none
          record {
            sound = c.fences-fences.ensures.sound;
            fences = c.fences-fences.ensures;
            arrived = c.in_ok-arrivals.ensures.nobody scripts c.fences-fences.ensures;
            named = new_names scripts c.in_ok-names.names (c.in_ok-names.ensures.ok ∙ ap (λ n. replicate n None) count);
          };
      noted = rw none (subst (AreNotesTrue scripts table start) (sym c.in_ok-waits.ensures.ok) (noted_first scripts table start c.process_count.result c.process_count.ensures));
      looked = c.in_ok-looks.ensures.ok _;
      keeping_is = rw none (keeping_first (plan_of scripts) c.in_ok-keeping.keeping c.in_ok-keeping.ensures.none c.in_ok-keeping.ensures.room);
    }

use Rattle.std.proofs.Common.{◌≡◌, ◌∙◌, ap, sym, length, rules, arith}
use Rattle.std.proofs.lemmas.List.{length-map}
use Rattle.wire_scripts.specs.Planned.{plan_of}
use Rattle.wire_plan.specs.Kinds.{kind_of}
use Rattle.wire_runs.specs.Plan.{event_total}
use Rattle.wire_plan.proofs.Planning.{total_shown, total_fits}
use Rattle.wire_plan.proofs.events.Events.event_total.Goals as goal

pub returns-clause-total : goal.returns-clause-total
returns-clause-total c =
    let s = c.self.inside.scripts in
    let kinds = c.self.inside.rows.kinds in
    let len : c.len.result ≡ length kinds.items = search rules in
    rw (← c.self.view_is) (len ∙ sym (length-map kinds.items (kind_of s.sets)) ∙ ap length c.self.invariant.0.kinds ∙ total_shown s)

pub returns-clause-fits : goal.returns-clause-fits
returns-clause-fits c =
    let s = c.self.inside.scripts in
    let kinds = c.self.inside.rows.kinds in
    let len : c.len.result ≡ length kinds.items = search rules in
    let total : length kinds.items ≡ event_total (plan_of s) = sym (length-map kinds.items (kind_of s.sets)) ∙ ap length c.self.invariant.0.kinds ∙ total_shown s in
    let fits = total_fits s c.self.invariant.0.sound.counted.few_calls in
    omega (arith, len, total, fits)

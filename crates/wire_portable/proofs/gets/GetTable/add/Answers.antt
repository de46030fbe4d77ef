use Rattle.std.proofs.Common.{rules, ap, ◌∙◌}
use Rattle.std.specs.HashMap.{get}
use Rattle.wire_portable.specs.Gets.{is_same, events_in}
use Rattle.wire_portable.proofs.OpenGets.{differs}
use Rattle.wire_portable.proofs.gets.GetTable.add.Goals as goal

pub returns-in_ok-push-in-Some-clause-others : goal.returns-in_ok-push-in-Some-clause-others
returns-in_ok-push-in-Some-clause-others c = λ other ne. let f = differs c.args.asked other ne in search rules

pub returns-in_ok-insert-in-None-clause-others : goal.returns-in_ok-insert-in-None-clause-others
returns-in_ok-insert-in-None-clause-others c = λ other ne.
    ap events_in (c.in_ok-insert-in-None.ensures.updates.2 other (differs c.args.asked other ne) ∙ ap (λ lists. get is_same lists other) c.get_mut.follows.holds-at-none)

use Rattle.std.proofs.Common.{rules, ap, ◌∙◌}
use Rattle.std.specs.HashMap.{get}
use Rattle.wire_procmap.specs.Tallies.{is_same, count_in}
use Rattle.wire_procmap.proofs.Tallies.{differs}
use Rattle.wire_procmap.proofs.tally.Tally.add.Goals as goal

pub returns-in-Some-clause-others : goal.returns-in-Some-clause-others
returns-in-Some-clause-others c = λ other ne. let f = differs c.args.pair other ne in search rules

pub returns-in_ok-insert-in-None-clause-others : goal.returns-in_ok-insert-in-None-clause-others
returns-in_ok-insert-in-None-clause-others c = λ other ne.
    ap count_in (c.in_ok-insert-in-None.ensures.updates.2 other (differs c.args.pair other ne) ∙ ap (λ counts. get is_same counts other) c.get_mut.follows.holds-at-none)

use Rattle.std.proofs.Common.{refl, [], ap, sym}
use Rattle.wire_types.specs.Outcome.{ends_of}
use Rattle.std.proofs.Common.{◌∙◌}
use Rattle.wire_core.specs.EndsAfter.{plain_ends}
use Rattle.wire_commands.specs.Complete.{line_in}
use Rattle.wire_commands.proofs.Judged.{fails_so}
use Rattle.wire_commands.proofs.Worked.{settled_told}
use Rattle.wire_commands.proofs.replay.run_settled.Goals as goal

pub returns-clause-ok : goal.returns-clause-ok
returns-clause-ok g c =
    settled_told c.args.manner.mode c.args.settled.now c.plan.result.now [] c.in_ok-text.text.items refl
    (c.settled_exactly.ensures c.args.settled.now [] c.requires.none) c.requires.none c.plan.ensures.same c.in_ok-text.ensures.tells

pub returns-clause-calls : goal.returns-clause-calls
returns-clause-calls g c =
    fails_so c.args.settled.now c.scripts.result.now (ends_of c.in_ok-outcome.outcome) (line_in c.in_ok-failure.failure)
    ((c.settled_exactly.ensures c.args.settled.now [] c.requires.none).0 refl)
    (c.scripts.ensures.scripts ∙ c.plan-2.ensures.same) c.in_ok-outcome.ensures.ok c.in_ok-failure.ensures

pub settled_text-requires : goal.settled_text-requires
settled_text-requires g c = c.in_ok-outcome.ensures.ok ∙ ap plain_ends (sym c.plan.ensures.same)

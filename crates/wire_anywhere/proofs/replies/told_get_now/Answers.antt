use Rattle.std.proofs.Common.{◌∙◌, sym, eq-eqb, eqb-true}
use Rattle.std.proofs.lemmas.Bool.{true≢false}
use Rattle.wire_runs.specs.Plan.{event_of}
use Rattle.wire_scripts.specs.Planned.{plan_of}
use Rattle.wire_anywhere.proofs.PlacedReplies.{own_get_now, no_commit}
use Rattle.wire_anywhere.proofs.replies.told_get_now.Goals as goal

pub returns-then-eq : goal.returns-then-eq
returns-then-eq c =
    own_get_now (plan_of c.args.marked.now) c.requires.settled (event_of c.args.asked.get_now) c.args.asked.owner.number c.args.asked.key c.requires.get
    (sym (eqb-true c.args.asked.owner.number c.args.asked.get_now.proc.number (sym c.eq.ensures ∙ c.if-eq.true)))

pub told_committed-requires-clause-another : goal.told_committed-requires-clause-another
told_committed-requires-clause-another c =
    λ e. true≢false (sym (eq-eqb c.args.asked.owner.number c.args.asked.get_now.proc.number (sym e)) ∙ sym c.eq.ensures ∙ c.if-eq.false)

pub told_committed-requires-clause-committed : goal.told_committed-requires-clause-committed
told_committed-requires-clause-committed c = (_, c.in-Some.ensures)

pub returns-in-None : goal.returns-in-None
returns-in-None c =
    no_commit (plan_of c.args.marked.now) c.requires.settled (event_of c.args.asked.get_now) c.requires.answered c.args.asked.owner.number c.args.asked.key c.requires.get
    (λ e. true≢false (sym (eq-eqb c.args.asked.owner.number c.args.asked.get_now.proc.number (sym e)) ∙ sym c.eq.ensures ∙ c.if-eq.false)) c.in-None.ensures

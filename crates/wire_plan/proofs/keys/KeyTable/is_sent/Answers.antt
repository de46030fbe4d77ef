use Rattle.std.proofs.Common.{sym, subst, lt-ltb, ltb-true}
use Rattle.std.proofs.lemmas.Bool.{true≢false}
use Rattle.wire_plan.specs.Bringing.{IsSentAfter}
use Rattle.wire_plan.proofs.keys.KeyTable.is_sent.Goals as goal

pub returns-in-Some : goal.returns-in-Some
returns-in-Some c = λ plan are once.
    let sent = subst (λ o. IsSentAfter plan c.args.owner.number c.args.key o) c.in-Some.is (c.sending_commit.ensures plan are once) c.args.at in (
      (λ t. sent.1 (ltb-true c.in-Some.commit c.args.at t)),
      (λ s. lt-ltb c.in-Some.commit c.args.at (sent.0 s)),
    )

pub returns-in-None : goal.returns-in-None
returns-in-None c = λ plan are once.
    let never = subst (λ o. IsSentAfter plan c.args.owner.number c.args.key o) c.in-None.is (c.sending_commit.ensures plan are once) in (
      (λ t. absurd (true≢false (sym t))),
      (λ s. absurd (never c.args.at s)),
    )

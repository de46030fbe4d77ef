use Rattle.std.proofs.lemmas.Result.{IfOk-weaker}
use Rattle.wire_standstill.proofs.plans.members_at.Goals as goal

pub returns : goal.returns
returns c =
    IfOk-weaker c.standstill_members.result _ _
    (λ text is. record {
      circle = c.in_ok-standstill.standstill.circle.items;
      never = c.in_ok-standstill.standstill.never.items;
      is = c.in_ok-standstill.ensures;
      told = is;
    }) c.standstill_members.ensures

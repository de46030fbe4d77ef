use Rattle.std.proofs.lemmas.Result.{IfOk-weaker}
use Rattle.wire_standstill.proofs.plans.report_at.Goals as goal

pub returns : goal.returns
returns c =
    IfOk-weaker c.standstill_json.result _ _
    (λ text is. record {
      circle = c.in_ok-standstill.standstill.circle.items;
      never = c.in_ok-standstill.standstill.never.items;
      is = c.in_ok-standstill.ensures;
      told = is;
    }) c.standstill_json.ensures

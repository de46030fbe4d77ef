use Rattle.std.proofs.lemmas.Result.{IfOk-weaker}
use Rattle.wire_standstill.proofs.plans.text_at.Goals as goal

pub returns-clause-tells : goal.returns-clause-tells
returns-clause-tells c =
    IfOk-weaker c.standstill_text.result _ _
    (λ text is. record {
      circle = c.in_ok-standstill.standstill.circle.items;
      never = c.in_ok-standstill.standstill.never.items;
      is = c.in_ok-standstill.ensures;
      told = is;
    }) c.standstill_text.ensures.told

use Rattle.std.proofs.Common.{◌∙◌}
use Rattle.std.proofs.lemmas.Result.{IfOk-weaker}
use Rattle.wire_explain.proofs.Tables.{firsts_of}
use Rattle.wire_explain.proofs.format.format_words.Goals as goal

pub returns : goal.returns
returns c = IfOk-weaker c.first_words.result _ _ (λ words is. is ∙ firsts_of _ _ c.usages.ensures) c.first_words.ensures

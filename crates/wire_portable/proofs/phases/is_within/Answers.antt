use Rattle.std.proofs.Common.{◌∙◌, sym}
use Rattle.std.proofs.lemmas.Option.{same_Some}
use Rattle.wire_plan.proofs.KeptGets.{no_get}
use Rattle.wire_portable.proofs.phases.is_within.Goals as goal

pub returns-in_default : goal.returns-in_default
returns-in_default c = λ t p key is. absurd (no_get c.args.plan.now.sets c.kind.result c.in_default.not-Get p key (same_Some _ _ (sym c.kind.ensures ∙ is)))

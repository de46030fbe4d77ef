use Rattle.std.proofs.Common.{◌∙◌, ap, sym, eqb-true, option_copied}
use Rattle.wire_races.proofs.Swept.{last_number}
use Rattle.wire_races.proofs.sweep_races.is_last.Goals as goal

pub returns-in-Some : goal.returns-in-Some
returns-in-Some c = λ t. last_number c.args.procs.now _ _ c.args.proc.number (sym c.last.ensures.value ∙ ap option_copied c.in-Some.is) (eqb-true _ _ t)

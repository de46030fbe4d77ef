use Rattle.std.proofs.Common.{refl, Err}
use Rattle.wire_types.specs.declared.Fault.TheVariants.{Write}
use Rattle.wire_command.proofs.Handed.{same_error}
use Rattle.wire_commands.proofs.Reported.{writes_report, only_refused, breaks_report, write_counted, untouched}
use Rattle.wire_commands.proofs.plain.run_plainly.Goals as goal

pub returns-in-Ok-clause-ok : goal.returns-in-Ok-clause-ok
returns-in-Ok-clause-ok g c = writes_report _ _ _ _ _ c.in-Ok.ensures.ok

pub returns-in-Err-clause-refused : goal.returns-in-Err-clause-refused
returns-in-Err-clause-refused g c = only_refused _ _ _ _ _ _ _ c.in-Err.ensures.err

pub returns-in-Err-clause-front : goal.returns-in-Err-clause-front
returns-in-Err-clause-front g c n is = breaks_report _ _ _ _ _ _ _ n c.in-Err.ensures.err (same_error (Err c.in-Err.fault) c.in-Err.fault (Write n) refl is)

pub returns-in-Err-clause-write_failed : goal.returns-in-Err-clause-write_failed
returns-in-Err-clause-write_failed g c n is = write_counted _ _ _ _ _ _ _ n c.in-Err.ensures.err (same_error (Err c.in-Err.fault) c.in-Err.fault (Write n) refl is)

pub returns-in-Err-clause-untouched : goal.returns-in-Err-clause-untouched
returns-in-Err-clause-untouched g c = untouched _ _ _ _ _ _ _ (Err c.in-Err.fault) refl c.in-Err.ensures.err

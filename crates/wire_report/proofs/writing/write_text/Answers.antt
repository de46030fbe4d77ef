use Rattle.wire_report.proofs.Ends.{where_ok, front_of}
use Rattle.wire_report.proofs.writing.write_text.Goals as goal

pub returns-clause-ok : goal.returns-clause-ok
returns-clause-ok g c = where_ok c.write_out.result c.map_err.result _ c.map_err.ensures.variant c.write_out.ensures.ok

pub returns-clause-front : goal.returns-clause-front
returns-clause-front g c =
    front_of c.write_out.result c.map_err.result _ _ c.args.text.now c.map_err.ensures.cases c.write_out.ensures.err c.write_out.ensures.short

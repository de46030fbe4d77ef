use Rattle.wire_command.specs.Answer.{rows_in}
use Rattle.wire_commands.proofs.Checked.{told, told_broken}
use Rattle.wire_command.proofs.Handed.{handed_on}
use Rattle.wire_commands.proofs.check.check_built.Goals as goal

pub returns-in_err-write_found-clause-err : goal.returns-in_err-write_found-clause-err
returns-in_err-write_found-clause-err g c =
    let found = c.in_ok-found.found in
    let e = c.in_err-write_found.field-0.0 in
    let broken = told_broken c.args.telling.form c.args.telling.places.name.now (rows_in c.args.telling.places) c.args.plan.now c.scripts.result.now found c.of_count-ended.result
    (g.W.Sink.written c.args.writer.now) (g.W.Sink.written c.write_found.new.writer) _ _ e
    (c.settled_exactly.ensures c.args.plan.now found c.in_ok-found.ensures.ok) c.in_ok-found.ensures.ok c.scripts.ensures.scripts
    (c.of_count-ended.ensures.found found c.len.ensures) c.in_err-write_found.ensures.err in
    handed_on c.from_residual-in_err-write_found.result e _ c.from_residual-in_err-write_found.ensures.1 broken

pub returns-clause-ok : goal.returns-clause-ok
returns-clause-ok g c =
    let found = c.in_ok-found.found in
    told c.args.telling.form c.args.telling.places.name.now (rows_in c.args.telling.places) c.args.plan.now c.scripts.result.now found c.of_count-ended.result
    (g.W.Sink.written c.args.writer.now) (g.W.Sink.written c.write_found.new.writer)
    (c.settled_exactly.ensures c.args.plan.now found c.in_ok-found.ensures.ok) c.in_ok-found.ensures.ok c.scripts.ensures.scripts
    (c.of_count-ended.ensures.found found c.len.ensures) c.in_ok-write_found.ensures.ok

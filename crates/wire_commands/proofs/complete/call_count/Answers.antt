use Rattle.std.proofs.Common.{◌∙◌, ap, sym, refl, length, arith}
use Rattle.std.proofs.lemmas.Option.{slice_get_read, slice_get_past}
use Rattle.wire_scripts.specs.Scripts.{calls_in}
use Rattle.wire_commands.proofs.complete.call_count.Goals as goal

pub returns-in-Some-clause-count : goal.returns-in-Some-clause-count
returns-in-Some-clause-count c =
    let processes = c.args.scripts.now.processes in
    let lookup = rw (c.processes.ensures.processes, c.index.ensures) at c.in-Some.ensures.lookup in
    let is = slice_get_read processes (length processes) c.args.proc.number c.in-Some.process.now refl lookup.3.0 lookup.1 in
    ap length c.calls.ensures ∙ sym (ap (λ o. length (calls_in o)) is)

pub returns-in-None-clause-count : goal.returns-in-None-clause-count
returns-in-None-clause-count c =
    let lookup = rw (c.processes.ensures.processes, c.index.ensures) at c.in-None.ensures.lookup in
    sym (ap (λ o. length (calls_in o)) (slice_get_past c.args.scripts.now.processes c.args.proc.number (omega (arith, lookup.3))))

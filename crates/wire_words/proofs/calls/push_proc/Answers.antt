use Rattle.std.proofs.Common.{◌≡◌, ◌<◌, ◌+◌, ◌++◌, ◌∙◌, ap, sym, refl, subst, length, append-nil, arith, Option, Some, slice_get, OnOk, OnErr}
use Rattle.std.proofs.lemmas.Option.{slice_get_read, slice_get_past}
use Rattle.std.specs.Vec.{vec_capacity}
use Rattle.wire_scripts.specs.Scripts.{Process}
use Rattle.wire_words.specs.Words.{text_of_process}
use Rattle.wire_words.proofs.calls.push_proc.Goals as goal

-- the process of the number
is : (c : goal.After-push_process) → slice_get c.args.scripts.now.processes c.args.proc.number ≡ Some c.in-Some.process.now
is c =
    let processes = c.args.scripts.now.processes in
    let found = rw (c.processes.ensures.processes, c.index.ensures) at c.in-Some.ensures.lookup in
    slice_get_read processes (length processes) c.args.proc.number c.in-Some.process.now refl found.3.0 found.1

pub returns-in-Some-clause-ok : goal.returns-in-Some-clause-ok
returns-in-Some-clause-ok c =
    subst (λ (o : Option Process). OnOk c.push_process.result (c.push_process.new.out.items ≡ c.args.out.now.items ++ text_of_process c.args.scripts.now o)) (sym (is c)) c.push_process.ensures.ok

pub returns-in-Some-clause-full : goal.returns-in-Some-clause-full
returns-in-Some-clause-full c =
    subst (λ (o : Option Process). OnErr c.push_process.result (vec_capacity c.args.out.now < length c.args.out.now.items + length (text_of_process c.args.scripts.now o))) (sym (is c))
    c.push_process.ensures.full

pub returns-in-None-clause-ok : goal.returns-in-None-clause-ok
returns-in-None-clause-ok c =
    let missed = rw (c.processes.ensures.processes, c.index.ensures) at c.in-None.ensures.lookup in
    let past = slice_get_past c.args.scripts.now.processes c.args.proc.number (omega (arith, missed.3)) in
    sym (ap (λ (o : Option Process). c.args.out.now.items ++ text_of_process c.args.scripts.now o) past ∙ append-nil c.args.out.now.items)

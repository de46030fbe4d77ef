use Rattle.std.proofs.Common.{◌≡◌, ◌∙◌, ap, arith, length, vec_len}
use Rattle.wire_scripts.specs.Planned.{plan_of}
use Rattle.wire_anywhere_report.specs.Differing.{differing_form}
use Rattle.wire_command.specs.Answer.{rows_in}
use Rattle.wire_command.specs.Ending.{ended_of}
use Rattle.wire_commands.proofs.CheckedAnywhere.{differing_so}
use Rattle.wire_commands.proofs.check_same.answer_settled.Goals as goal

pub returns-clause-ok : goal.returns-clause-ok
returns-clause-ok c =
    let places = c.args.telling.places in
    let found = c.in_ok-differing.differing in
    let count : vec_len found ≡ length found.items = omega (arith, found.ok.0) in
    let shown = differing_form c.args.telling.form places.name.now (rows_in places) c.scripts-scripts.result.now in
    differing_so c.args.telling.form places.name.now (rows_in places) c.args.marked.now c.scripts-scripts.result.now found.items c.of_count.result c.in_ok-text.text.items
    c.requires (c.settled_anywhere.ensures (plan_of c.args.marked.now)) c.in_ok-differing.ensures.ok (c.of_count.ensures.counted ∙ ap ended_of (c.len.ensures ∙ count))
    (c.scripts-scripts.ensures.scripts ∙ c.plan.ensures) (c.in_ok-text.ensures ∙ ap shown c.as_slice.ensures.value)

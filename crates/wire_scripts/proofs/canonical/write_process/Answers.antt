use Rattle.std.proofs.Common.{◌∙◌, ◌++◌, [], ◌∷◌, ap, map, get_or}
use Rattle.wire_types.specs.declared.Call.{Call}
use Rattle.wire_types.specs.declared.Call.TheVariants.{Put}
use Rattle.wire_types.specs.declared.Scope.TheVariants.{Local}
use Rattle.wire_types.specs.Said as said
use Rattle.wire_scripts.specs.Scripts.{text_at}
use Rattle.wire_scripts.specs.Canonical.{words_text, line_text, call_said}
use Rattle.wire_scripts.proofs.Lines.{first_line, one_line}
use Rattle.wire_scripts.proofs.canonical.write_process.Goals as goal

-- what a read past the end would give
abbrev no_call : Call
no_call = Put Local 0 0

pub loop-call-init : goal.loop-call-init
loop-call-init c =
    let s = c.args.scripts.now in
    let process = c.args.process.now in
    let rank = c.as_slice.ensures in
    let node = c.text.ensures ∙ ap (λ texts. text_at texts c.node.result) c.nodes.ensures ∙ ap (text_at s.nodes) c.node.ensures in
    first_line (said.Rank (text_at s.nodes process.node)) _ c.args.out.now.items c.write_line.new.out.items _ (map (λ k. said.Calls (call_said s process.job k)) process.calls)
    c.in_ok-write_line.ensures (λ i. words_text (rank i ∷ node i ∷ [])) (ap (map (λ k. said.Calls (call_said s process.job k))) c.calls-call-items.ensures)

pub loop-call-preserved : goal.loop-call-preserved
loop-call-preserved c =
    let s = c.args.scripts.now in
    let calls = c.calls-call-items.result.now in
    let n = c.loop-call.call-index in
    one_line (λ k. said.Calls (call_said s c.args.process.now.job k)) calls n no_call c.loop-call.out.items c.write_call.new.out.items _ c.loop-call-test.true
    (c.in_ok-write_call.ensures ∙ ap (λ j. c.loop-call.out.items ++ line_text (said.Calls (call_said s j (get_or calls n no_call)))) c.job.ensures) c.loop-call.invariant

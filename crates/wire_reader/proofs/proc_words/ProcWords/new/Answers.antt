use Rattle.std.proofs.Common.{◌≡◌, ◌∙◌, ap, position, get_or, []}
use Rattle.std.specs.Str.{bytes_eq}
use Rattle.std.proofs.lemmas.List.{take_all}
use Rattle.wire_lines.specs.Said.{spelled_proc}
use Rattle.wire_scripts.specs.Canonical.{process_text}
use Rattle.wire_reader.proofs.ProcTable.{position_next}
use Rattle.wire_reader.proofs.proc_words.ProcWords.new.Goals as goal

pub loop-number-preserved : goal.loop-number-preserved
loop-number-preserved c = λ word.
    let s = c.args.scripts.now in
    let low = rw c.processes-process-items.ensures.processes at c.loop-number-test.true in
    let here = rw c.processes-process-items.ensures.processes at c.process-item.is in
    let job = c.text-job.ensures ∙ (λ i. get_or (c.jobs.ensures i) (c.job.ensures i) []) in
    let text : c.in_ok-word.word.items ≡ process_text s c.process-item.result = c.in_ok-word.ensures ∙ (λ i. spelled_proc (job i) (c.rank.ensures i)) in
    position_next (λ q. bytes_eq word (process_text s q)) s.processes c.loop-number.number c.process-item.result low here _ _ _ _
    (c.loop-number.invariant word) (ap (bytes_eq word) text) (ap (λ p. p.number) c.new-in-loop-number.ensures) (c.in_ok-add.ensures word)

pub returns : goal.returns
returns c = λ word.
    let s = c.args.scripts.now in
    let all = rw c.processes-process-items.ensures.processes at c.loop-number-test.false in
    c.loop-number.invariant word ∙ ap (position (λ q. bytes_eq word (process_text s q))) (take_all c.loop-number.number s.processes all)

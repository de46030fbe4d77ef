use Rattle.std.proofs.Common.{◌∙◌, ◌+◌, ◌++◌, ◌==◌, [], ◌∷◌, ap, sym, drop, filter, flat_map}
use Rattle.std.proofs.lemmas.Bool.{eq-eqb, ne_eqb}
use Rattle.wire_types.specs.Said as said
use Rattle.wire_scripts.specs.Scripts.{text_at}
use Rattle.wire_scripts.specs.Canonical.{words_text, line_text, process_said}
use Rattle.wire_scripts.proofs.Lines.{first_line, one_chosen, one_left}
use Rattle.wire_scripts.proofs.canonical.write_job.Goals as goal
use Rattle.wire_scripts.proofs.canonical.write_job.Goals.{then-job+in_ok-write_process, else-job}

pub loop-process-init : goal.loop-process-init
loop-process-init c =
    let s = c.args.scripts.now in
    let job = c.args.job in
    let word = c.as_slice.ensures in
    let name = c.text.ensures ∙ ap (λ texts. text_at texts job) c.jobs.ensures in
    first_line (said.Job (text_at s.jobs job)) _ c.args.out.now.items c.write_line.new.out.items _ (flat_map (process_said s) (filter (λ p. p.job == job) s.processes))
    c.in_ok-write_line.ensures (λ i. words_text (word i ∷ name i ∷ [])) (ap (λ ps. flat_map (process_said s) (filter (λ p. p.job == job) ps)) c.processes-process-items.ensures.processes)

pub loop-process-preserved : goal.loop-process-preserved
loop-process-preserved c =
    let s = c.args.scripts.now in
    let job = c.args.job in
    let processes = c.processes-process-items.result.now in
    let n = c.loop-process.process-index in
    let process = c.process-item.result in
    let there = c.loop-process-test.true in
    elim c.if-job.branch [
      | then-job+in_ok-write_process w ↦
          one_chosen (λ p. p.job == job) (process_said s) processes n process c.loop-process.out.items _ _ there c.process-item.is (eq-eqb process.job job (sym c.job.ensures ∙ w.if-job.true))
          (ap (λ v. v.items) w.out-is ∙ w.in_ok-write_process.ensures) c.loop-process.invariant
      | else-job w ↦
          ap (λ v. v.items ++ flat_map line_text (flat_map (process_said s) (filter (λ p. p.job == job) (drop (n + 1) processes)))) w.out-is
          ∙ one_left (λ p. p.job == job) (process_said s) processes n process c.loop-process.out.items _ there c.process-item.is
          (ne_eqb process.job job (λ same. w.if-job.false (c.job.ensures ∙ same))) c.loop-process.invariant
    ]

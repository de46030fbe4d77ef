use Rattle.std.proofs.Common.{◌≡◌, ◌∙◌, ap, subst, take, length, arith}
use Rattle.std.proofs.Math.Seq.{take-length}
use Rattle.std.proofs.lemmas.List.{get_or_read}
use Rattle.wire_scripts.specs.Scripts.{Process}
use Rattle.wire_procmap.specs.Tallies.{job_of, IsTally}
use Rattle.wire_procmap.proofs.Rows.{nobody}
use Rattle.wire_procmap.proofs.Tallies.{few_counted, counted_on}
use Rattle.wire_procmap.proofs.row.job_sizes.Goals as goal

pub loop-process-init : goal.loop-process-init
loop-process-init c = c.new-sizes.ensures

pub add-requires : goal.add-requires
add-requires c =
    few_counted job_of c.args.processes.now c.loop-process.process-index c.loop-process.sizes (0, c.job.result) (omega arith) c.requires c.loop-process.invariant

pub loop-process-preserved : goal.loop-process-preserved
loop-process-preserved c =
    let processes = c.args.processes.now in
    let n = c.loop-process.process-index in
    let there = c.loop-process-test.true in
    let its = c.job.ensures ∙ ap (λ (q : Process). q.job) (get_or_read processes n c.process-item.result there c.process-item.is nobody) in
    counted_on job_of processes n c.loop-process.sizes c.add.new.self (0, c.job.result) there (ap (λ j. (0, j)) its) c.in_ok-add.ensures.here c.in_ok-add.ensures.others c.loop-process.invariant

pub returns : goal.returns
returns c =
    let processes = c.args.processes.now in
    let over : c.loop-process.process-index ≡ length processes = omega arith in
    subst (λ ps. IsTally job_of ps c.loop-process.sizes) (ap (λ n. take n processes) over ∙ take-length processes) c.loop-process.invariant

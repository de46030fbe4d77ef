use Rattle.std.proofs.Common.{◌∙◌, ◌+◌, ap, Ok}
use Rattle.wire_reader.specs.declared.Size.TheVariants.{OfVersion}
use Rattle.wire_reader.proofs.Limited.{whole_read}
use Rattle.wire_pattern.specs.Instances.{instance_text}
use Rattle.wire_instances.specs.Views.{cast_by}
use Rattle.wire_cutoff.proofs.Judgement.{front_of, reads_text, text_fault, fault_told}
use Rattle.wire_cutoff.proofs.judge.instance_scripts.Goals as goal

pub returns-in-Ok-clause-text : goal.returns-in-Ok-clause-text
returns-in-Ok-clause-text c =
    (front_of _ _ _ (ap (λ n. n + 1) c.file_bytes.ensures) c.in_ok-text.ensures)
    ∙ whole_read OfVersion (instance_text c.args.pattern.now (cast_by c.args.cast.now)) c.in-Ok.scripts
    (reads_text c.args.pattern.now (cast_by c.args.cast.now) c.as_slice.result.now c.in_ok-text.text.items (Ok c.in-Ok.scripts) c.as_slice.ensures.value
    (front_of _ _ _ (ap (λ n. n + 1) c.file_bytes.ensures) c.in_ok-text.ensures) c.in-Ok.ensures.ok)

pub returns-in-Ok-clause-reads : goal.returns-in-Ok-clause-reads
returns-in-Ok-clause-reads c =
    reads_text c.args.pattern.now (cast_by c.args.cast.now) c.as_slice.result.now c.in_ok-text.text.items (Ok c.in-Ok.scripts) c.as_slice.ensures.value
    (front_of _ _ _ (ap (λ n. n + 1) c.file_bytes.ensures) c.in_ok-text.ensures) c.in-Ok.ensures.ok

pub returns-in_ok-fault-in-Err-clause-own : goal.returns-in_ok-fault-in-Err-clause-own
returns-in_ok-fault-in-Err-clause-own c =
    text_fault c.args.pattern.now (cast_by c.args.cast.now) c.as_slice.result.now c.in-Err.fault c.in_ok-fault-in-Err.fault
    (c.as_slice.ensures.value ∙ (front_of _ _ _ (ap (λ n. n + 1) c.file_bytes.ensures) c.in_ok-text.ensures)) c.in-Err.ensures.err c.in_ok-fault-in-Err.ensures

pub returns-in_ok-fault-in-Err-clause-err : goal.returns-in_ok-fault-in-Err-clause-err
returns-in_ok-fault-in-Err-clause-err c =
    fault_told c.args.pattern.now (cast_by c.args.cast.now) c.in_ok-fault-in-Err.fault c.requires
    (text_fault c.args.pattern.now (cast_by c.args.cast.now) c.as_slice.result.now c.in-Err.fault c.in_ok-fault-in-Err.fault
    (c.as_slice.ensures.value ∙ (front_of _ _ _ (ap (λ n. n + 1) c.file_bytes.ensures) c.in_ok-text.ensures)) c.in-Err.ensures.err c.in_ok-fault-in-Err.ensures)

use Rattle.std.proofs.Common.{◌+◌, ap, Ok}
use Rattle.wire_instances.specs.Views.{cast_by}
use Rattle.wire_pattern_later.proofs.Grown.{front_of, reads_text, text_whole, none_read}
use Rattle.wire_pattern_later.proofs.later.instance_of.Goals as goal

pub returns-in-Ok-clause-text : goal.returns-in-Ok-clause-text
returns-in-Ok-clause-text c =
    text_whole c.args.pattern.now (cast_by c.args.cast.now) c.as_slice-2.result.now c.in_ok-text.text.items c.in-Ok.scripts c.as_slice-2.ensures.value
    (front_of _ _ _ (ap (λ n. n + 1) c.file_bytes.ensures) c.in_ok-text.ensures) c.in-Ok.ensures.ok

pub returns-in-Ok-clause-reads : goal.returns-in-Ok-clause-reads
returns-in-Ok-clause-reads c =
    reads_text c.args.pattern.now (cast_by c.args.cast.now) c.as_slice-2.result.now c.in_ok-text.text.items (Ok c.in-Ok.scripts) c.as_slice-2.ensures.value
    (front_of _ _ _ (ap (λ n. n + 1) c.file_bytes.ensures) c.in_ok-text.ensures) c.in-Ok.ensures.ok

pub returns-in-Err-clause-none : goal.returns-in-Err-clause-none
returns-in-Err-clause-none c = λ e.
    none_read c.args.pattern.now (cast_by c.args.cast.now) c.as_slice-2.result.now c.in_ok-text.text.items c.in-Err.fault (c.unread.ensures.none e) c.as_slice-2.ensures.value
    (front_of _ _ _ (ap (λ n. n + 1) c.file_bytes.ensures) c.in_ok-text.ensures) c.in-Err.ensures.err

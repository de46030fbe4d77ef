use Rattle.wire_types.specs.Said.{collect_words}
use Rattle.wire_instances.proofs.SetFronts.{set_written}
use Rattle.wire_instances.proofs.calls.write_set.Goals as goal

pub returns : goal.returns
returns c =
    set_written c.write_set_word.result c.args.excerpt.now.wanted c.args.out.now.items c.write_set_word.new.out.items c.in_ok-word.word.items
    c.as_slice.result.now _
    (collect_words c.args.collect) c.as_slice.ensures.value c.in_ok-word.ensures c.write_set_word.ensures

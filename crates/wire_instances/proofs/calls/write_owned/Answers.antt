use Rattle.wire_runs.specs.Patterns as plan
use Rattle.wire_pattern.specs.Instances.{cast_of, process_text, word_text}
use Rattle.wire_pattern.specs.Views.{who_by, indexed_by}
use Rattle.wire_instances.proofs.Wholes.{owned_written}
use Rattle.wire_instances.proofs.calls.write_owned.Goals as goal

pub returns : goal.returns
returns c =
    let f = c.args.frame.now in
    let calling = c.args.calling in
    owned_written c.write_named.result c.args.out.now.items c.push.new.self.items c.write_who.new.out.items c.write_named.new.out.items
    (process_text f.pattern f.cast (plan.who (cast_of f.cast) calling.caller calling.each (who_by c.args.owner)))
    (word_text f.pattern f.cast calling.caller calling.each (indexed_by c.args.key.now))
    c.in_ok-push.ensures.items c.in_ok-write_who.ensures c.write_named.ensures

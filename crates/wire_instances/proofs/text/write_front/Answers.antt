use Rattle.wire_instances.specs.Views.{cast_by}
use Rattle.wire_instances.proofs.Wholes.{front_written}
use Rattle.wire_instances.proofs.text.write_front.Goals as goal

pub returns : goal.returns
returns c =
    front_written c.args.wanted c.args.pattern.now (cast_by c.args.cast.now) c.in_ok-new.field-0 c.keeps.result c.new-out.result.items
    c.write_header.new.out.items c.write_nodes.new.out.items c.write_jobs.new.out.items c.truncate.new.self.items
    c.new-out.ensures.items c.keeps.ensures c.in_ok-write_header.ensures c.in_ok-write_nodes.ensures c.in_ok-new.ensures c.in_ok-write_jobs.ensures
    c.truncate.ensures.items

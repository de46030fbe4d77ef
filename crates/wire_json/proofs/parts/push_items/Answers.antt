use Rattle.std.proofs.Common.{ap}
use Rattle.wire_types.specs.Texts.{lists_of}
use Rattle.wire_json.proofs.Joined.{all_items}
use Rattle.wire_json.proofs.parts.push_items.Goals as goal

pub returns : goal.returns
returns c =
    all_items c.push_others.result c.args.out.now.items c.extend_from_slice.new.self.items c.push_others.new.out.items c.in-Some.first.now.items c.as_slice.result.now
    (lists_of c.in-Some.others.now) _ c.as_slice.ensures.value c.in_ok-extend_from_slice.ensures.items c.push_others.ensures
    (ap lists_of c.in-Some.ensures.cases.0)

use Rattle.std.proofs.Common.{sym, subst, slice_index}
use Rattle.wire_circles.specs.Circles.{waited_by}
use Rattle.wire_circles.specs.Search.{IsSearch}
use Rattle.wire_circles.proofs.Searching.{entered}
use Rattle.wire_circles.proofs.search.enter.Goals as goal

pub returns-clause-search : goal.returns-clause-search
returns-clause-search c = subst (IsSearch (waited_by c.args.waits.now) (slice_index c.lower.new.left.items)) (sym c.in_ok-push.ensures.items)
    (entered (waited_by c.args.waits.now) (slice_index c.args.left.now.items) (slice_index c.lower.new.left.items) c.args.path.now.items c.args.next
    c.requires.search c.lower.ensures.lowers c.requires.new c.requires.on)

use Rattle.std.proofs.Common.{subst, slice_index}
use Rattle.wire_circles.specs.Circles.{waited_by}
use Rattle.wire_circles.specs.Search.{IsSearch}
use Rattle.wire_circles.proofs.Searching.{finished}
use Rattle.wire_circles.proofs.search.leave.Goals as goal

pub returns-clause-search : goal.returns-clause-search
returns-clause-search c = finished (waited_by c.args.waits.now) (slice_index c.args.left.now.items) (slice_index c.lower.new.left.items) c.drop_last.new.path.items c.args.last
    (subst (IsSearch (waited_by c.args.waits.now) (slice_index c.args.left.now.items)) c.drop_last.ensures c.requires.search) c.lower.ensures.lowers c.requires.done

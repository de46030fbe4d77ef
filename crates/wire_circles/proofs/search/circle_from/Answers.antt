use Rattle.std.proofs.Common.{sym, subst, drop}
use Rattle.wire_circles.specs.Circles.{IsCircle, WaitsFor, waited_by}
use Rattle.wire_circles.proofs.Lists.{rest_of}
use Rattle.wire_circles.proofs.Searching.{closes}
use Rattle.wire_circles.proofs.search.circle_from.Goals as goal

pub returns : goal.returns
returns c = subst (IsCircle (WaitsFor c.args.waits.now)) (sym (rest_of c.args.path.now c.place_on-place.result _ _ c.new-circle.ensures.items c.in_ok-extend_from_slice.ensures.items))
    (closes (waited_by c.args.waits.now) c.args.path.now c.place_on-place.result c.args.first c.requires.chain c.place_on-place.ensures.within c.place_on-place.ensures.there c.requires.closed)

use Rattle.wire_fates.proofs.Places.{place_at}
use Rattle.wire_portable.proofs.fences.agree.Goals as goal

pub is_otherwise-requires : goal.is_otherwise-requires
is_otherwise-requires c = c.requires c.loop-other.other-index _ (place_at c.args.arrivals.now c.loop-other.other-index _ c.loop-other-test.true)

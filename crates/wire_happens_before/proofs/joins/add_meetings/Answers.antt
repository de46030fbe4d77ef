use Rattle.std.proofs.Common.{refl}
use Rattle.wire_happens_before.proofs.Joining.{added_none, added_push}
use Rattle.wire_happens_before.proofs.joins.add_meetings.Goals as goal

pub adding-init : goal.adding-init
adding-init c = added_none c.args.meetings.now.items

pub adding-preserved : goal.adding-preserved
adding-preserved c = rw c.in_ok-push.ensures.items (added_push c.args.meetings.now.items c.adding.meetings.items _ (record { nobody = refl; none = refl }) c.adding.invariant)

use Rattle.std.proofs.Common.{refl, subst, length}
use Rattle.std.proofs.lemmas.Option.{slice_get_read, slice_get_past}
use Rattle.wire_plan.proofs.Gathering.{list_shown, list_past}
use Rattle.wire_scripts.specs.Planned.{plan_of}
use Rattle.wire_plan.specs.Index.{AreArrivals}
use Rattle.wire_plan.proofs.meetings.Meetings.arrivals.Goals as goal

pub returns-in-Some : goal.returns-in-Some
returns-in-Some c s table info are there =
    let lists = c.self.inside.arrivals.items in
    let lookup = rw c.deref.ensures.value at c.in-Some.ensures.lookup in
    let list = list_shown (λ v. v.items) lists c.args.fence.number c.in-Some.list.now (slice_get_read lists (length lists) c.args.fence.number c.in-Some.list.now refl lookup.3.0 lookup.1) in
    rw c.as_slice.ensures.value
    (subst (AreArrivals (plan_of s) info.members info.nth) list (rw (← c.self.view_is) at (are c.args.fence.number info there)))

pub returns-in-None : goal.returns-in-None
returns-in-None c s table info are there =
    let lists = c.self.inside.arrivals.items in
    let lookup = rw c.deref.ensures.value at c.in-None.ensures.lookup in
    let list = list_past (λ v. v.items) lists c.args.fence.number (slice_get_past lists c.args.fence.number lookup.3) in
    subst (AreArrivals (plan_of s) info.members info.nth) list (rw (← c.self.view_is) at (are c.args.fence.number info there))

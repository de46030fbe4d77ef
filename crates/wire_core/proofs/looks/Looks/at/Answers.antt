use Rattle.std.proofs.Common.{refl, length}
use Rattle.std.proofs.lemmas.Option.{slice_get_read}
use Rattle.wire_core.proofs.looks.Looks.at.Goals as goal

pub returns-in-Some-clause-look : goal.returns-in-Some-clause-look
returns-in-Some-clause-look c plan are =
    let looks = c.self.inside.looks.items in
    let lookup = rw c.deref.ensures.value at c.in-Some.ensures.lookup in
    let kept = rw (← c.self.view_is) at are in
    kept c.place.result c.in-Some.look.now (slice_get_read looks (length looks) c.place.result c.in-Some.look.now refl lookup.3.0 lookup.1)

use Rattle.wire_core.proofs.Bring.{put_look}
use Rattle.wire_core.proofs.looks.Looks.put.Goals as goal

pub returns-then-place-len : goal.returns-then-place-len
returns-then-place-len c plan are is = put_look plan c.self.inside.looks.items c.place-place.result c.args.look (rw (← c.self.view_is) at are) is

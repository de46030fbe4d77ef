use Rattle.std.proofs.Common.{◌∙◌, sym}
use Rattle.wire_core.proofs.Waiting.{nothing_comes, nothing_noted}
use Rattle.wire_core.proofs.waits.Waits.wake.Goals.{else-self-via-then-self+else-is_known, else-self-via-else-self}
use Rattle.wire_core.proofs.waits.Waits.wake.Goals as goal

pub returns-else-self : goal.returns-else-self
returns-else-self c = elim c.else-self.branch [
  | else-self-via-then-self+else-is_known w ↦ nothing_comes c.args.comes c.args.self.now (sym w.is_known.ensures ∙ w.if-is_known.false)
  | else-self-via-else-self w ↦ rw (← c.self.view_is) (nothing_noted c.args.comes c.self.inside.awaited.items (c.self.invariant.2 w.if-self.false))
]

use Rattle.std.proofs.Common.{◌++◌, map, ap}
use Rattle.wire_types.specs.declared.CallEnd.TheVariants.{Replied}
use Rattle.wire_core.proofs.Steps.{reply_more}
use Rattle.wire_core.proofs.ends.ends_of_replies.Goals as goal

pub loop-reply-init : goal.loop-reply-init
loop-reply-init c = ap (λ ends. ends ++ map Replied c.args.replies.now) c.in_ok-ends.ensures.items

pub loop-reply-preserved : goal.loop-reply-preserved
loop-reply-preserved c = reply_more c.args.replies.now c.loop-reply.reply-index _ c.loop-reply.ends.items c.push.new.self.items c.loop-reply-test.true c.in_ok-push.ensures.items c.loop-reply.invariant

-- Replies.
use Rattle.wire_types.specs.declared.reply.Reply.{Reply}
use Rattle.wire_types.specs.declared.reply.Status.{Status}
use Rattle.wire_types.specs.declared.reply.Status.TheVariants as status
use Rattle.wire_types.specs.declared.reply.Value.{Value}
use Rattle.wire_types.specs.declared.reply.Value.TheVariants as value

-- a reply that brings nothing but its status
abbrev pub bare : Status → Reply
bare s = record { status = s; value = value.Nothing }

-- success, with what the reply brings
abbrev pub success_with : Value → Reply
success_with v = record { status = status.Success; value = v }

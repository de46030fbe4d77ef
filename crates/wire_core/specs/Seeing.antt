-- What a get sees, and the reply to it, in the words of the code.
use Rattle.std.specs.Prelude.{ℕ, List, [], ◌∷◌, Bool, true, false, Option, Some, None}
use Rattle.wire_runs.specs.Plan.{Plan}
use Rattle.wire_types.specs.declared.CallAt.{CallAt}
use Rattle.wire_types.specs.declared.Reply.{Reply}
use Rattle.wire_types.specs.declared.Status.TheVariants as status
use Rattle.wire_types.specs.declared.Value.TheVariants as value
use Rattle.wire_store.specs.declared.Seen.{Seen}
use Rattle.wire_store.specs.declared.Seen.TheVariants as seen
use Rattle.wire_runs.specs.Sight.{Sight, Nothing, Outside, Shown}
use Rattle.wire_types.specs.Replies.{bare, success_with}
use Rattle.wire_runs.specs.Ends.{call_of}

-- a sight of a key of this owner
abbrev pub seen_as : Plan → ℕ → Sight → Seen
seen_as plan owner Nothing = seen.Nothing
seen_as plan owner Outside = seen.Outside
seen_as plan owner (Shown put) = seen.Value (call_of plan (record { proc = owner; at = put }))

-- the reply to a get that sees this
abbrev pub reply_to : Seen → Reply
reply_to seen.Nothing = bare status.NotFound
reply_to seen.Outside = bare status.ExistsOutsideScope
reply_to (seen.Value call) = success_with (value.Put call)

abbrev pub is_something : Seen → Bool
is_something seen.Nothing = false
is_something seen.Outside = true
is_something (seen.Value call) = true

-- of what is out of scope nothing came to another node
abbrev pub brought_of : Seen → Seen
brought_of seen.Outside = seen.Nothing
brought_of other = other

-- the reply to a look-up that finds this
abbrev pub reply_to_lookup : Option CallAt → Reply
reply_to_lookup None = bare status.NotFound
reply_to_lookup (Some publish) = success_with (value.Published publish)

-- the replies of an event, which are one or none
abbrev pub replies_in : Option Reply → List Reply
replies_in None = []
replies_in (Some reply) = reply ∷ []

-- Whether a call was answered PMIX_SUCCESS.
use Rattle.std.specs.Prelude.{Bool, true, false}
use Rattle.wire_types.specs.declared.CallEnd.{CallEnd}
use Rattle.wire_types.specs.declared.CallEnd.TheVariants.{Replied}
use Rattle.wire_types.specs.declared.Status.{Status}
use Rattle.wire_types.specs.declared.Status.TheVariants.{Success}

-- PMIX_SUCCESS
abbrev pub is_success : Status → Bool
is_success Success = true
is_success _ = false

-- the call was answered PMIX_SUCCESS
abbrev pub succeeds : CallEnd → Bool
succeeds (Replied reply) = is_success reply.status
succeeds _ = false

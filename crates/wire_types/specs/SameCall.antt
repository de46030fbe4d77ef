-- Whether two calls are the same, as `==` says.
use Rattle.std.specs.Prelude.{Bool}
use Rattle.std.specs.Cmp.{IsPartialEquivalence}
use Rattle.wire_types.specs.declared.call.Call.{Call}
use Rattle.wire_types.specs.contracts.call.CallPartialEq.TheImpl as call
use Rattle.wire_types.specs.contracts.call.CallPartialEq.TheImpl.Laws as law

abbrev pub same_call : Call → Call → Bool
same_call = call.ghosts.eq

pub calls_alike : IsPartialEquivalence same_call
calls_alike = law.laws-law

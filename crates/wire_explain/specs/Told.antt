-- What is told of an order, a step of which can't be taken.
use Rattle.std.specs.Prelude.{◌≡◌, ◌≢◌, ◌⊎◌, ◌==◌, ℕ, Bool, true, false, List, [], length, map, Some, None, is_some, Ok}
use Rattle.std.specs.Prelude.{Err, take, slice_get}
use Rattle.wire_types.specs.declared.Fault.{Fault}
use Rattle.wire_types.specs.declared.Fault.TheVariants.{Memory}
use Rattle.wire_runs.specs.Plan.{Plan, Kind, Get, Leave, LookupWait}
use Rattle.wire_runs.specs.Puts.{own, stored}
use Rattle.wire_runs.specs.State.{State, start, next_kind}
use Rattle.wire_runs.specs.Step.{is_enabled, run, IsInterleaving}
use Rattle.wire_scripts.specs.Scripts.{Scripts}
use Rattle.wire_scripts.specs.Planned.{plan_of}
use Rattle.wire_reader.specs.declared.Size.{Size}
use Rattle.wire_reader.specs.Reads.{Reads}
use Rattle.wire_reader.specs.Order.{order_read}
use Rattle.wire_explain.specs.Quote.{shown_byte}
use Rattle.wire_explain.specs.Stops.{missing_for, stop_explanation}

-- all steps can be taken, and nothing is told; or n of them can, the next, of p, can't, and the text tells where p
-- stands then
pub data TellsStop (order_bytes : List ℕ) (scripts : Scripts) (steps text : List ℕ) : Type 0 where
  Goes : IsInterleaving (plan_of scripts) start steps → text ≡ [] → TellsStop order_bytes scripts steps text
  Stops : (n p : ℕ) → IsInterleaving (plan_of scripts) start (take n steps) → slice_get steps n ≡ Some p →
      is_enabled (plan_of scripts) (run (plan_of scripts) (take n steps)) p ≡ false →
      text ≡ map shown_byte (stop_explanation order_bytes scripts (run (plan_of scripts) (take n steps)) n p) → TellsStop order_bytes scripts steps text

-- the text tells of the order that these bytes read as, of the scripts that those bytes read as
pub record TellsOrderRead (size : Size) (bytes order_bytes text : List ℕ) : Type 0 where
  pub scripts : Scripts
  pub reads : Reads size bytes (Ok scripts)
  pub steps : List ℕ
  pub ordered : order_read size scripts order_bytes ≡ Ok steps
  pub tells : TellsStop order_bytes scripts steps text

-- the bytes read as scripts, and those of the order have this fault as an order of theirs
pub record RefusesOrder (size : Size) (bytes order_bytes : List ℕ) (fault : Fault) : Type 0 where
  pub scripts : Scripts
  pub reads : Reads size bytes (Ok scripts)
  pub refused : order_read size scripts order_bytes ≡ Err fault

-- why nothing can be told: memory ran out, the scripts are refused, or the order is
abbrev pub TellsNothing : Size → List ℕ → List ℕ → Fault → Type 0
TellsNothing size bytes order_bytes fault = (fault ≡ Memory) ⊎ (Reads size bytes (Err fault) ⊎ RefusesOrder size bytes order_bytes fault)

-- whether a rank may have to wait at an event of this kind
abbrev pub can_wait : Kind → Bool
can_wait (Get owner key) = true
can_wait (Leave members) = true
can_wait (LookupWait name) = true
can_wait _ = false

-- what a rank is said to wait for is why it isn't enabled: at the end of a fence it is enabled exactly if nobody is
-- missing, at a get of another's key if the owner has stored it, at one of its own if it has put it, and at a
-- lookup-wait if the name is published. It isn't enabled at its end, and is at every other event
pub record IsWhy (plan : Plan) (s : State) (p : ℕ) : Type 0 where
  pub ended : next_kind plan s p ≡ None → is_enabled plan s p ≡ false
  pub fence : (members : List ℕ) → next_kind plan s p ≡ Some (Leave members) → is_enabled plan s p ≡ (length (missing_for plan s p members) == 0)
  pub key : (owner key : ℕ) → next_kind plan s p ≡ Some (Get owner key) → owner ≢ p → is_enabled plan s p ≡ is_some (stored plan owner key (s.done owner))
  pub own_key : (key : ℕ) → next_kind plan s p ≡ Some (Get p key) → is_enabled plan s p ≡ is_some (own plan p key (s.done p))
  pub name : (name : ℕ) → next_kind plan s p ≡ Some (LookupWait name) → is_enabled plan s p ≡ is_some (s.names name)
  pub others : (kind : Kind) → next_kind plan s p ≡ Some kind → can_wait kind ≡ false → is_enabled plan s p ≡ true

abbrev pub AreReasons : Type 0
AreReasons = (plan : Plan) (s : State) (p : ℕ) → IsWhy plan s p

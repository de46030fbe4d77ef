-- The text of a chain with the place of each call: whether one call is before another, and the events that show it.
use Rattle.std.specs.Prelude.{◌≡◌, ℕ, Bool, true, false, List, ◌++◌, codes, map}
use Rattle.std.specs.List.{flat_map}
use Rattle.wire_types.specs.declared.CallAt.{CallAt}
use Rattle.wire_runs.specs.Plan.{Event}
use Rattle.wire_runs.specs.Ends.{call_of}
use Rattle.wire_scripts.specs.Scripts.{Scripts}
use Rattle.wire_scripts.specs.Planned.{plan_of}
use Rattle.wire_report.specs.Chain.{event_line, dead_line, order_line, step_of, IsCallBefore, IsCallChain, AreDead}
use Rattle.wire_report.specs.Place.{place_text}
use Rattle.wire_commands.specs.CallsJson.{json_chain, json_unordered}

-- the line of an event as `why` writes it, behind the place of its call
abbrev pub placed_event : List ℕ → List (List ℕ) → Scripts → Event → List ℕ
placed_event name rows scripts x = place_text name rows (call_of (plan_of scripts) x) ++ event_line scripts x

-- the line of a call whose event isn't live, behind its place
abbrev pub placed_dead : List ℕ → List (List ℕ) → Scripts → CallAt → List ℕ
placed_dead name rows scripts call = place_text name rows call ++ dead_line scripts call

-- the text of a chain from the first of two calls to the second, or the other way round: in lines, or as JSON
abbrev pub chain_form : (json : Bool) → List ℕ → List (List ℕ) → (first : Bool) → Scripts → List Event → List ℕ
chain_form false name rows first scripts chain = order_line first ++ flat_map (placed_event name rows scripts) chain
chain_form true name rows first scripts chain = json_chain rows first scripts (map (step_of scripts) chain)

-- the text of two calls that no chain orders, of which these are dead: in lines, or as JSON
abbrev pub unordered_form : (json : Bool) → List ℕ → List (List ℕ) → Scripts → List CallAt → List ℕ
unordered_form false name rows scripts dead = codes "unordered\n" ++ flat_map (placed_dead name rows scripts) dead
unordered_form true name rows scripts dead = json_unordered rows scripts dead

-- the text tells whether call x is before call y, else whether y is before x, and else which of them isn't live
pub data IsPlacedChain (json : Bool) (name : List ℕ) (rows : List (List ℕ)) (scripts : Scripts) (x y : CallAt) (text : List ℕ) : Type 0 where
  PlacesBefore : (chain : List Event) → IsCallChain (plan_of scripts) x y chain → text ≡ chain_form json name rows true scripts chain →
      IsPlacedChain json name rows scripts x y text
  PlacesAfter : (chain : List Event) → (IsCallBefore (plan_of scripts) x y → ⊥) → IsCallChain (plan_of scripts) y x chain →
      text ≡ chain_form json name rows false scripts chain →
      IsPlacedChain json name rows scripts x y text
  PlacesUnordered : (dead : List CallAt) → (IsCallBefore (plan_of scripts) x y → ⊥) →
      (IsCallBefore (plan_of scripts) y x → ⊥) → AreDead (plan_of scripts) x y dead →
      text ≡ unordered_form json name rows scripts dead → IsPlacedChain json name rows scripts x y text

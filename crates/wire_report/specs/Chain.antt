-- The text of a chain, as bytes, in lines or as JSON: whether one call is before another, and the events that show it.
use Rattle.std.specs.Prelude.{◌≡◌, ℕ, Bool, true, false, List, [], ◌∷◌, ◌++◌, Option, Some, codes, map}
use Rattle.std.specs.List.{flat_map}
use Rattle.wire_types.specs.declared.CallAt.{CallAt}
use Rattle.wire_runs.specs.Plan.{Plan, Event, Kind, Arrive, Leave, kind}
use Rattle.wire_scripts.specs.Scripts.{Scripts, call_at}
use Rattle.wire_scripts.specs.Planned.{plan_of}
use Rattle.wire_runs.specs.Order.{Live, Before}
use Rattle.wire_runs.specs.Ends.{call_of, first_event}
use Rattle.wire_happens_before.specs.Chain.{IsShownChain}
use Rattle.wire_words.specs.Words.{verb_text_in, call_text}
use Rattle.wire_json.specs.declared.chains.ChainStep.{ChainStep}
use Rattle.wire_json.specs.declared.chains.Half.{Half}
use Rattle.wire_json.specs.declared.chains.Half.TheVariants as half
use Rattle.wire_json.specs.Chains.{json_chain, json_unordered}

-- which half of a fence an event is, nothing where it is no part of one
abbrev pub half_text : Option Kind → List ℕ
half_text (Some (Arrive members collect)) = codes " arrive"
half_text (Some (Leave members)) = codes " leave"
half_text _ = []

-- the line of a call, with the text of a half of it
abbrev pub half_line : Scripts → CallAt → List ℕ → List ℕ
half_line scripts call half =
    call_text scripts call ++ codes " " ++ verb_text_in (call_at scripts.processes call.proc.number call.call) ++ half ++ codes "\n"

-- the line of an event
abbrev pub event_line : Scripts → Event → List ℕ
event_line scripts x = half_line scripts (call_of (plan_of scripts) x) (half_text (kind (plan_of scripts) x))

-- the lines of these events
abbrev pub event_lines : Scripts → List Event → List ℕ
event_lines scripts events = flat_map (event_line scripts) events

-- the first line of the text of a chain: whether it leads from the first call to the second, or the other way round
abbrev pub order_line : Bool → List ℕ
order_line true = codes "before\n"
order_line false = codes "after\n"

-- which part of a call an event is: a half of a fence, or all of it
abbrev pub half_of : Option Kind → Half
half_of (Some (Arrive members collect)) = half.Arrive
half_of (Some (Leave members)) = half.Leave
half_of _ = half.Whole

-- an event as a step of a chain
abbrev pub step_of : Scripts → Event → ChainStep
step_of scripts x = record { call = call_of (plan_of scripts) x; half = half_of (kind (plan_of scripts) x) }

-- the text of a chain from the first of two calls to the second, or the other way round: in lines, or as JSON
abbrev pub chain_form : (json first : Bool) → Scripts → List Event → List ℕ
chain_form false first scripts chain = order_line first ++ event_lines scripts chain
chain_form true first scripts chain = json_chain first scripts (map (step_of scripts) chain)

-- the line of a call whose event isn't live
abbrev pub dead_line : Scripts → CallAt → List ℕ
dead_line scripts call = codes "dead " ++ call_text scripts call ++ codes "\n"

-- the text of two calls that no chain orders, of which these are dead: in lines, or as JSON
abbrev pub unordered_form : Bool → Scripts → List CallAt → List ℕ
unordered_form false scripts dead = codes "unordered\n" ++ flat_map (dead_line scripts) dead
unordered_form true scripts dead = json_unordered scripts dead

-- the first event of a call is live
abbrev pub IsCallLive : Plan → CallAt → Type 0
IsCallLive plan x = Live plan (first_event plan x)

-- the first event of a call is before that of another
abbrev pub IsCallBefore : Plan → CallAt → CallAt → Type 0
IsCallBefore plan x y = Before plan (first_event plan x) (first_event plan y)

-- the first event of a call is before that of another, and this chain between them is the one that is shown
pub record IsCallChain (plan : Plan) (x y : CallAt) (chain : List Event) : Type 0 where
  pub shown : IsShownChain plan (first_event plan x) (first_event plan y) chain
  pub before : IsCallBefore plan x y

-- the call where its event isn't live, and nothing where it is
pub data IsDeadPart (plan : Plan) (x : CallAt) (dead : List CallAt) : Type 0 where
  Dead : (IsCallLive plan x → ⊥) → dead ≡ x ∷ [] → IsDeadPart plan x dead
  Alive : IsCallLive plan x → dead ≡ [] → IsDeadPart plan x dead

-- those of two calls whose event isn't live, x and then y; a call asked against itself is there once
pub data AreDead (plan : Plan) (x y : CallAt) (dead : List CallAt) : Type 0 where
  OfOne : x ≡ y → IsDeadPart plan x dead → AreDead plan x y dead
  OfTwo : (x ≡ y → ⊥) → (first second : List CallAt) → IsDeadPart plan x first → IsDeadPart plan y second → dead ≡ first ++ second → AreDead plan x y dead

-- the text tells whether call x is before call y, else whether y is before x, and else which of them isn't live
pub data IsChainText (json : Bool) (scripts : Scripts) (x y : CallAt) (text : List ℕ) : Type 0 where
  TellsBefore : (chain : List Event) → IsCallChain (plan_of scripts) x y chain → text ≡ chain_form json true scripts chain → IsChainText json scripts x y text
  TellsAfter : (chain : List Event) → (IsCallBefore (plan_of scripts) x y → ⊥) → IsCallChain (plan_of scripts) y x chain →
      text ≡ chain_form json false scripts chain →
      IsChainText json scripts x y text
  TellsUnordered : (dead : List CallAt) → (IsCallBefore (plan_of scripts) x y → ⊥) →
      (IsCallBefore (plan_of scripts) y x → ⊥) → AreDead (plan_of scripts) x y dead →
      text ≡ unordered_form json scripts dead → IsChainText json scripts x y text

-- two calls have one text in each form
abbrev pub OneChainText : Type 0
OneChainText = (json : Bool) (scripts : Scripts) (x y : CallAt) (a b : List ℕ) → IsChainText json scripts x y a → IsChainText json scripts x y b → a ≡ b

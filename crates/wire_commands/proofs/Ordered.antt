-- From what the chains between two events tell to what is written of two calls, with their places.
use Rattle.std.proofs.Common.{◌≡◌, ◌∙◌, sym, subst, ℕ, Bool, true, false, List, Result, Ok, Err, IfOk, Vec, Global}
use Rattle.wire_types.specs.declared.CallAt.{CallAt}
use Rattle.wire_runs.specs.Plan.{Event}
use Rattle.wire_runs.specs.Order.{Before}
use Rattle.wire_runs.specs.Ends.{first_event}
use Rattle.wire_scripts.specs.Scripts.{Scripts}
use Rattle.wire_scripts.specs.Planned.{plan_of}
use Rattle.wire_happens_before.specs.Chain.{IsShownChain}
use Rattle.wire_report.specs.Chain.{AreDead}
use Rattle.wire_report.proofs.Chains.{is_chain, is_not}
use Rattle.wire_types.specs.declared.OutputFormat.{OutputFormat}
use Rattle.wire_types.specs.Forms.{has_places, is_json}
use Rattle.wire_types.specs.declared.Fault.{Fault}
use Rattle.wire_report.specs.Chain.{IsChainText}
use Rattle.wire_commands.specs.Why.{TellsChain, TellsOrder}
use Rattle.wire_commands.specs.Chains.{chain_form, unordered_form, IsPlacedChain, PlacesBefore, PlacesAfter, PlacesUnordered}

module _ (json : Bool) (name : List ℕ) (rows : List (List ℕ)) (s : Scripts) (x y : CallAt) (from to : Event) (text : List ℕ)
    (f : from ≡ first_event (plan_of s) x) (t : to ≡ first_event (plan_of s) y) where
  pub places_before : (chain : List Event) → IsShownChain (plan_of s) from to chain → Before (plan_of s) from to → text ≡ chain_form json name rows true s chain → IsPlacedChain json name rows s x y text
  places_before chain shown before e = PlacesBefore chain (is_chain s x y from to f t chain shown before) e

  pub places_after : (chain : List Event) → (Before (plan_of s) from to → ⊥) → IsShownChain (plan_of s) to from chain → Before (plan_of s) to from → text ≡ chain_form json name rows false s chain →
      IsPlacedChain json name rows s x y text
  places_after chain n shown before e = PlacesAfter chain (is_not s x y from to f t n) (is_chain s y x to from t f chain shown before) e

  pub places_unordered : (dead : List CallAt) → (Before (plan_of s) from to → ⊥) → (Before (plan_of s) to from → ⊥) → AreDead (plan_of s) x y dead → text ≡ unordered_form json name rows s dead →
      IsPlacedChain json name rows s x y text
  places_unordered dead n m are e = PlacesUnordered dead (is_not s x y from to f t n) (is_not s y x to from t f m) are e

-- the order of two calls in a form with places, and in one without
pub order_placed : (form : OutputFormat) (name : List ℕ) (rows : List (List ℕ)) (s : Scripts) (x y : CallAt) (places : Bool) (r : Result (Vec ℕ Global) Fault) → places ≡ has_places form → places ≡ true →
    IfOk r (λ text. IsPlacedChain (is_json form) name rows s x y text.items) → IfOk r (λ text. TellsOrder form name rows s x y text.items)
order_placed form name rows s x y places (Ok text) is_places with tells =
    let placed : true ≡ has_places form = sym with ∙ is_places in subst (λ b. TellsChain b (is_json form) name rows s x y text.items) placed tells
order_placed form name rows s x y places (Err e) is_places with tells = tt

pub order_alone : (form : OutputFormat) (name : List ℕ) (rows : List (List ℕ)) (s : Scripts) (x y : CallAt) (places json : Bool) (r : Result (Vec ℕ Global) Fault) → places ≡ has_places form →
    json ≡ is_json form → places ≡ false → IfOk r (λ text. IsChainText json s x y text.items) → IfOk r (λ text. TellsOrder form name rows s x y text.items)
order_alone form name rows s x y places json (Ok text) is_places is_form none tells =
    let without : false ≡ has_places form = sym none ∙ is_places in
    subst (λ b. TellsChain b (is_json form) name rows s x y text.items) without (subst (λ j. IsChainText j s x y text.items) is_form tells)
order_alone form name rows s x y places json (Err e) is_places is_form none tells = tt

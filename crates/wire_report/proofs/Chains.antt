-- The events of a shown chain are the plan's, and two calls have one text.
use Rattle.std.proofs.Common.{◌≡◌, ◌∙◌, ap, sym, refl, subst, Bool, true, false, ℕ, List, [], ◌++◌, map, Option, Some, None, append_assoc, inl, inr, arith}
use Rattle.std.specs.Prelude.{slice_get, MatchOption}
use Rattle.std.proofs.lemmas.Option.{slice_get_within}
use Rattle.wire_runs.specs.Plan.{Plan, Event, event_of}
use Rattle.wire_types.specs.declared.CallAt.{CallAt}
use Rattle.wire_types.specs.declared.Event.{Event as CodeEvent}
use Rattle.wire_scripts.specs.Scripts.{Scripts}
use Rattle.wire_scripts.specs.Planned.{plan_of}
use Rattle.wire_runs.specs.Order.{Live, Before}
use Rattle.wire_runs.proofs.Fates.{live_within}
use Rattle.wire_runs.proofs.Histories.{before_live, after_live}
use Rattle.wire_happens_before.specs.Clocks.{LeadsTo}
use Rattle.wire_happens_before.specs.Chain.{IsShownChain, begins, goes_on, OneShown}
use Rattle.wire_runs.specs.Ends.{first_event}
use Rattle.wire_runs.proofs.Lists.{slice_get_push_cases, slice_get-map_kept}
use Rattle.wire_report.specs.Chain.{chain_form, unordered_form, IsCallBefore, IsDeadPart, Dead, Alive, AreDead, OfOne, OfTwo}
use Rattle.wire_report.specs.Chain.{IsCallChain, IsChainText, TellsBefore, TellsAfter, TellsUnordered, OneChainText}
use Rattle.wire_report.specs.There.{AreThere}

live_on : {plan : Plan} {x y : Event} → Live plan x → LeadsTo plan x y → Live plan y
live_on {plan} l (inl e) = subst (Live plan) e l
live_on l (inr b) = after_live b

-- each event of a shown chain is live
all_live : {plan : Plan} {x y : Event} {chain : List Event} → IsShownChain plan x y chain → Live plan x → Live plan y → (k : ℕ) (z : Event) → slice_get chain k ≡ Some z → Live plan z
all_live {plan} {x} begins l m k v is = elim (slice_get_push_cases [] x k v is) [
  | inl h ↦ let lt = slice_get_within [] k v h in absurd (omega (arith, lt))
  | inr last ↦ subst (Live plan) last.1 l
]
all_live {plan} {x} (goes_on {y} {z} {chain} s t) l m k v is = elim (slice_get_push_cases chain y k v is) [
  | inl h ↦ all_live s l (live_on l t.leads) k v h
  | inr last ↦ subst (Live plan) last.1 m
]

pub shown_there : (plan : Plan) (x y : Event) (chain : List CodeEvent) → IsShownChain plan x y (map event_of chain) → Before plan x y → AreThere plan chain
shown_there plan x y chain s b k e is =
    live_within plan (event_of e)
    (all_live s (before_live b) (after_live b) k (event_of e) (slice_get-map_kept event_of chain k e is))

dead_once : {plan : Plan} {x : CallAt} {a b : List CallAt} → IsDeadPart plan x a → IsDeadPart plan x b → a ≡ b
dead_once (Dead n e) (Dead m f) = e ∙ sym f
dead_once (Dead n e) (Alive l f) = absurd (n l)
dead_once (Alive l e) (Dead n f) = absurd (n l)
dead_once (Alive l e) (Alive m f) = e ∙ sym f

deads_once : {plan : Plan} {x y : CallAt} {a b : List CallAt} → AreDead plan x y a → AreDead plan x y b → a ≡ b
deads_once (OfOne e d) (OfOne f c) = dead_once d c
deads_once (OfOne e d) (OfTwo n c1 c2 h i is) = absurd (n e)
deads_once (OfTwo n d1 d2 h i is) (OfOne e d) = absurd (n e)
deads_once (OfTwo n d1 d2 h i is) (OfTwo m c1 c2 j k js) = is ∙ (λ t. dead_once h j t ++ dead_once i k t) ∙ sym js

chain_once : {plan : Plan} {x y : CallAt} {a b : List Event} → OneShown → IsCallChain plan x y a → IsCallChain plan x y b → a ≡ b
chain_once once h k = once _ _ _ _ _ h.before h.shown k.shown

pub text_once : OneShown → OneChainText
text_once once json s x y a b first second = go first second
  where
    go : IsChainText json s x y a → IsChainText json s x y b → a ≡ b
    go (TellsBefore c h e) (TellsBefore d k f) = e ∙ ap (chain_form json true s) (chain_once once h k) ∙ sym f
    go (TellsBefore c h e) (TellsAfter d n k f) = absurd (n h.before)
    go (TellsBefore c h e) (TellsUnordered d n m k f) = absurd (n h.before)
    go (TellsAfter c n h e) (TellsBefore d k f) = absurd (n k.before)
    go (TellsAfter c n h e) (TellsAfter d m k f) = e ∙ ap (chain_form json false s) (chain_once once h k) ∙ sym f
    go (TellsAfter c n h e) (TellsUnordered d m o k f) = absurd (o h.before)
    go (TellsUnordered c n m h e) (TellsBefore d k f) = absurd (n k.before)
    go (TellsUnordered c n m h e) (TellsAfter d o k f) = absurd (m k.before)
    go (TellsUnordered c n m h e) (TellsUnordered d o p k f) = e ∙ ap (unordered_form json s) (deads_once h k) ∙ sym f

-- what the chains between the two events tell
module _ (s : Scripts) (x y : CallAt) (from to : Event) (is_from : from ≡ first_event (plan_of s) x) (is_to : to ≡ first_event (plan_of s) y) where
  pub is_chain : (chain : List Event) → IsShownChain (plan_of s) from to chain → Before (plan_of s) from to → IsCallChain (plan_of s) x y chain
  is_chain chain shown before = record {
    shown = subst (λ v. IsShownChain (plan_of s) v (first_event (plan_of s) y) chain) is_from (subst (λ w. IsShownChain (plan_of s) from w chain) is_to shown);
    before = subst (λ v. Before (plan_of s) v (first_event (plan_of s) y)) is_from (subst (λ w. Before (plan_of s) from w) is_to before);
  }

  pub is_not : (Before (plan_of s) from to → ⊥) → IsCallBefore (plan_of s) x y → ⊥
  is_not n before = n (subst (λ v. Before (plan_of s) v to) (sym is_from) (subst (λ w. Before (plan_of s) (first_event (plan_of s) x) w) (sym is_to) before))

pub tells_before : (json : Bool) (s : Scripts) (x y : CallAt) (from to : Event) (chain : List Event) (text : List ℕ) → from ≡ first_event (plan_of s) x → to ≡ first_event (plan_of s) y
    → IsShownChain (plan_of s) from to chain → Before (plan_of s) from to → text ≡ chain_form json true s chain → IsChainText json s x y text
tells_before json s x y from to chain text f t shown before e = TellsBefore chain (is_chain s x y from to f t chain shown before) e

pub tells_after : (json : Bool) (s : Scripts) (x y : CallAt) (from to : Event) (chain : List Event) (text : List ℕ) → from ≡ first_event (plan_of s) x → to ≡ first_event (plan_of s) y
    → (Before (plan_of s) from to → ⊥) → IsShownChain (plan_of s) to from chain → Before (plan_of s) to from → text ≡ chain_form json false s chain → IsChainText json s x y text
tells_after json s x y from to chain text f t n shown before e = TellsAfter chain (is_not s x y from to f t n) (is_chain s y x to from t f chain shown before) e

pub tells_unordered : (json : Bool) (s : Scripts) (x y : CallAt) (from to : Event) (calls : List CallAt) (text : List ℕ) → from ≡ first_event (plan_of s) x → to ≡ first_event (plan_of s) y
    → (Before (plan_of s) from to → ⊥) → (Before (plan_of s) to from → ⊥) → AreDead (plan_of s) x y calls → text ≡ unordered_form json s calls → IsChainText json s x y text
tells_unordered json s x y from to calls text f t n m dead e = TellsUnordered calls (is_not s x y from to f t n) (is_not s y x to from t f m) dead e

-- the dead of two calls, the second after the first
pub two_dead : (plan : Plan) (x y : CallAt) (old mid new first second : List CallAt) → (x ≡ y → ⊥) → IsDeadPart plan x first → mid ≡ old ++ first → IsDeadPart plan y second → new ≡ mid ++ second
    → (dead : List CallAt) × AreDead plan x y dead × (new ≡ old ++ dead)
two_dead plan x y old mid new first second apart d is_mid e is_new =
    (first ++ second, OfTwo apart first second d e refl, is_new ∙ ap (λ t. t ++ second) is_mid ∙ append_assoc old first second)

pub none_of : {A N : Type 0} (S : A → Type 0) (o : Option A) → ((x : A) → o ≡ Some x → ⊥) → MatchOption o N S → N
none_of S None h m = m
none_of S (Some x) h m = absurd (h x refl)

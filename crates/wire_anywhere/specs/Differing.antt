-- Which calls reply differently on different placings.
use Rattle.std.specs.Prelude.{◌≡◌, ◌≢◌, ℕ, zero, suc, List, [], ◌∷◌, ◌++◌, true, Option, Some, is_some, MatchOption, option_to_list}
use Rattle.wire_types.specs.declared.Reply.{Reply}
use Rattle.wire_types.specs.declared.Status.{Status}
use Rattle.wire_types.specs.declared.Verb.{Verb}
use Rattle.wire_types.specs.declared.Verb.TheVariants as verb
use Rattle.wire_types.specs.declared.Value.{Value}
use Rattle.wire_runs.specs.Plan.{Plan, Event, Get, GetNow, Fixed, kind, process_count}
use Rattle.wire_runs.specs.State.{Answer}
use Rattle.wire_runs.specs.Ends.{given, call_of}
use Rattle.wire_runs.specs.Order.{Stores, Before}
use Rattle.wire_runs.specs.Laws.{plain_end}
use Rattle.wire_runs.specs.Placings.{paired}
use Rattle.wire_runs.specs.PlacingLaws.{plain_reply, RepliesAlike}
use Rattle.wire_anywhere.specs.declared.differing.Differing.{Differing}

-- the call replies with this status in the plain run of the plan
abbrev pub RepliesWith : Plan → Event → Status → Type 0
RepliesWith plan x status =
    (answer : Answer) × (value : Value) × (plain_reply plan x ≡ Some answer) × (given plan answer ≡ record { status = status; value = value } ∷ [])

-- the event is a get of the key, or a get-now, as the verb says
abbrev pub ReadsKey : Plan → Event → Verb → ℕ → ℕ → Type 0
ReadsKey plan x verb.Get owner key = kind plan x ≡ Some (Get owner key)
ReadsKey plan x verb.GetNow owner key = kind plan x ≡ Some (GetNow owner key)
ReadsKey plan x _ owner key = ⊥

-- x asks for another process's key, is answered, and its reply isn't the same on every placing; with its replies where it and the owner have
-- a node of their own, and where it is alone on its node
pub record IsDiffering (plan : Plan) (x : Event) (d : Differing) : Type 0 where
  pub call : d.call ≡ call_of plan x
  pub asks : ReadsKey plan x d.verb d.owner.number d.key
  pub another : x.proc ≢ d.owner.number
  pub answered : is_some (plain_reply plan x) ≡ true
  pub differs : ¬ (RepliesAlike plan x)
  pub near : RepliesWith (paired plan d.owner.number x.proc) x d.near
  pub alone : RepliesWith (paired plan x.proc x.proc) x d.alone

-- nothing is told of the event: it is a call of a reserved key or name, or its reply is the same on every placing
pub data IsUntold (plan : Plan) (x : Event) : Type 0 where
  Reserved : (reply : Reply) → kind plan x ≡ Some (Fixed reply) → IsUntold plan x
  Alike : RepliesAlike plan x → IsUntold plan x

abbrev pub IsDifferingTold : Plan → Event → Option Differing → Type 0
IsDifferingTold plan x told = MatchOption told (IsUntold plan x) (λ d. IsDiffering plan x d)

-- what is told of p's first n events, in their order
abbrev pub AreToldTo : Plan → ℕ → ℕ → List Differing → Type 0
AreToldTo plan p zero found = found ≡ []
AreToldTo plan p (suc n) found =
    (before : List Differing) × (told : Option Differing) × AreToldTo plan p n before × IsDifferingTold plan (record { proc = p; at = n }) told
    × (found ≡ before ++ option_to_list told)

-- what is told of the first n processes, of their events that come in the plain run
abbrev pub AreToldBelow : Plan → ℕ → List Differing → Type 0
AreToldBelow plan zero found = found ≡ []
AreToldBelow plan (suc n) found =
    (before : List Differing) × (told : List Differing) × AreToldBelow plan n before × AreToldTo plan n ((plain_end plan).done n) told
    × (found ≡ before ++ told)

-- the answered calls whose reply isn't the same on every placing, in the order of processes and calls
abbrev pub AreDiffering : Plan → List Differing → Type 0
AreDiffering plan found = AreToldBelow plan (process_count plan) found

-- The rest is for the contracts of private functions

-- those are added at the end
abbrev pub AddsDiffering : List Differing → List Differing → (List Differing → Type 0) → Type 0
AddsDiffering old new those = (added : List Differing) × those added × (new ≡ old ++ added)

-- x is a commit of p that stores its key, and it is before the get
pub record IsCommitBefore (plan : Plan) (p key : ℕ) (get x : Event) : Type 0 where
  pub same : x.proc ≡ p
  pub stores : Stores plan x key
  pub before : Before plan x get

abbrev pub NoCommitBefore : Plan → ℕ → ℕ → Event → Type 0
NoCommitBefore plan p key get = (commit : Event) → commit.proc ≡ p → Stores plan commit key → ¬ (Before plan commit get)

-- Less order: a plan that lacks some waits of another plan, on the same nodes.
use Rattle.std.specs.Prelude.{◌≡◌, ℕ, List, [], ◌∷◌, false}
use Rattle.wire_runs.specs.Plan.{Plan, Event, Kind, Arrive, Leave, Get, Publish, LookupWait, Fixed, kinds, node_of}
use Rattle.wire_runs.specs.Order.{PublishesOnce}
use Rattle.wire_runs.specs.Races.{IsSettled}
use Rattle.wire_runs.specs.Embeddings.{IsNameOf, IsSetOf}
use Rattle.wire_runs.specs.Parts.{Piece, Kept, Left, kept_kinds, all_kinds, in_place}

-- one call publishes the name, and none can take it away
abbrev pub IsPublishedOnce : Plan → ℕ → Type 0
IsPublishedOnce plan name = (x : Event) × PublishesOnce plan x name

-- what the small plan may lack of the large one: a lookup-wait of a name that is published once; that publish, if the
-- small plan has no call on the name; a fence that doesn't collect, if the small plan has none over its set; a get, if
-- what gets bring doesn't stay; and a call whose reply is known from the start
abbrev pub MayLack : (small large : Plan) → Kind → Type 0
MayLack small large (LookupWait name) = IsPublishedOnce large name
MayLack small large (Publish name) = IsPublishedOnce large name × ¬ (IsNameOf small name)
MayLack small large (Arrive members collect) = (collect ≡ false) × ¬ (IsSetOf small members)
MayLack small large (Leave members) = ¬ (IsSetOf small members)
MayLack small large (Get owner key) = large.keep ≡ false
MayLack small large (Fixed reply) = Unit {0}
MayLack small large _ = ⊥

abbrev pub LacksWaits : (small large : Plan) → List Piece → Type 0
LacksWaits small large [] = Unit {0}
LacksWaits small large (Kept k ∷ pieces) = LacksWaits small large pieces
LacksWaits small large (Left k ∷ pieces) = MayLack small large k × LacksWaits small large pieces

-- the large plan has the calls of the small one, in each process in their order, and between them what the small one
-- may lack
pub record HasLessOrder (small large : Plan) (pieces : ℕ → List Piece) : Type 0 where
  pub kept : (p : ℕ) → kinds small p ≡ kept_kinds (pieces p)
  pub all : (p : ℕ) → kinds large p ≡ all_kinds (in_place pieces) (pieces p)
  pub lacks : (p : ℕ) → LacksWaits small large (pieces p)
  pub nodes : (p : ℕ) → node_of large p ≡ node_of small p
  pub keeps : large.keep ≡ small.keep

-- where nothing is found in a plan with less order, nothing is found in the plan
abbrev pub LessOrderFinds : Type 0
LessOrderFinds = (small large : Plan) (pieces : ℕ → List Piece) → HasLessOrder small large pieces
    → IsSettled small → IsSettled large

-- Order that is there: a plan, and the same plan with names of its own between its calls, each published once and waited
-- for, which order nothing that the plan doesn't order.
use Rattle.std.specs.Prelude.{◌≡◌, ℕ, ◌<◌, List, [], ◌∷◌, Some, ◌↔◌}
use Rattle.wire_runs.specs.Plan.{Plan, Event, Kind, Publish, LookupWait, kind, kinds, node_of}
use Rattle.wire_runs.specs.Order.{PublishesOnce, Live, Before}
use Rattle.wire_runs.specs.Races.{IsSettled}
use Rattle.wire_runs.specs.Embeddings.{IsNameOf}
use Rattle.wire_runs.specs.Parts.{Piece, Kept, Left, kept_kinds, all_kinds, place_in, in_place}
use Rattle.wire_order_laws.specs.LessOrder.{IsPublishedOnce}

-- a name that the large plan publishes once, and on which the small one has no call
abbrev pub IsNew : (small large : Plan) → ℕ → Type 0
IsNew small large name = IsPublishedOnce large name × ¬ (IsNameOf small name)

-- what the large plan may have besides: the publish of such a name, and lookup-waits of it
abbrev pub MayAdd : (small large : Plan) → Kind → Type 0
MayAdd small large (Publish name) = IsNew small large name
MayAdd small large (LookupWait name) = IsNew small large name
MayAdd small large _ = ⊥

abbrev pub AddsNames : (small large : Plan) → List Piece → Type 0
AddsNames small large [] = Unit {0}
AddsNames small large (Kept k ∷ pieces) = AddsNames small large pieces
AddsNames small large (Left k ∷ pieces) = MayAdd small large k × AddsNames small large pieces

-- the event of the small plan stands in its process before that of the large one; and behind it
abbrev pub IsAhead : (ℕ → List Piece) → Event → Event → Type 0
IsAhead pieces x u = (x.proc ≡ u.proc) × (place_in (pieces x.proc) x.at < u.at)

abbrev pub IsBehind : (ℕ → List Piece) → Event → Event → Type 0
IsBehind pieces y w = (y.proc ≡ w.proc) × (w.at < place_in (pieces y.proc) y.at)

-- in the large plan the event waits for a name on which the small one has no call
pub record AwaitsNew (small large : Plan) (w : Event) (name : ℕ) : Type 0 where
  pub is : kind large w ≡ Some (LookupWait name)
  pub new : ¬ (IsNameOf small name)

-- y is a live event of the small plan, and stands behind an added wait for the name that u publishes
pub record HearsOf (small large : Plan) (pieces : ℕ → List Piece) (u y : Event) : Type 0 where
  pub name : ℕ
  pub publishes : PublishesOnce large u name
  pub wait : Event
  pub waits : AwaitsNew small large wait name
  pub behind : IsBehind pieces y wait
  pub alive : Live small y

-- the large plan has the calls of the small one, and names of its own between them. Where y is told of a publish, what
-- stands ahead of the publish is before y in the small plan; and so is something behind each wait that is added ahead of
-- the publish
pub record AddsNoOrder (small large : Plan) (pieces : ℕ → List Piece) : Type 0 where
  pub kept : (p : ℕ) → kinds small p ≡ kept_kinds (pieces p)
  pub all : (p : ℕ) → kinds large p ≡ all_kinds (in_place pieces) (pieces p)
  pub adds : (p : ℕ) → AddsNames small large (pieces p)
  pub nodes : (p : ℕ) → node_of large p ≡ node_of small p
  pub keeps : large.keep ≡ small.keep
  pub known : (u y : Event) → HearsOf small large pieces u y → (x : Event) → IsAhead pieces x u → Before small x y
  pub passed : (u y : Event) → HearsOf small large pieces u y → (v : Event) (name : ℕ) → AwaitsNew small large v name
      → v.proc ≡ u.proc → v.at < u.at → (x : Event) × IsBehind pieces x v × Before small x y

-- nothing is found with such names exactly where nothing is found without them
abbrev pub OrderThereFinds : Type 0
OrderThereFinds = (small large : Plan) (pieces : ℕ → List Piece) → AddsNoOrder small large pieces
    → IsSettled large ↔ IsSettled small

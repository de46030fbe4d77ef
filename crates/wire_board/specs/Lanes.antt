-- What clauses see of a lane, and what its type keeps.
use Rattle.std.specs.Prelude.{◌≡◌, ◌≢◌, ◌↔◌, ◌⊎◌, ℕ, suc, true, ◌++◌, ◌≤◌, List, [], Option, Some, None, IfSome, Vec}
use Rattle.std.specs.Prelude.{length, slice_get, slice_index}
use Rattle.std.specs.List.{All}
use Rattle.std.specs.declared.alloc.Global.{Global}
use Rattle.wire_runs.specs.Plan.{Plan, Event, event_count, process_count}
use Rattle.wire_runs.specs.Order.{Edge}
use Rattle.wire_scripts.specs.Scripts.{Scripts}
use Rattle.wire_scripts.specs.Planned.{plan_of}
use Rattle.wire_fates.specs.declared.Fate.{Fate}
use Rattle.wire_fates.specs.declared.Fate.TheVariants.{Waits}
use Rattle.wire_fates.specs.Fates.{IsFateOf}
use Rattle.wire_board.specs.Cuts.{shows_event}
use Rattle.wire_board.specs.Seats.{BoardIs, SeatIs, place_of, next_of}

-- the seat of its rank, and what the rank's events did
pub record LaneIs : Type 0 where
  pub seat : SeatIs
  pub trail : List Fate

-- the fates of the rank's first events, in their order. None of them is to wait
abbrev pub AreFates : Plan → ℕ → List Fate → Type 0
AreFates plan rank trail = (i : ℕ) (fate : Fate) → slice_get trail i ≡ Some fate → IsFateOf plan (record { proc = rank; at = i }) fate × (fate ≢ Waits)

-- the seat is of this board, and the board was made of this settled plan; the trail has the fates of the rank's first
-- events, as many as are done, and room for all
pub record IsLane (board : BoardIs) (settled : Scripts) (seat : SeatIs) (trail : List Fate) (capacity : ℕ) : Type 0 where
  pub board_is : seat.board ≡ board
  pub plan_is : board.plan ≡ settled
  pub as_long : length trail ≡ place_of seat
  pub fates : AreFates (plan_of settled) seat.rank trail
  pub room : event_count (plan_of settled) seat.rank ≤ capacity

-- the trail has the fates of the rank's first events, as many as are done
pub record IsTrail (lane : LaneIs) : Type 0 where
  pub as_long : length lane.trail ≡ place_of lane.seat
  pub fates : AreFates (plan_of lane.seat.board.plan) lane.seat.rank lane.trail

-- n entries more
pub record Grows (old new : List Fate) (n : ℕ) : Type 0 where
  pub added : List Fate
  pub is : new ≡ old ++ added
  pub count : length added ≡ n

-- a lane of the same rank on the same board
pub record SameLane (old new : LaneIs) : Type 0 where
  pub board : new.seat.board ≡ old.seat.board
  pub rank : new.seat.rank ≡ old.seat.rank

-- the lane once its seat has read words: nothing else changed
pub record HasRead (old new : LaneIs) : Type 0 where
  pub board : new.seat.board ≡ old.seat.board
  pub rank : new.seat.rank ≡ old.seat.rank
  pub trail : new.trail ≡ old.trail
  pub place : place_of new.seat ≡ place_of old.seat
  pub rises : (k : ℕ) → slice_index old.seat.known k ≤ slice_index new.seat.known k

-- these are sources of the next event of the seat's rank, and the seat knows all others to be done
pub record AreLeft (plan : Plan) (seat : SeatIs) (xs : List Event) : Type 0 where
  pub only : (k : ℕ) (x : Event) → slice_get xs k ≡ Some x → Edge plan x (next_of seat)
  pub all : (x : Event) → Edge plan x (next_of seat) → (shows_event seat.known x ≡ true) ⊎ ((k : ℕ) × (slice_get xs k ≡ Some x))

-- z waits for each event for which y waits, but perhaps for the one before y in its process
abbrev pub WaitsForMore : Plan → Event → Event → Type 0
WaitsForMore plan y z = (x : Event) → Edge plan x y → ((x.proc ≡ y.proc) × (suc x.at ≡ y.at)) ⊎ Edge plan x z

-- the same events stand in both lists, in whatever order and however often
pub record SameEvents (xs ys : List Event) : Type 0 where
  pub to : (k : ℕ) (x : Event) → slice_get xs k ≡ Some x → (j : ℕ) × (slice_get ys j ≡ Some x)
  pub from : (k : ℕ) (x : Event) → slice_get ys k ≡ Some x → (j : ℕ) × (slice_get xs j ≡ Some x)

-- how many lanes there are
pub record LanesAre : Type 0 where
  pub count : ℕ

-- a lane with this seat, of whose rank nothing is done
abbrev pub new_lane : SeatIs → LaneIs
new_lane seat = record { seat = seat; trail = [] }

-- the lane is of this rank, and its entries are fates of this plan
pub record IsLaneOf (plan : Plan) (rank : ℕ) (lane : LaneIs) : Type 0 where
  pub rank_is : lane.seat.rank ≡ rank
  pub fates : AreFates plan rank lane.trail

-- such a lane for each rank of the plan, in process order
pub record AreLanesOf (plan : Plan) (lanes : List LaneIs) : Type 0 where
  pub count : length lanes ≡ process_count plan
  pub each : (r : ℕ) (lane : LaneIs) → slice_get lanes r ≡ Some lane → IsLaneOf plan r lane

-- the lane's trail: as many entries as its seat's place says
pub record IsTrailOf (lane : LaneIs) (trail : List Fate) : Type 0 where
  pub is : trail ≡ lane.trail
  pub as_long : length trail ≡ place_of lane.seat

-- the trail of each of these lanes, in their order
pub record AreTrailsOf (lanes : List LaneIs) (trails : List (Vec Fate Global)) : Type 0 where
  pub count : length trails ≡ length lanes
  pub each : (r : ℕ) (lane : LaneIs) (trail : Vec Fate Global) → slice_get lanes r ≡ Some lane → slice_get trails r ≡ Some trail → IsTrailOf lane trail.items

-- what these lanes tell: their trails, exactly where they are the lanes of the plan
pub record Tell (plan : Plan) (lanes : List LaneIs) (told : Option (Vec (Vec Fate Global) Global)) : Type 0 where
  pub some : (told ≢ None) ↔ AreLanesOf plan lanes
  pub trails : IfSome told (λ trails. AreTrailsOf lanes trails.items)

-- what comes from under so many locks, in their order: from under each lock a lane, whose trail has the fates of its
-- rank's first events, as many as are done
pub record AreUnlocked (count : ℕ) (lanes : List LaneIs) : Type 0 where
  pub as_many : length lanes ≡ count
  pub keep : All IsTrail lanes

-- it is what the lanes tell that come from under so many locks
pub record IsToldByLanes (plan : Plan) (count : ℕ) (told : Option (Vec (Vec Fate Global) Global)) : Type 0 where
  pub lanes : List LaneIs
  pub unlocked : AreUnlocked count lanes
  pub tell : Tell plan lanes told

-- the trail of a lane of this rank, whole: as long as the place of the lane's seat
pub record IsLaneTrail (rank : ℕ) (trail : List Fate) : Type 0 where
  pub lane : LaneIs
  pub rank_is : lane.seat.rank ≡ rank
  pub keeps : IsTrail lane
  pub is : trail ≡ lane.trail

-- the r-th trail is that of a lane of rank r
abbrev pub AreLaneTrails : List (Vec Fate Global) → Type 0
AreLaneTrails trails = (r : ℕ) (trail : Vec Fate Global) → slice_get trails r ≡ Some trail → IsLaneTrail r trail.items

-- a trail for each rank of the plan, in process order
pub record AreTrails (plan : Plan) (trails : List (Vec Fate Global)) : Type 0 where
  pub count : length trails ≡ process_count plan
  pub each : (r : ℕ) (trail : Vec Fate Global) → slice_get trails r ≡ Some trail → AreFates plan r trail.items

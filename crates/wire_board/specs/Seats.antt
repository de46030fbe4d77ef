-- What clauses see of a board and of its seats.
use Rattle.std.specs.Prelude.{◌≡◌, ℕ, zero, suc, ◌-◌, ◌<◌, ◌≤◌, List, [], ◌∷◌, length, replicate, slice_index}
use Rattle.atomic_table.specs.Table.{Me}
use Rattle.atomic_table.specs.Seated.{TableId}
use Rattle.wire_runs.specs.Plan.{Event}
use Rattle.wire_scripts.specs.Scripts.{Scripts}
use Rattle.wire_scripts.specs.Planned.{plan_of}
use Rattle.wire_board.specs.declared.hold.Hold.{Hold}
use Rattle.wire_board.specs.Cuts.{procs_of}
use Rattle.wire_board.specs.Positions.{hold, holds_from, next_in, ShowsNextIn, ImpliesNextIn}

-- which board it is, and the scripts of the plan of which it was made
pub record BoardIs : Type 0 where
  pub id : TableId
  pub plan : Scripts

-- the seat's board, its rank, and of each process how many events the seat knows to be done
pub record SeatIs : Type 0 where
  pub board : BoardIs
  pub rank : ℕ
  pub known : List ℕ

-- how many events of its rank are done
abbrev pub place_of : SeatIs → ℕ
place_of seat = slice_index seat.known seat.rank

abbrev pub hold_of : SeatIs → Hold
hold_of seat = hold seat.board.plan seat.rank seat.known

-- the next event of its rank
abbrev pub next_of : SeatIs → Event
next_of seat = next_in (hold_of seat)

-- there is a next event, its fate isn't to wait, and the positions that the seat knows show all its sources
abbrev pub ShowsNext : SeatIs → Type 0
ShowsNext seat = ShowsNextIn (plan_of seat.board.plan) (hold_of seat)

-- there is a next event, its fate isn't to wait, and the positions that the seat knows imply that all its sources are
-- done
abbrev pub ImpliesNext : SeatIs → Type 0
ImpliesNext seat = ImpliesNextIn (plan_of seat.board.plan) (hold_of seat)

-- what the table knows of a seat
pub record IsHeld (me : Me (Unit {0}) (List Hold)) (seat : SeatIs) : Type 0 where
  pub knows : me ≡ (hold_of seat ∷ [], [])
  pub inside : seat.rank < procs_of seat.board.plan
  pub size : length seat.known ≡ procs_of seat.board.plan

-- a token of this board's table with these ranks
abbrev pub HasToken : BoardIs → List Hold → TableId → Me (Unit {0}) (List Hold) → Type 0
HasToken board holds id me = (id ≡ board.id) × (me ≡ (holds, []))

-- the ranks from r on
abbrev pub ranks_from : BoardIs → ℕ → List Hold
ranks_from board r = holds_from board.plan r (procs_of board.plan - r)

-- the seat's place is its word, and it knows nothing above the words
abbrev pub IsTrueOf : List ℕ → SeatIs → Type 0
IsTrueOf words seat = (slice_index words seat.rank ≡ place_of seat) × ((k : ℕ) → slice_index seat.known k ≤ slice_index words k)

-- a seat of the rank at place 0, which knows of no event that it is done
abbrev pub opening_seat : BoardIs → ℕ → SeatIs
opening_seat board r = record { board = board; rank = r; known = replicate (procs_of board.plan) 0 }

-- such seats of n ranks from r on
abbrev pub seats_from : BoardIs → ℕ → ℕ → List SeatIs
seats_from board r zero = []
seats_from board r (suc n) = opening_seat board r ∷ seats_from board (suc r) n

-- one seat for each rank, in process order
abbrev pub opening_seats : BoardIs → List SeatIs
opening_seats board = seats_from board 0 (procs_of board.plan)

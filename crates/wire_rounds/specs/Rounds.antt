-- A round and its passes, and what a take does to a pass.
use Rattle.std.specs.Prelude.{◌≡◌, ℕ, ◌+◌, ◌<◌, ◌^◌, List, [], ◌∷◌, length, map, slice_set, ⊤}
use mathlib.Core.Option.{some}
use lib.ListN.{get_elem?}
use Rattle.crossbeam_deque.specs.Handles as deque
use Rattle.crossbeam_deque.specs.declared.handles.Worker.{Worker}
use Rattle.crossbeam_deque.specs.declared.handles.Stealer.{Stealer}
use Rattle.std.specs.declared.alloc.Global.{Global}
use Rattle.wire_rounds.specs.declared.rule.Piece.{Piece}
use Rattle.wire_rounds.specs.declared.rule.DequeView.{DequeView}
use Rattle.wire_rounds.specs.declared.rule.DequeRule.{DequeRule}
use Rattle.wire_rounds.specs.declared.round.StealRound.{StealRound}
use Rattle.wire_rounds.specs.declared.round.Pass.{Pass}
use Rattle.wire_rounds.specs.declared.round.Take.{Take}
use Rattle.wire_rounds.specs.declared.round.Take.TheVariants.{Got, Empty, Again}
use Rattle.wire_rounds.specs.Views.{all_parts, Takes, TookRising, TookWithin}
use Rattle.wire_rounds.specs.Shares.{deal_of, share_of}

-- the end of a deque at which its own worker pushes and pops
abbrev pub Owner : Type 0
Owner = Worker Piece Global DequeView DequeRule

-- a handle with which others steal from a deque
abbrev pub Thief : Type 0
Thief = Stealer Piece Global DequeView DequeRule

-- what a pass needs to steal from one deque
abbrev pub Permit : Type 0
Permit = deque.Pass Piece DequeView Global

abbrev pub round_of : StealRound → ℕ
round_of r = r.round

-- how many processes have a piece
abbrev pub ranks_of : StealRound → ℕ
ranks_of r = r.ranks

abbrev pub workers_of : StealRound → ℕ
workers_of r = length r.thieves.items

abbrev pub worker_of : Pass → ℕ
worker_of p = p.worker

abbrev pub IsDealOf : ℕ → ℕ → ℕ → StealRound → Type 0
IsDealOf round ranks workers r = (round_of r ≡ round) × (ranks_of r ≡ ranks) × (workers_of r ≡ workers)

-- all pieces of the round, each once, in process order
abbrev pub pieces_of : StealRound → List Piece
pieces_of r = deal_of (round_of r) (ranks_of r)

-- it has the number of the round, and its process is one of those that have a piece
abbrev pub IsPieceOf : StealRound → Piece → Type 0
IsPieceOf r x = (x.round ≡ round_of r) × (x.rank.number < ranks_of r)

-- the pieces that are dealt to worker k
abbrev pub share_at : StealRound → ℕ → List Piece
share_at r k = share_of k (workers_of r) (round_of r) (ranks_of r)

-- what the pass knows of its own deque
abbrev pub own_view : Pass → DequeView
own_view p = deque.worker_view p.own

-- what it knows of each deque as a thief
abbrev pub permit_views : Pass → List DequeView
permit_views p = map (λ (t : Permit). deque.view t) p.permits.items

-- a permit of deque k of the round. What was taken with it rises, and is no more than was dealt
abbrev pub IsPermit : StealRound → ℕ → Thief → Permit → Type 0
IsPermit r k s t =
    deque.IsPassOf (deque.stealer_deque s) t × ((deque.view t).parts ≡ 1)
    × ((deque.view t).dealt ≡ share_at r k)
    × TookRising (deque.view t) × TookWithin (deque.view t)

-- A pass of the round. It has the deque of its worker, with all parts that the permits of that deque don't have, and a
-- permit for each deque. Each of these knows what was dealt to its deque, and what the pass took of it rises and is no
-- more than that. With the permit of its own deque it took nothing.
pub record IsPassOf (r : StealRound) (p : Pass) : Type 0 where
  pub within : worker_of p < workers_of r
  pub few : workers_of r < 2 ^ 64
  pub own : (s : Thief) → get_elem? r.thieves.items (worker_of p) ≡ some s → deque.worker_deque p.own ≡ deque.stealer_deque s
  pub fifo : deque.worker_flavor p.own ≡ 0
  pub parts : (own_view p).parts + workers_of r ≡ all_parts
  pub dealt : (own_view p).dealt ≡ share_at r (worker_of p)
  pub rising : TookRising (own_view p)
  pub bounded : TookWithin (own_view p)
  pub count : length p.permits.items ≡ workers_of r
  pub permits : (k : ℕ) (s : Thief) (t : Permit) → get_elem? r.thieves.items k ≡ some s → get_elem? p.permits.items k ≡ some t → IsPermit r k s t
  pub unused : (t : Permit) → get_elem? p.permits.items (worker_of p) ≡ some t → (deque.view t).taken ≡ []
  pub fifos : (k : ℕ) (s : Thief) → get_elem? r.thieves.items k ≡ some s → deque.stealer_flavor s ≡ 0

-- all passes of the round, in the order of their workers
abbrev pub ArePassesOf : StealRound → List Pass → Type 0
ArePassesOf r ps =
    (length ps ≡ workers_of r) × ((k : ℕ) (p : Pass) → get_elem? ps k ≡ some p → (worker_of p ≡ k) × IsPassOf r p)

-- the one of a piece that was taken, the other where none was
abbrev pub MatchTake : Take → (Piece → Type 0) → Type 0 → Type 0
MatchTake (Got x) got none = got x
MatchTake Empty got none = none
MatchTake Again got none = none

abbrev pub IfGot : Take → (Piece → Type 0) → Type 0
IfGot take got = MatchTake take got ⊤

-- the pass took a piece of its own deque, and nothing else
abbrev pub TookOwn : Pass → Pass → Piece → Type 0
TookOwn old new x = Takes (own_view old) (x ∷ []) (own_view new) × (permit_views new ≡ permit_views old)

-- the pass took a piece of deque k as a thief, and nothing else
abbrev pub TookAt : ℕ → Pass → Pass → Piece → Type 0
TookAt k old new x =
    (v : DequeView) × (w : DequeView) × (get_elem? (permit_views old) k ≡ some v) × Takes v (x ∷ []) w
    × (permit_views new ≡ slice_set (permit_views old) k w) × (own_view new ≡ own_view old)

-- the pass took nothing
abbrev pub TookNone : Pass → Pass → Type 0
TookNone old new = (own_view new ≡ own_view old) × (permit_views new ≡ permit_views old)

-- The deques of a round while it is dealt, and while it is brought to its end. Only private contracts cite this.
use Rattle.std.specs.Prelude.{◌≡◌, ℕ, ◌+◌, ◌-◌, ◌<◌, List, [], ◌++◌, length}
use mathlib.Core.Option.{some}
use lib.ListN.{get_elem?}
use Rattle.crossbeam_deque.specs.Handles as deque
use Rattle.wire_rounds.specs.declared.rule.Piece.{Piece}
use Rattle.wire_rounds.specs.declared.round.Pass.{Pass}
use Rattle.wire_rounds.specs.Views.{deque_view, all_parts}
use Rattle.wire_rounds.specs.Rules.{joined}
use Rattle.wire_rounds.specs.Shares.{share_of}
use Rattle.wire_rounds.specs.Rounds.{Owner, Thief, Permit, own_view}
use Rattle.wire_rounds.specs.Taken.{stolen}

-- the lists are of one length, and R holds of each two that stand at one place
abbrev pub EachPair : {A B : Type 0} → (A → B → Type 0) → List A → List B → Type 0
EachPair {A} {B} R xs ys = (length xs ≡ length ys) × ((k : ℕ) (x : A) (y : B) → get_elem? xs k ≡ some x → get_elem? ys k ≡ some y → R x y)

abbrev pub SameDeque : Owner → Owner → Type 0
SameDeque a b = (deque.worker_deque b ≡ deque.worker_deque a) × (deque.worker_flavor b ≡ deque.worker_flavor a)

-- the pieces stand in a deque from which nobody took yet
abbrev pub IsFilled : List Piece → Owner → Type 0
IsFilled pieces own = (deque.worker_flavor own ≡ 0) × (deque.worker_view own ≡ deque_view all_parts 0 pieces [])

-- the deque of a pass, full, with a handle for thieves
abbrev pub IsStart : List Piece → ℕ → Pass → Thief → Type 0
IsStart pieces worker p s =
    (p.worker ≡ worker) × IsFilled pieces p.own × (deque.stealer_deque s ≡ deque.worker_deque p.own) × (deque.stealer_flavor s ≡ 0)

-- a permit of the deque, with one part, with which nothing was taken
abbrev pub IsPermitOf : Owner → Permit → Type 0
IsPermitOf own t =
    deque.IsPassOf (deque.worker_deque own) t × (deque.view t ≡ deque_view 1 0 (deque.worker_view own).dealt [])

-- the pass gave one part away, and is the same otherwise
abbrev pub GaveOne : Pass → Pass → Type 0
GaveOne a b =
    (b.worker ≡ a.worker) × SameDeque a.own b.own × (b.permits ≡ a.permits)
    × (own_view b ≡ deque_view ((own_view a).parts - 1) (own_view a).below (own_view a).dealt (own_view a).taken)

-- the passes of the first n workers with no permit yet, with a handle for thieves of each
pub record Made (round ranks workers : ℕ) (passes : List Pass) (thieves : List Thief) (n : ℕ) : Type 0 where
  pub passes_so_far : length passes ≡ n
  pub thieves_so_far : length thieves ≡ n
  pub start : (k : ℕ) (p : Pass) (s : Thief) → get_elem? passes k ≡ some p → get_elem? thieves k ≡ some s → IsStart (share_of k workers round ranks) k p s

-- these passes after n rows of permits were cut, of which the first n have one each
pub record Cutting (first now : List Pass) (n : ℕ) : Type 0 where
  pub same_length : length now ≡ length first
  pub same : (k : ℕ) (a b : Pass) → get_elem? first k ≡ some a → get_elem? now k ≡ some b → (b.worker ≡ a.worker) × SameDeque a.own b.own
  pub views : (k : ℕ) (a b : Pass) → get_elem? first k ≡ some a → get_elem? now k ≡ some b →
      deque.worker_view b.own ≡ deque_view (all_parts - n) 0 (deque.worker_view a.own).dealt []
  pub permits : (k : ℕ) (b : Pass) → get_elem? now k ≡ some b → k < n → EachPair (λ p t. IsPermitOf p.own t) first b.permits.items

-- the permit is one of the deque of the pass
abbrev pub CanTake : Pass → Permit → Type 0
CanTake p t = deque.IsPassOf (deque.worker_deque p.own) t × ((deque.view t).parts ≡ 1) × (0 < (own_view p).parts)

-- the permit was joined into the deque of the pass
abbrev pub TookBack : Pass → Permit → Pass → Type 0
TookBack a t b = (b.worker ≡ a.worker) × SameDeque a.own b.own × (b.permits ≡ a.permits) × (own_view b ≡ joined (own_view a) (deque.view t))

-- the permits were joined into the deques, each into its own
abbrev pub AreJoined : List Pass → List Permit → List Pass → Type 0
AreJoined old ts new =
    (length new ≡ length old)
    × ((k : ℕ) (a b : Pass) (t : Permit) → get_elem? old k ≡ some a → get_elem? ts k ≡ some t → get_elem? new k ≡ some b → TookBack a t b)

-- each pass has a permit of each deque
abbrev pub CanJoinAll : List Pass → Type 0
CanJoinAll ps = (i : ℕ) (p : Pass) → get_elem? ps i ≡ some p → EachPair CanTake ps p.permits.items

-- the deque of pass k got the permits of all passes back, and knows what was taken with them
abbrev pub IsGathered : List Pass → ℕ → Pass → Pass → Type 0
IsGathered ps k a b =
    (b.worker ≡ a.worker) × SameDeque a.own b.own
    × (own_view b ≡ deque_view ((own_view a).parts + length ps) (own_view a).below (own_view a).dealt ((own_view a).taken ++ stolen k ps))

abbrev pub AreGathered : List Pass → List Pass → Type 0
AreGathered old new =
    (length new ≡ length old) × ((k : ℕ) (a b : Pass) → get_elem? old k ≡ some a → get_elem? new k ≡ some b → IsGathered old k a b)

-- Programs: each process chooses its next call by what it was told. A run of a program is an interleaving of the plan of
-- the calls that are made in it.
use Rattle.std.specs.Prelude.{◌≡◌, ℕ, zero, suc, ◌+◌, ◌<◌, ◌≤◌, ◌⊎◌, List, [], ◌∷◌, ◌++◌, map, take, length, get_or, nat_le, Option, Some, None, if◌then◌else◌}
use Rattle.wire_runs.specs.Plan.{Plan, Event, Call, Kind, Leave, kind_at, event_count, process_count}
use Rattle.wire_runs.specs.Fences.{arrivals}
use Rattle.wire_runs.specs.State.{Answer, Silent, Value, Published, State, start}
use Rattle.wire_runs.specs.Step.{IsInterleaving, run, IsEnd}
use Rattle.wire_runs.specs.Laws.{HasOneEnd}
use Rattle.wire_runs.specs.Ends.{call_size, calls_of}
use Rattle.wire_program_laws.specs.Runs.{IsSameHead, IsToldBy}

-- bytes, or whatever numbers tell
abbrev pub Text : Type 0
Text = List ℕ

-- what a process is told by an answer: the answer, and what those say with the calls of which it tells, so the value of
-- a put or of a publish, or what the members of a fence give to it
pub record Told : Type 0 where
  pub answer : Answer
  pub texts : List Text

-- a program: by what a process was told so far, the call that it makes next, or None where it makes no more, and what it
-- says with it
pub record Program : Type 0 where
  pub choose : ℕ → List Told → Option Call
  pub says : ℕ → List Told → Text

abbrev pub event : ℕ → ℕ → Event
event p i = record { proc = p; at = i }

-- the event by which m arrives for the j-th time at a fence over these members, among its first n
abbrev pub arrival_at : Plan → ℕ → List ℕ → ℕ → ℕ → ℕ
arrival_at plan m members j zero = 0
arrival_at plan m members j (suc n) = if nat_le j (arrivals plan m members n) then arrival_at plan m members j n else n

abbrev pub heard_from : (Event → Text) → Answer → List Text
heard_from text (Value put) = text put ∷ []
heard_from text (Published publish) = text publish ∷ []
heard_from text _ = []

-- what the event x, of this kind, lets its process hear, where each event says this text: of a fence what each member
-- gave to it
abbrev pub heard : Plan → (Event → Text) → Event → Option Kind → Answer → List Text
heard plan text x (Some (Leave members)) answer =
    map (λ m. text (event m (arrival_at plan m members (arrivals plan x.proc members x.at) (event_count plan m)))) members
heard plan text x _ answer = heard_from text answer

-- what p is told by its first n events, which are answered so
abbrev pub told : Plan → (Event → Text) → List Answer → ℕ → ℕ → List Told
told plan text answers p zero = []
told plan text answers p (suc n) =
    told plan text answers p n
    ++ record { answer = get_or answers n Silent; texts = heard plan text (event p n) (kind_at plan p n) (get_or answers n Silent) } ∷ []

-- in the state each of these calls of p, the first of which begins with event n, is the one that the program chooses; no
-- call follows one that isn't over, and after the last the program chooses none
abbrev pub AreChosen : Program → Plan → (Event → Text) → State → ℕ → ℕ → List Call → Type 0
AreChosen program plan text s p n [] = program.choose p (told plan text (s.replies p) p n) ≡ None
AreChosen program plan text s p n (call ∷ calls) =
    (program.choose p (told plan text (s.replies p) p n) ≡ Some call)
    × (((s.done p < n + call_size call) × (calls ≡ []))
    ⊎ ((n + call_size call ≤ s.done p) × AreChosen program plan text s p (n + call_size call) calls))

-- w is a run of the program, this plan has the calls that are made in it, with the one at which a process stands, and
-- each event says this text
pub record IsRunOf (program : Program) (plan : Plan) (text : Event → Text) (w : List ℕ) : Type 0 where
  pub is_run : IsInterleaving plan start w
  pub chosen : (p : ℕ) → p < process_count plan → AreChosen program plan text (run plan w) p 0 (calls_of plan p)
  pub said : (p i : ℕ) → i ≤ (run plan w).done p → text (event p i) ≡ program.says p (told plan text ((run plan w).replies p) p i)

-- the run v is told by the run w. Each process has made the first of the calls of w, in their order, and says the same
-- with them; if v is complete, it has made all of them: the plan is the same
pub record IsToldWith (a b : Plan) (text other : Event → Text) (v w : List ℕ) : Type 0 where
  pub tells : IsToldBy a b v w
  pub first_calls : (p : ℕ) → calls_of a p ≡ take (length (calls_of a p)) (calls_of b p)
  pub same_texts : (p i : ℕ) → i ≤ (run a v).done p → text (event p i) ≡ other (event p i)
  pub same_plan : IsEnd a (run a v) → a ≡ b

-- one complete run of a program tells of all its runs, if the plan of its calls has one end
abbrev pub ProgramsTell : Type 0
ProgramsTell = (program : Program) (a b : Plan) (text other : Event → Text) (v w : List ℕ) → HasOneEnd b → IsRunOf program b other w → IsEnd b (run b w)
    → IsRunOf program a text v → IsSameHead a b → IsToldWith a b text other v w

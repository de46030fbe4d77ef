-- A witness of a pair of calls: two runs that can't go on, in which the calls come in different orders, and one of them
-- ends differently as it is written.
use Rattle.std.specs.Prelude.{◌≡◌, ◌≢◌, ◌⊎◌, ℕ, List, ◌++◌, Option, Some, slice_get}
use Rattle.wire_types.specs.declared.CallAt.{CallAt}
use Rattle.wire_types.specs.declared.CallEnd.{CallEnd}
use Rattle.wire_scripts.specs.Scripts.{Scripts, numbers_of}
use Rattle.wire_scripts.specs.Planned.{plan_of}
use Rattle.wire_words.specs.Words.{end_text}
use Rattle.wire_runs.specs.Plan.{Plan, Event}
use Rattle.wire_runs.specs.State.{start, IsDone}
use Rattle.wire_runs.specs.Step.{IsInterleaving, IsEnd, run}
use Rattle.wire_runs.specs.Ends.{first_event, row}
use Rattle.wire_witness.specs.declared.witness.Witness.{Witness}

-- the steps are an interleaving that can't go on
pub record IsWholeRun (plan : Plan) (steps : List ℕ) : Type 0 where
  pub legal : IsInterleaving plan start steps
  pub ended : IsEnd plan (run plan steps)

-- after some of the steps x has happened, and y hasn't
pub record ComesFirst (plan : Plan) (steps : List ℕ) (x y : Event) : Type 0 where
  pub so_far : List ℕ
  pub later : List ℕ
  pub parts : steps ≡ so_far ++ later
  pub came : IsDone (run plan so_far) x
  pub not_yet : ¬ (IsDone (run plan so_far) y)

-- the steps are an interleaving that can't go on, and the call x comes in it before the call y has come: of a fence its
-- arrival
pub record IsRunWithFirst (plan : Plan) (steps : List ℕ) (x y : CallAt) : Type 0 where
  pub whole : IsWholeRun plan steps
  pub first : ComesFirst plan steps (first_event plan x) (first_event plan y)

-- what became of the call after these steps
abbrev pub end_after : Plan → List ℕ → CallAt → Option CallEnd
end_after plan steps call = slice_get (row plan (run plan steps) call.proc.number) call.call

-- one of two calls, and the other
abbrev pub AreBoth : (x y one other : CallAt) → Type 0
AreBoth x y one other = ((one ≡ x) × (other ≡ y)) ⊎ ((one ≡ y) × (other ≡ x))

-- in the first run x comes first, in the second y; and the ends of one of the two calls differ as they are written
pub record IsWitness (scripts : Scripts) (x y : CallAt) (witness : Witness) : Type 0 where
  pub first : IsRunWithFirst (plan_of scripts) (numbers_of witness.first.items) x y
  pub second : IsRunWithFirst (plan_of scripts) (numbers_of witness.second.items) y x
  pub both : AreBoth x y witness.call witness.other
  pub first_end : end_after (plan_of scripts) (numbers_of witness.first.items) witness.call ≡ Some witness.first_end
  pub second_end : end_after (plan_of scripts) (numbers_of witness.second.items) witness.call ≡ Some witness.second_end
  pub differ : end_text scripts witness.first_end ≢ end_text scripts witness.second_end

-- Leaner plans: what is left of a plan by steps each of which hides no finding. An instance of a pattern that has the
-- calls of a plan that matter, and no more than its order, is leaner than the plan.
use Rattle.std.specs.Prelude.{ℕ, List, Bool}
use Rattle.wire_runs.specs.Plan.{Plan}
use Rattle.wire_runs.specs.Races.{IsSettled}
use Rattle.wire_runs.specs.Parts.{Piece}
use Rattle.wire_order_laws.specs.LessOrder.{HasLessOrder}
use Rattle.wire_order_laws.specs.OrderThere.{AddsNoOrder}
use Rattle.wire_order_laws.specs.Unread.{IsBare}
use Rattle.wire_order_laws.specs.WholeFences.{IsWithoutFences}

-- the lean plan is the plan without some calls that order it, or with names that order nothing, or without what nobody
-- gets, or without some whole fences; or it is leaner than such a plan
pub data IsLeaner : Plan → Plan → Type 0 where
  LacksOrder : {lean plan : Plan} (pieces : ℕ → List Piece) → HasLessOrder lean plan pieces → IsLeaner lean plan
  TellsOrder : {lean plan : Plan} (pieces : ℕ → List Piece) → AddsNoOrder plan lean pieces → IsLeaner lean plan
  LacksUnread : {lean plan : Plan} → IsBare lean plan → IsLeaner lean plan
  LacksFences : {lean plan : Plan} (gone : List ℕ → ℕ → Bool) → IsWithoutFences gone lean plan → IsLeaner lean plan
  Further : {lean middle plan : Plan} → IsLeaner lean middle → IsLeaner middle plan → IsLeaner lean plan

-- where nothing is found in a leaner plan, nothing is found in the plan
abbrev pub LeanerTells : Type 0
LeanerTells = (lean plan : Plan) → IsLeaner lean plan → IsSettled lean → IsSettled plan

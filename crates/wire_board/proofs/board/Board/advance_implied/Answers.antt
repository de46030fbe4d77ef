use Rattle.std.proofs.Common.{◌≡◌, ℕ, ◌+◌, List, [], sym, ap, ◌∙◌, subst, arith}
use mathlib.Core.Option.{none}
use Rattle.atomic_table.specs.Table.{Me, step, Allows}
use Rattle.wire_scripts.specs.Scripts.{Scripts}
use Rattle.wire_scripts.specs.Planned.{plan_of}
use Rattle.wire_board.specs.declared.hold.Hold.{Hold}
use Rattle.wire_board.specs.Cuts.{procs_of}
use Rattle.wire_board.specs.Positions.{hold, scripts_in, IsKeptBoard, ImpliesNextIn, Stored}
use Rattle.wire_board.specs.Seats.{BoardIs, SeatIs, ImpliesNext, place_of}
use Rattle.wire_board.proofs.Cuts.{AreTold}
use Rattle.wire_board.proofs.Keeps.{stores}
use Rattle.wire_board.proofs.board.Board.advance_implied.Goals as goal

pub store-requires : goal.store-requires
store-requires c =
    let shared = c.self.inside.table.shared in
    let key = shared.key in
    let slots = shared.table_id.slots in
    let seat = c.seat.inside in
    let rank = seat.rank.number in
    let h = hold (scripts_in seat.token.me.0) rank seat.known.items in
    let sized = c.self.invariant.0 in
    let tie = ap (λ (s : SeatIs). s.board) c.seat.view_is ∙ (c.requires.seat ∙ sym c.self.view_is) in
    let plans = ap (λ (b : BoardIs). b.plan) tie in
    let implied : ImpliesNextIn (plan_of (scripts_in seat.token.me.0)) h = subst ImpliesNext (sym c.seat.view_is) c.requires.ready in
    let here : ImpliesNextIn (plan_of key) h = subst (λ (p : Scripts). ImpliesNextIn (plan_of p) h) plans implied in
    let settled : key ≡ c.args.settled.now = ap (λ (b : BoardIs). b.plan) c.self.view_is ∙ c.requires.plan in
    let told : AreTold (plan_of key) = subst (λ (p : Scripts). AreTold (plan_of p)) (sym settled) (record { some = c.has_fates.ensures.some; tell = c.fates_tell.ensures }) in
    let place = ap place_of c.seat.view_is ∙ sym c.place-place.ensures in
    let P : Me (Unit {0}) (List Hold) × ℕ × ℕ → Type 0 = λ x. Allows (IsKeptBoard {S = Unit {0}} key) slots seat.token.id x.0 x.2 (λ _. x.1 + 1)
    (λ _. Stored (step slots x.2 (x.1 + 1) 0 none) x.0 (x.1 + 1)) in (
      ap (λ (b : BoardIs). b.id) tie,
      (let inside = c.seat.invariant.inside in let e = ap procs_of plans in let i = c.index-index.ensures in omega arith),
      subst P (λ i. (sym c.seat.invariant.knows i, place i, sym c.index-index.ensures i)) (stores key slots seat.token.id h [] told here),
    )

use Rattle.std.proofs.Common.{◌≡◌, ◌++◌, ◌∷◌, [], Some, List, map, ap, ◌∙◌, sym, subst, arith}
use Rattle.std.proofs.lemmas.List.{map-append}
use Rattle.std.proofs.lemmas.List.Elements.{All-pop}
use Rattle.wire_board.specs.Cuts.{procs_of}
use Rattle.wire_board.specs.declared.hold.Hold.{Hold}
use Rattle.wire_board.specs.Seats.{BoardIs, SeatIs, hold_of}
use Rattle.wire_board.proofs.Keeps.{joins}
use Rattle.wire_board.proofs.Dealing.{bundled_more}
use Rattle.wire_board.proofs.board.Board.gather.Goals as goal

pub loop-seat-init : goal.loop-seat-init
loop-seat-init c =
    let rest = c.pop.new.self.items in
    let popped = c.in_ok-token.ensures.items in
    let here = All-pop (λ (s : SeatIs). s.board ≡ c.args.self.now) c.args.seats.items rest (Some c.in_ok-token.field-0) popped c.requires in
    let knows = c.token.invariant.knows in (
      ap (λ (s : SeatIs). s.board.id) c.token.view_is ∙ ap (λ (b : BoardIs). b.id) here.1,
      ap (λ m. m.1) knows,
      ap (λ m. map hold_of rest ++ m.0) knows ∙ (ap (λ (s : SeatIs). map hold_of rest ++ hold_of s ∷ []) c.token.view_is
          ∙ sym (ap (map hold_of) popped ∙ map-append hold_of rest (c.in_ok-token.field-0 ∷ []))),
      here.0,
    )

pub join_seat-requires : goal.join_seat-requires
join_seat-requires c =
    let shared = c.self.inside.table.shared in
    let seat = c.seat.inside in
    let here = All-pop (λ (s : SeatIs). s.board ≡ c.args.self.now) c.loop-seat.seats.items c.pop-in-loop-seat.new.self.items (Some c.in-Some.seat) c.in-Some.ensures.items c.loop-seat.invariant.3 in
    let mine = sym c.self.view_is in
    let tie = ap (λ (s : SeatIs). s.board) c.seat.view_is ∙ (here.1 ∙ mine) in
    let same = ap (λ (b : BoardIs). procs_of b.plan) tie in
    let sized = c.self.invariant.0 in (
      c.loop-seat.invariant.0 ∙ ap (λ (b : BoardIs). b.id) mine,
      ap (λ (b : BoardIs). b.id) tie,
      ap (λ m. m.1) c.seat.invariant.knows,
      (let inside = c.seat.invariant.inside in omega arith),
      joins shared.key c.loop-seat.token.id c.loop-seat.token.me.0 seat.token.id seat.token.me.0,
    )

pub loop-seat-preserved : goal.loop-seat-preserved
loop-seat-preserved c =
    let seat = c.in-Some.seat in
    let rest = c.pop-in-loop-seat.new.self.items in
    let popped = c.in-Some.ensures.items in
    let told = c.join_seat.ensures.2 in
    let knows = ap (λ m. m.0) c.seat.invariant.knows ∙ ap (λ (s : SeatIs). hold_of s ∷ []) c.seat.view_is in (
      c.join_seat.ensures.0 ∙ c.loop-seat.invariant.0,
      ap (λ m. m.1) told ∙ c.loop-seat.invariant.1,
      ap (λ m. map hold_of rest ++ m.0) told
          ∙ bundled_more (map hold_of rest) (hold_of seat) c.loop-seat.token.me.0 c.seat.inside.token.me.0 (map hold_of c.args.seats.items) knows
          (subst (λ (xs : List Hold). xs ++ c.loop-seat.token.me.0 ≡ map hold_of c.args.seats.items) (ap (map hold_of) popped ∙ map-append hold_of rest (seat ∷ [])) c.loop-seat.invariant.2),
      (All-pop (λ (s : SeatIs). s.board ≡ c.args.self.now) c.loop-seat.seats.items rest (Some seat) popped c.loop-seat.invariant.3).0,
    )

use Rattle.wire_scripts.specs.Planned.{plan_of}
use Rattle.wire_board.specs.Seats.{hold_of}
use Rattle.wire_board.proofs.Cuts.{shown_implied}
use Rattle.wire_board.proofs.board.Board.advance.Goals as goal

pub advance_implied-requires : goal.advance_implied-requires
advance_implied-requires c = record { seat = c.requires.seat; plan = c.requires.plan; ready = shown_implied (plan_of c.args.seat.now.board.plan) (hold_of c.args.seat.now) c.requires.ready }

pub returns-clause-known : goal.returns-clause-known
returns-clause-known c = assumption c

pub returns-clause-place : goal.returns-clause-place
returns-clause-place c = assumption c

use Rattle.std.proofs.Common.{List, [], drop, ap, sym, ◌∙◌, arith}
use Rattle.atomic_table.specs.Table.{Me}
use Rattle.wire_board.specs.declared.hold.Hold.{Hold}
use Rattle.wire_board.specs.Cuts.{procs_of}
use Rattle.wire_board.specs.Seats.{BoardIs}
use Rattle.wire_board.proofs.Keeps.{splits}
use Rattle.wire_board.proofs.Dealing.{drop_from}
use Rattle.wire_board.proofs.board.Board.cut.Goals as goal

pub split_seat-token-requires : goal.split_seat-token-requires
split_seat-token-requires c =
    let sized = c.self.invariant.0 in
    let procs = ap (λ (b : BoardIs). procs_of b.plan) c.self.view_is in (
      c.requires.first.0 ∙ sym (ap (λ (b : BoardIs). b.id) c.self.view_is),
      (let inside = c.requires.rank in omega arith),
      splits c.self.inside.table.shared.key c.args.first.now.id c.args.first.now.me.0,
    )

pub returns-clause-first : goal.returns-clause-first
returns-clause-first c =
    let plan = c.args.self.now.plan in (
      c.split_seat-token.ensures.0 ∙ c.requires.first.0,
      c.split_seat-token.ensures.2
          ∙ (ap (λ (m : Me (Unit {0}) (List Hold)). (drop 1 m.0, m.1)) c.requires.first.1
          ∙ ap (λ (v : List Hold). (v, [])) (drop_from plan c.args.rank (procs_of plan) c.requires.rank)),
    )

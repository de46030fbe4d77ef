use Rattle.std.proofs.Common.{arith, refl}
use Rattle.wire_rounds.proofs.Passes.{own_share, with_own}
use Rattle.wire_rounds.proofs.Members.{own_piece}
use Rattle.wire_rounds.proofs.round.StealRound.own_take.Goals as goal

pub take_front-requires : goal.take_front-requires
take_front-requires c = record { fifo = c.requires.fifo; part = omega (arith, c.requires.parts, c.requires.few) }

pub returns-clause-kept : goal.returns-clause-kept
returns-clause-kept c =
    (with_own _ c.args.pass.now _ c.requires c.take_front.ensures.same (own_share _ _ _ c.take_front.ensures.took), refl)

pub returns-clause-piece : goal.returns-clause-piece
returns-clause-piece c = own_piece c.args.self.now _ _ _ _ c.requires.dealt c.take_front.ensures.took

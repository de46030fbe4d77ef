use Rattle.std.proofs.Common.{List, arith, subst, sym, ◌∙◌}
use Rattle.crossbeam_deque.specs.Handles.{worker_view}
use Rattle.wire_rounds.specs.declared.rule.Piece.{Piece}
use Rattle.wire_rounds.specs.declared.rule.DequeView.{DequeView}
use Rattle.wire_rounds.proofs.Drains.{Draining, drains_more, drains_room, drains_all}
use Rattle.wire_rounds.proofs.deques.drain.Goals as goal

abbrev DrainingTo : DequeView → DequeView → List Piece → List Piece → Type 0
DrainingTo v w before now = Draining v w before now

pub push_reserved-requires : goal.push_reserved-requires
push_reserved-requires c =
    omega (
      arith,
      drains_room (worker_view c.args.own.now) (worker_view c.drains.own) (worker_view c.take_front.new.own) c.args.left.now.items c.drains.left.items c.in-Some.piece c.drains.invariant.0
          c.in-Some.ensures.took,
    )

pub drains-preserved : goal.drains-preserved
drains-preserved c =
    let next = drains_more (worker_view c.args.own.now) (worker_view c.drains.own) (worker_view c.take_front.new.own) c.args.left.now.items c.drains.left.items c.in-Some.piece c.drains.invariant.0
    c.in-Some.ensures.took in (
      subst (DrainingTo (worker_view c.args.own.now) (worker_view c.take_front.new.own) c.args.left.now.items) (sym c.push_reserved.ensures.items) next,
      c.in-Some.ensures.same.1 ∙ c.drains.invariant.1,
      c.push_reserved.ensures.capacity ∙ c.drains.invariant.2,
    )

pub returns-clause-rest : goal.returns-clause-rest
returns-clause-rest c = drains_all (worker_view c.args.own.now) (worker_view c.drains.own) c.args.left.now.items c.drains.left.items c.drains.invariant.0 c.in_default.ensures.took.1

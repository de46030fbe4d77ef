use Rattle.std.proofs.Common.{sym, ◌∙◌}
use Rattle.std.proofs.lemmas.Bool.{eqb-true}
use Rattle.std.proofs.lemmas.List.{nil_from_length}
use Rattle.wire_reader.proofs.Onwards.{ends_declared, ends_refused, refused_after}
use Rattle.wire_reader.proofs.shared_pass.declare_left.Goals as goal

pub groups-init : goal.groups-init
groups-init g c = record { so_far = λ start lines was. was; room = c.requires.room }

pub groups-preserved : goal.groups-preserved
groups-preserved g c = record {
  so_far = λ start lines was. c.in-Ok.ensures.ok start lines (c.groups.invariant.so_far start lines was);
  room = c.in-Ok.ensures.room;
}

pub returns-in-Err-clause-err : goal.returns-in-Err-clause-err
returns-in-Err-clause-err g c = refused_after c.args.first c.groups.progress c.groups.invariant.so_far c.in-Err.fault c.in-Err.ensures.err

pub returns-clause-ok : goal.returns-clause-ok
returns-clause-ok g c =
    let none = nil_from_length c.groups.progress.left.rest.now (eqb-true _ _ (sym c.is_empty.ensures ∙ c.groups-test.false)) in
    ends_declared c.args.first c.groups.progress c.groups.invariant.so_far c.declare_read.result none c.declare_read.ensures

pub returns-clause-err : goal.returns-clause-err
returns-clause-err g c = ends_refused c.args.first c.groups.progress c.groups.invariant.so_far c.declare_read.result c.declare_read.ensures

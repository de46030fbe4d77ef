use Rattle.std.proofs.lemmas.Option.{slice_get-get_or}
use Rattle.wire_witness.proofs.Shown.{one_more, races_on}
use Rattle.wire_witness.proofs.tried.try_races.Goals as goal

pub loop-race-preserved : goal.loop-race-preserved
loop-race-preserved c = record {
  races = races_on c.loop-race.tried.items c.add.new.tried.items c.in_ok-one.one c.args.races.now c.loop-race.race-index _ c.loop-race.invariant.races c.in_ok-add.ensures c.in_ok-one.ensures.race
      (slice_get-get_or c.args.races.now c.loop-race.race-index _ c.loop-race-test.true);
  shown = one_more c.args.marked.now c.loop-race.tried.items c.add.new.tried.items c.in_ok-one.one c.loop-race.invariant.shown c.in_ok-one.ensures.shown c.in_ok-add.ensures;
}

use Rattle.std.proofs.Common.{◌∙◌, ap, sym, length, arith}
use Rattle.wire_witness.specs.Races.{is_race}
use Rattle.wire_witness.proofs.Fronts.{counted_one, without}
use Rattle.wire_witness.proofs.races.count_races.Goals.{then-is_race, else-is_race}
use Rattle.wire_witness.proofs.races.count_races.Goals as goal

pub loop-number-preserved : goal.loop-number-preserved
loop-number-preserved c =
    let found = c.args.list.now in
    let i = c.loop-number.number in
    let there = sym c.in-Some.ensures in
    elim c.if-is_race.branch [
      | then-is_race w ↦ record {
        counted = w.count-is
            ∙ counted_one is_race found i c.loop-number.count c.in-Some.finding c.is_race.result there c.is_race.ensures w.if-is_race.true c.loop-number.invariant.counted;
        within = omega (arith, w.count-is, c.loop-number.invariant.within);
      }
      | else-is_race w ↦ record {
        counted = w.count-is ∙ c.loop-number.invariant.counted ∙ ap length (sym (without is_race found i c.in-Some.finding c.is_race.result there c.is_race.ensures w.if-is_race.false));
        within = omega (arith, w.count-is, c.loop-number.invariant.within);
      }
    ]

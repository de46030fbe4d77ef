use Rattle.std.proofs.Common.{◌∙◌, ◌<◌, ◌≤◌, ap, sym, length, Vec, Global, arith}
use Rattle.wire_findings.specs.declared.finding.Finding.{Finding}
use Rattle.wire_witness.specs.Races.{is_race}
use Rattle.wire_witness.proofs.Fronts.{takes_race, is_full, is_none}
use Rattle.wire_witness.proofs.races.take_races.Goals.{then-is_race+then-len-most+in_ok-push, else-is_race, else-is_race-via-then-is_race+else-len-most, else-is_race-via-else-is_race}
use Rattle.wire_witness.proofs.races.take_races.Goals as goal

pub loop-number-preserved : goal.loop-number-preserved
loop-number-preserved c =
    let found = c.args.list.now in
    let i = c.loop-number.number in
    let races = c.loop-number.races.items in
    let there = sym c.in-Some.ensures in
    let so_far = c.loop-number.invariant in
    elim c.if-is_race.branch [
      | then-is_race+then-len-most+in_ok-push w ↦
          let room : length races < c.args.most = omega (arith, w.len.ensures, w.if-len-most.true) in
          ap (λ (v : Vec Finding Global). v.items) w.races-is ∙ w.in_ok-push.ensures.items
          ∙ takes_race is_race c.args.most found races i c.in-Some.finding c.is_race.result there c.is_race.ensures w.if-is_race.true room so_far
      | else-is_race w ↦
          ap (λ (v : Vec Finding Global). v.items) w.races-is
          ∙ elim w.else-is_race.branch [
            | else-is_race-via-then-is_race+else-len-most v ↦
                let full : c.args.most ≤ length races = omega (arith, v.len.ensures, v.if-len-most.false) in
                is_full is_race c.args.most found races i c.in-Some.finding c.is_race.result there c.is_race.ensures v.if-is_race.true full so_far
            | else-is_race-via-else-is_race v ↦ is_none is_race c.args.most found races i c.in-Some.finding c.is_race.result there c.is_race.ensures v.if-is_race.false so_far
          ]
    ]

use Rattle.wire_runs.specs.Plan.{event_of}
use Rattle.wire_scripts.specs.Planned.{plan_of}
use Rattle.wire_fates.proofs.NameFates.{standing_none, standing_found, standing_within}
use Rattle.wire_fates.proofs.name_fates.standing_publish.Goals as goal

pub returns-then-count-eq0-clause-standing : goal.returns-then-count-eq0-clause-standing
returns-then-count-eq0-clause-standing c =
    let plan = plan_of c.args.marked.now in
    let settled = c.requires in
    let marks = c.marks-marks.ensures in
    let are = c.updates-updates.ensures plan marks in
    let cut = c.count_before-count.ensures.cut c.args.name settled are in
    standing_none plan settled c.marks-marks.result.now marks c.args.name c.updates-updates.result.now are (event_of c.args.event) c.count_before-count.result cut c.if-count-eq0.true

pub returns : goal.returns
returns c = record {
  standing =
      let plan = plan_of c.args.marked.now in
      let settled = c.requires in
      let marks = c.marks-marks.ensures in
      let are = c.updates-updates.ensures plan marks in
      let cut = c.count_before-count.ensures.cut c.args.name settled are in
      standing_found plan settled c.marks-marks.result.now marks c.args.name c.updates-updates.result.now are (event_of c.args.event) c.count_before-count.result cut _
      c.count_before-count.ensures.within c.if-count-eq0.false;
  there =
      let plan = plan_of c.args.marked.now in
      let settled = c.requires in
      let marks = c.marks-marks.ensures in
      let are = c.updates-updates.ensures plan marks in
      let cut = c.count_before-count.ensures.cut c.args.name settled are in
      standing_within plan (event_of c.args.event) c.args.name _
      (standing_found plan settled c.marks-marks.result.now marks c.args.name c.updates-updates.result.now are (event_of c.args.event) c.count_before-count.result cut _
      c.count_before-count.ensures.within c.if-count-eq0.false);
}

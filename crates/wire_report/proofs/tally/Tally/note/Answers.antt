use Rattle.std.proofs.Common.{ap, arith}
use Rattle.std.specs.Vec.{with_item}
use Rattle.std.proofs.Math.ListN.{set}
use Rattle.wire_report.proofs.Noted.{noted_new, noted_again, group_there, count_within}
use Rattle.wire_report.proofs.tally.Tally.note.Goals as goal

pub returns-in_ok-push : goal.returns-in_ok-push
returns-in_ok-push g c =
    noted_new g.K.PartialEq.eq g.met.K.Eq.laws c.index-labels-place.result c.args.labels.now c.args.place c.in_ok-number.is_new c.args.self.now
    (record { labels = c.insert_full.new.self; groups = c.push.new.self })
    c.requires.within c.index-labels-place.is c.requires.before c.in_ok-number.ensures.keys c.in_ok-number.ensures.added c.if-is_new.true c.in_ok-push.ensures.items

pub returns-else-is_new : goal.returns-else-is_new
returns-else-is_new g c =
    noted_again g.K.PartialEq.eq g.met.K.Eq.laws c.index-labels-place.result c.args.labels.now c.args.place c.in_ok-number.number c.index-group.result.now c.in_ok-number.is_new c.args.self.now
    (record { labels = c.insert_full.new.self; groups = with_item c.args.self.now.groups c.in_ok-number.number c.with_one_more.result })
    c.requires.within c.index-labels-place.is c.requires.before c.in_ok-number.ensures.keys c.in_ok-number.ensures.added c.if-is_new.false c.in_ok-number.ensures.index
    c.index-group.ensures (ap (set c.args.self.now.groups.items c.in_ok-number.number) c.with_one_more.ensures)

pub index-group-requires : goal.index-group-requires
index-group-requires g c =
    let there = group_there g.K.PartialEq.eq g.met.K.Eq.laws c.index-labels-place.result _ c.in_ok-number.number c.in_ok-number.is_new c.args.self.now c.requires.before c.in_ok-number.ensures.added
    c.if-is_new.false c.in_ok-number.ensures.index in
    omega (arith, there, c.args.self.now.groups.ok.0)

pub with_one_more-requires : goal.with_one_more-requires
with_one_more-requires g c =
    let there = group_there g.K.PartialEq.eq g.met.K.Eq.laws c.index-labels-place.result _ c.in_ok-number.number c.in_ok-number.is_new c.args.self.now c.requires.before c.in_ok-number.ensures.added
    c.if-is_new.false c.in_ok-number.ensures.index in
    let few = count_within g.K.PartialEq.eq g.met.K.Eq.laws c.index-labels-place.result c.args.labels.now c.args.place c.in_ok-number.number c.index-group.result.now c.args.self.now c.requires.within
    c.requires.before there c.index-group.ensures in
    omega (arith, few, c.requires.within)

pub index_mut-requires : goal.index_mut-requires
index_mut-requires g c =
    let there = group_there g.K.PartialEq.eq g.met.K.Eq.laws c.index-labels-place.result _ c.in_ok-number.number c.in_ok-number.is_new c.args.self.now c.requires.before c.in_ok-number.ensures.added
    c.if-is_new.false c.in_ok-number.ensures.index in
    omega (arith, there, c.args.self.now.groups.ok.0)

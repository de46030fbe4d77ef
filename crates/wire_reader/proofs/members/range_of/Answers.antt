use Rattle.std.proofs.Common.{◌≡◌, length, subst, sym, arith, rules}
use Rattle.std.proofs.lemmas.List.{length-map}
use Rattle.wire_reader.specs.Drafted.{declared_of, started_of}
use Rattle.wire_reader.specs.Targets.{IsRangeOf}
use Rattle.wire_reader.proofs.NamedRanges.{one_range, every_range}
use Rattle.wire_reader.proofs.members.range_of.Goals as goal

pub returns-in-One : goal.returns-in-One
returns-in-One c =
    let d = declared_of c.args.draft.now in
    let ps = c.args.draft.now.processes.items in
    let count : c.len.result ≡ length ps = search rules in
    let all = length-map ps started_of in
    let least = c.min.ensures in
    subst (λ t. IsRangeOf d t c.place_of-place.result c.min.result) (sym c.in-One.is)
    (one_range d c.in-One.job c.in-One.rank c.place_of-place.result c.min.result c.requires.declared c.place_of-place.ensures.place
    (omega (arith, least)) (omega (arith, least, count, all)) (λ lt. omega (arith, least, count, all, lt)))

pub returns-in-Every : goal.returns-in-Every
returns-in-Every c =
    let d = declared_of c.args.draft.now in
    let ps = c.args.draft.now.processes.items in
    let all = length-map ps started_of in
    let within = c.count_through.ensures.within in
    subst (λ t. IsRangeOf d t c.count_before-first.result c.count_through.result) (sym c.in-Every.is)
    (every_range d c.in-Every.job c.count_before-first.result c.count_through.result (omega (arith, all, within))
    c.count_before-first.ensures.those c.count_through.ensures.those)

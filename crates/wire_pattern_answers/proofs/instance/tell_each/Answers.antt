use Rattle.std.proofs.Common.{◌≡◌, ◌||◌, ◌∷◌, [], ◌∙◌, ap, subst, arith}
use Rattle.wire_instances.specs.Views.{cast_by}
use Rattle.wire_pattern_answers.specs.Notes.{is_told, is_noted, IsAnsweredApart, IsAnsweredByOne, AreToldToo}
use Rattle.wire_pattern_answers.proofs.Tellings.{told_too, by_none, by_one_more}
use Rattle.wire_pattern_answers.proofs.instance.tell_each.Goals as goal

pub loop-rank-init : goal.loop-rank-init
loop-rank-init c = by_none c.args.pattern.now (cast_by c.args.cast.now) c.args.told.now

pub loop-rank-preserved : goal.loop-rank-preserved
loop-rank-preserved c =
    let cast = cast_by c.args.cast.now in
    let rank = c.loop-rank.rank in
    by_one_more c.args.pattern.now cast rank c.args.told.now c.loop-rank.told c.add_all.new.self c.loop-rank.invariant
    (told_too c.loop-rank.told c.add_all.new.self c.in_ok-notes.notes.items (IsAnsweredApart c.args.pattern.now cast (rank ∷ [])) c.in_ok-notes.ensures.ok
    (λ role line status three. c.in_ok-add_all.ensures role line status three
    ∙ ap (λ xs. is_told c.loop-rank.told role line status || is_noted xs role line status) c.as_slice.ensures.value))

pub returns-clause-ok : goal.returns-clause-ok
returns-clause-ok c =
    let end = c.loop-rank-test.false in
    let auto = c.loop-rank.auto.rank-end in
    let same : c.loop-rank.rank ≡ c.args.count = omega (arith, end, auto) in
    subst (λ n. AreToldToo c.args.told.now c.loop-rank.told (IsAnsweredByOne c.args.pattern.now (cast_by c.args.cast.now) n)) same c.loop-rank.invariant

use Rattle.std.proofs.Common.{◌≡◌, ◌≤◌, false, map, length, subst, sym, arith}
use Rattle.std.proofs.lemmas.List.{length-map, take_rest}
use Rattle.wire_runs.specs.Plan.{event_of}
use Rattle.wire_scripts.specs.Planned.{plan_of}
use Rattle.wire_fates.proofs.Places.{place_at}
use Rattle.wire_portable.specs.Libraries.{family_of, has}
use Rattle.wire_portable.specs.Judging.{AreFineMates}
use Rattle.wire_portable.specs.Sharing.{AreTurns}
use Rattle.wire_portable.proofs.Sets.{not_all}
use Rattle.wire_portable.proofs.Sharing.{ended_fine, all_fine, rest_fine, both_fine, turns_behind}
use Rattle.wire_portable.proofs.mates.with_process.Goals as goal

pub some_sooner-requires-clause-turns : goal.some_sooner-requires-clause-turns
some_sooner-requires-clause-turns c =
    let plan = plan_of c.args.judge.now in
    let p = c.args.asked.owner.number in
    subst (λ l. AreTurns plan p (map event_of l)) (sym (take_rest c.args.gets.now c.ended_count-first.result)) (turns_behind plan p c.args.gets.now c.ended_count-first.result c.requires.turns)

pub returns-then-first-gets : goal.returns-then-first-gets
returns-then-first-gets c = λ library free.
    let plan = plan_of c.args.judge.now in
    let g = event_of c.args.get in
    let hs = map event_of c.args.gets.now in
    let count = length-map c.args.gets.now event_of in
    let over = c.if-first-gets.true in
    let end : length hs ≤ c.ended_count-first.result = omega (arith, over, count) in
    all_fine plan c.args.asked.owner.number c.args.asked.key g (family_of library) hs c.ended_count-first.result end
    (ended_fine plan c.args.asked.owner.number c.args.asked.key g (family_of library) hs c.ended_count-first.result c.ended_count-first.ensures.ended)

pub returns-then-is_apart : goal.returns-then-is_apart
returns-then-is_apart c = λ library free.
    let plan = plan_of c.args.judge.now in
    let g = event_of c.args.get in
    let n = c.ended_count-first.result in
    rest_fine plan c.args.asked.owner.number c.args.asked.key g (family_of library) (map event_of c.args.gets.now) n _ c.requires.turns
    (place_at c.args.gets.now n _ c.if-first-gets.false) (c.is_apart.ensures c.if-is_apart.true)
    (ended_fine plan c.args.asked.owner.number c.args.asked.key g (family_of library) (map event_of c.args.gets.now) n c.ended_count-first.ensures.ended)

pub returns-then-some_sooner : goal.returns-then-some_sooner
returns-then-some_sooner c = λ library free. absurd (not_all library (subst (λ s. has s library ≡ false) c.all.ensures free))

pub returns : goal.returns
returns c = λ library free.
    let plan = plan_of c.args.judge.now in
    let p = c.args.asked.owner.number in
    let key = c.args.asked.key in
    let g = event_of c.args.get in
    let n = c.ended_count-first.result in
    both_fine plan p key g (family_of library) c.args.gets.now n
    (ended_fine plan p key g (family_of library) (map event_of c.args.gets.now) n c.ended_count-first.ensures.ended)
    (subst (λ l. AreFineMates (family_of library) plan p key g (map event_of l)) (take_rest c.args.gets.now n)
    (c.some_sooner.ensures c.if-some_sooner.false library (subst (λ s. has s library ≡ false) c.only_v4.ensures free)))

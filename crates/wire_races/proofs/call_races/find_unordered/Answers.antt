use Rattle.std.proofs.Common.{◌∙◌, ◌++◌, ap, map, arith}
use Rattle.std.proofs.lemmas.List.{length-map}
use Rattle.wire_runs.specs.Plan.{event_of}
use Rattle.wire_scripts.specs.Planned.{plan_of}
use Rattle.wire_races.proofs.Lists.{both_parts}
use Rattle.wire_races.proofs.NameRaces.{none_between, those_between}
use Rattle.wire_races.proofs.call_races.find_unordered.Goals as goal

pub returns-then-from-to : goal.returns-then-from-to
returns-then-from-to c =
    let run = c.args.run.now in
    let p = c.requires.run.0 in
    let first = c.count_below-from.ensures.cut p c.requires.rising c.requires.run.1 in
    let last = c.count_below-to.ensures.cut p c.requires.rising c.requires.run.1 in
    let below = c.split_at.result.0.now in
    let rest = c.split_at.result.1.now in
    let front = c.split_at-then-from-to.result.0.now in
    let those = c.split_at-then-from-to.result.1.now in
    let outer = both_parts run below rest c.count_below-to.result c.split_at.ensures.front c.split_at.ensures.back in
    let inner = both_parts below front those c.count_below-from.result c.split_at-then-from-to.ensures.front c.split_at-then-from-to.ensures.back in
    let low = length-map front event_of ∙ c.split_at-then-from-to.ensures.front_len in
    let size = length-map those event_of in
    let high = c.split_at-then-from-to.ensures.back_len in
    let all = c.split_at.ensures.front_len in
    those_between (plan_of c.args.marked.now) (event_of c.args.x) (map event_of run) c.count_below-from.result c.count_below-to.result c.requires.live first last
    (map event_of front) (map event_of those) (map event_of rest) (outer ∙ ap (λ l. l ++ map event_of rest) inner) low (omega (arith, size, high, all))

pub returns-else-from-to : goal.returns-else-from-to
returns-else-from-to c =
    let p = c.requires.run.0 in
    let first = c.count_below-from.ensures.cut p c.requires.rising c.requires.run.1 in
    let last = c.count_below-to.ensures.cut p c.requires.rising c.requires.run.1 in
    none_between (plan_of c.args.marked.now) (event_of c.args.x) (map event_of c.args.run.now) c.count_below-from.result c.count_below-to.result c.requires.live first last c.if-from-to.false

use Rattle.std.proofs.Common.{◌<◌, ◌∙◌, ◌++◌, ◌∷◌, [], length, ap, arith}
use Rattle.std.proofs.lemmas.List.{length-map}
use Rattle.wire_runs.specs.Plan.{event_of}
use Rattle.wire_plan.specs.Tables.{events_listed}
use Rattle.wire_plan.proofs.Tables.{places_in, append_here, append_others}
use Rattle.wire_plan.proofs.by_number.ByNumber.append.Goals as goal

pub returns-clause-here : goal.returns-clause-here
returns-clause-here c =
    let lists = c.self.inside.lists.items in
    let len = length-map lists places_in in
    let view = ap length c.self.view_is in
    let there = c.requires in
    let low : c.args.number < length lists = omega (arith, len, view, there) in
    append_here lists c.args.number c.index_mut.result.now c.push.new.self c.args.event low c.index_mut.ensures.value c.in_ok-push.ensures.items
    ∙ ap (λ xs. events_listed xs c.args.number ++ event_of c.args.event ∷ []) c.self.view_is

pub returns-clause-others : goal.returns-clause-others
returns-clause-others c = λ n ne. append_others c.self.inside.lists.items c.args.number n c.push.new.self ne ∙ ap (λ xs. events_listed xs n) c.self.view_is

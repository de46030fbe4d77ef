use Rattle.std.proofs.Common.{◌<◌, ◌∙◌, ◌++◌, ◌∷◌, [], length, ap, arith}
use Rattle.std.proofs.lemmas.List.{length-map}
use Rattle.wire_types.proofs.Results.{on_err_anyway}
use Rattle.wire_happens_before.specs.Updates.{updates_at}
use Rattle.wire_happens_before.proofs.Lists.{items_in, append_here, set_same, append_others}
use Rattle.wire_happens_before.proofs.updates.UpdateLists.add.Goals as goal

pub returns-clause-here : goal.returns-clause-here
returns-clause-here c =
    let lists = c.self.inside.by_name.items in
    let len = length-map lists items_in in
    let view = ap length c.self.view_is in
    let there = c.in_ok-reach.ensures.there in
    let low : c.args.name < length lists = omega (arith, len, view, there) in
    append_here lists c.args.name c.index_mut.result.now c.push.new.self c.args.update low c.index_mut.ensures.value c.in_ok-push.ensures.items
    ∙ ap (λ xs. updates_at xs c.args.name ++ c.args.update ∷ []) c.self.view_is ∙ ap (λ xs. xs ++ c.args.update ∷ []) (c.reach.ensures.same c.args.name)

pub returns-clause-others : goal.returns-clause-others
returns-clause-others c = λ n ne. append_others c.self.inside.by_name.items c.args.name n c.push.new.self ne ∙ ap (λ xs. updates_at xs n) c.self.view_is ∙ c.reach.ensures.same n

pub returns-in_err-push-clause-err : goal.returns-in_err-push-clause-err
returns-in_err-push-clause-err c =
    let lists = c.self.inside.by_name.items in
    let len = length-map lists items_in in
    let view = ap length c.self.view_is in
    let there = c.in_ok-reach.ensures.there in
    let low : c.args.name < length lists = omega (arith, len, view, there) in
    on_err_anyway c.from_residual-in_err-push.result _
    (λ n. set_same lists c.args.name c.index_mut.result.now c.push.new.self low c.index_mut.ensures.value c.in_err-push.ensures.items n ∙ ap (λ xs. updates_at xs n) c.self.view_is ∙ c.reach.ensures.same n)

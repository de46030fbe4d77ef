use Rattle.std.proofs.Common.{◌∙◌, [], ap, length, map, get_or, arith}
use Rattle.std.proofs.lemmas.List.{length_push, length-map}
use Rattle.wire_happens_before.specs.Updates.{names_at}
use Rattle.wire_happens_before.proofs.Lists.{items_in, reach_more}
use Rattle.wire_happens_before.proofs.held.Held.reach.Goals as goal

pub loop-preserved : goal.loop-preserved
loop-preserved c =
    let lists = c.loop.self-inside.by_proc.items in
    let longer = ap length c.in_ok-push.ensures.items ∙ length_push lists c.new.result in
    record {
      same = λ n. ap (λ xs. get_or (map items_in xs) n []) c.in_ok-push.ensures.items ∙ reach_more lists c.new.result n c.new.ensures.items ∙ c.loop.invariant.same n;
      count = omega (arith, longer, c.loop.invariant.count);
    }

pub loop-init : goal.loop-init
loop-init c = record { same = λ n. ap (λ lists. names_at lists n) c.self.view_is; count = let len = c.len-counter.ensures in let same = c.self.inside.by_proc.ok.0 in omega (arith, len, same) }

pub returns-clause-same : goal.returns-clause-same
returns-clause-same c = c.loop.invariant.same

pub returns-clause-there : goal.returns-clause-there
returns-clause-there c =
    let len = length-map c.loop.self-inside.by_proc.items items_in in
    let past = c.loop-test.false in
    omega (arith, len, past, c.loop.invariant.count)

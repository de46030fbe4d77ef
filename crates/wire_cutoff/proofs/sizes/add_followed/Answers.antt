use Rattle.std.proofs.Common.{rules, ◌≡◌, ◌++◌, [], ◌∷◌, ◌≤◌, arith}
use Rattle.std.proofs.lemmas.Grind.{common_steps}
use Rattle.wire_types.specs.Texts.{lists_of}
use Rattle.wire_cutoff.proofs.Numbers.{one_followed}
use Rattle.wire_cutoff.proofs.sizes.add_followed.Goals as goal

pub sizes-preserved : goal.sizes-preserved
sizes-preserved c = (
  c.sizes.invariant.0,
  one_followed (lists_of c.sizes.lists.items) (lists_of c.push.new.self.items) _ c.args.sizes.now c.sizes.size c.most_of-most.result le is c.sizes.invariant.1,
)
  where
    le : c.sizes.size ≤ c.most_of-most.result
    le = search rules

    is : lists_of c.push.new.self.items ≡ lists_of c.sizes.lists.items ++ (c.args.sizes.now ++ c.sizes.size ∷ []) ∷ []
    is = grind (arith, common_steps)

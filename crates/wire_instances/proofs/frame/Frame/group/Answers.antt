use Rattle.std.proofs.Common.{◌<◌, ◌+◌, length, arith}
use Rattle.std.proofs.lemmas.Grind.{common_steps}
use Rattle.wire_instances.proofs.Groups.{group_between, group_past, first_within}
use Rattle.wire_instances.proofs.frame.Frame.group.Goals as goal

pub returns-then-number-len-clause-members : goal.returns-then-number-len-clause-members
returns-then-number-len-clause-members c =
    let h : c.args.role < length c.args.self.now.cast.sizes = grind (arith, common_steps) in
    group_between c.args.role c.args.self.now.cast.sizes _ _ h (grind (arith, common_steps)) (grind (arith, common_steps))

pub returns-then-number-len-clause-there : goal.returns-then-number-len-clause-there
returns-then-number-len-clause-there c =
    first_within c.args.self.now.cast.sizes (c.args.role + 1) _ (grind (arith, common_steps))

pub returns-else-number-len-clause-members : goal.returns-else-number-len-clause-members
returns-else-number-len-clause-members c = group_past c.args.role c.args.self.now.cast.sizes (grind (arith, common_steps))

use Rattle.std.proofs.Common.{◌<◌, ◌∙◌, ℕ, ap, sym, length, arith}
use Rattle.std.proofs.lemmas.List.{length-map}
use Rattle.std.proofs.lemmas.List.Sums.{sum_by_more}
use Rattle.wire_types.specs.declared.fault.Fault.TheVariants.{TooMany}
use Rattle.wire_pattern.specs.Instances.{number_in}
use Rattle.wire_pattern.specs.Views.{role_by}
use Rattle.wire_instances.proofs.Loops.{role_there}
use Rattle.wire_instances.proofs.sizes.processes_within.Goals as goal

pub returns-then-sizes-number-clause-err : goal.returns-then-sizes-number-clause-err
returns-then-sizes-number-clause-err c =
    let p = c.args.pattern.now in
    let roles = c.roles-roles.result.now in
    let n = c.loop-number.number in
    let more = sum_by_more (λ (size : ℕ). size) c.args.sizes.now n 0 c.loop-number-test.true in
    let there : n < length roles = omega (arith, c.loop-number-test.true, c.requires, ap length c.roles-roles.ensures.roles, length-map roles role_by) in
    record {
      role = n;
      within = omega (arith, c.loop-number.invariant.0, c.loop-number.invariant.1);
      passed = omega (arith, more, c.if-sizes-number.true, c.loop-number.invariant.0, c.loop-number.invariant.1);
      fault = ap (λ r. TooMany r.number) (sym c.index-roles-number.is) ∙ ap (λ o. TooMany (number_in o)) (sym (role_there p roles n c.index-roles-number.result c.roles-roles.ensures.roles there c.index-roles-number.is));
    }

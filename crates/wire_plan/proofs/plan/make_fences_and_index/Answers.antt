use Rattle.std.proofs.Common.{refl}
use Rattle.wire_types.specs.declared.Fault.TheVariants.{Memory}
use Rattle.wire_plan.proofs.Building.{fault_is}
use Rattle.wire_plan.proofs.plan.make_fences_and_index.Goals as goal

pub returns-in_err-fences-clause-err : goal.returns-in_err-fences-clause-err
returns-in_err-fences-clause-err c = fault_is c.from_residual.result _ Memory c.from_residual.ensures.1 c.in_err-fences.ensures.memory

pub returns-in_err-index-clause-err : goal.returns-in_err-index-clause-err
returns-in_err-index-clause-err c = fault_is c.from_residual-in_err-index.result Memory Memory c.from_residual-in_err-index.ensures.1 refl

use Rattle.std.proofs.Common.{subst, List}
use Rattle.std.proofs.lemmas.Result.{IfOk-weaker}
use Rattle.wire_types.specs.declared.Proc.{Proc}
use Rattle.wire_scripts.specs.Scripts.{numbers_of}
use Rattle.wire_explain.specs.Told.{TellsStop}
use Rattle.wire_reader.proofs.Steps.{handed_on}
use Rattle.wire_explain.proofs.Texts.{of_plan, of_order, of_memory}
use Rattle.wire_explain.proofs.stop.explain_stop.Goals as goal

pub returns-clause-tells : goal.returns-clause-tells
returns-clause-tells c = IfOk-weaker c.text_of.result _ _
    (λ text tells. record {
      scripts = c.in_ok-scripts.scripts;
      reads = c.in_ok-scripts.ensures.ok;
      steps = numbers_of c.in-Ok.order.items;
      ordered = c.in-Ok.ensures.ok;
      tells = subst (λ (order : List Proc). TellsStop c.args.order_bytes.now c.in_ok-scripts.scripts (numbers_of order) text.items) c.as_slice.ensures.value tells;
    })
    c.text_of.ensures.tells

pub returns-clause-err : goal.returns-clause-err
returns-clause-err c = of_memory _ _ _ c.text_of.result c.text_of.ensures.err

pub returns-in_err-scripts-clause-err : goal.returns-in_err-scripts-clause-err
returns-in_err-scripts-clause-err c =
    handed_on c.from_residual.result c.in_err-scripts.field-0.0 _ c.from_residual.ensures.1 (of_plan c.args.size c.args.bytes.now _ _ c.in_err-scripts.ensures.err)

pub returns-in-Err-clause-err : goal.returns-in-Err-clause-err
returns-in-Err-clause-err c = of_order c.args.size c.args.bytes.now c.args.order_bytes.now c.in_ok-scripts.scripts c.in-Err.fault c.in_ok-scripts.ensures.ok c.in-Err.ensures.err

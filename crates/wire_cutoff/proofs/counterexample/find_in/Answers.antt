use Rattle.std.proofs.Common.{◌∙◌, ◌==◌, ap, length, refl}
use Rattle.wire_cutoff.proofs.FoundIn.{found_in, nothing_in}
use Rattle.wire_cutoff.proofs.counterexample.find_in.Goals as goal

pub returns-else-is_empty-clause-ok : goal.returns-else-is_empty-clause-ok
returns-else-is_empty-clause-ok g c = (
  refl,
  refl,
  c.in_ok-plan.ensures.ok,
  found_in c.args.scripts c.in_ok-plan.plan c.in-Ok.findings.items c.is_empty.result c.in_ok-plan.ensures.ok c.in-Ok.ensures.ok
      (c.is_empty.ensures ∙ ap (λ xs. length xs == 0) c.as_slice.ensures.value) c.if-is_empty.false,
)

pub returns-then-is_empty-clause-settled : goal.returns-then-is_empty-clause-settled
returns-then-is_empty-clause-settled g c = λ e.
    nothing_in c.args.scripts c.in_ok-plan.plan c.in-Ok.findings.items c.is_empty.result c.in_ok-plan.ensures.ok c.in-Ok.ensures.ok
    (c.is_empty.ensures ∙ ap (λ xs. length xs == 0) c.as_slice.ensures.value) c.if-is_empty.true

use Rattle.std.proofs.Common.{◌≡◌, ◌∙◌, ◌++◌, ◌+◌, ap, map}
use Rattle.wire_types.specs.Texts.{lists_of}
use Rattle.wire_cutoff.specs.Selections.{of_total, selections}
use Rattle.wire_cutoff.specs.Views.{selection_by}
use Rattle.wire_cutoff_laws.specs.Sizes.{all_sizes}
use Rattle.wire_cutoff.proofs.Items.{all_are}
use Rattle.wire_cutoff.proofs.Numbers.{one_flat}
use Rattle.wire_cutoff.proofs.selections.all_selections.Goals as goal

pub add_total-requires-clause-sizes : goal.add_total-requires-clause-sizes
add_total-requires-clause-sizes c =
    all_are c.args.pattern.now.roles (lists_of c.as_slice-in-loop-total.result.now)
    (ap lists_of c.as_slice-in-loop-total.ensures.value ∙ c.in_ok-lists.ensures ∙ ap all_sizes c.roles.ensures.roles)

pub loop-total-preserved : goal.loop-total-preserved
loop-total-preserved c =
    one_flat (of_total c.args.pattern.now (all_sizes c.args.pattern.now.roles)) (map selection_by c.loop-total.all.items) (map selection_by c.add_total.new.all.items) (selections c.args.pattern.now) c.loop-total.total
    (c.total_of-end.result + 1) c.loop-total-test.true (c.in_ok-add_total.ensures ∙ ap (λ ls. map selection_by c.loop-total.all.items ++ of_total c.args.pattern.now ls c.loop-total.total) lists) c.loop-total.invariant
  where
    lists : lists_of c.as_slice-in-loop-total.result.now ≡ all_sizes c.args.pattern.now.roles
    lists = ap lists_of c.as_slice-in-loop-total.ensures.value ∙ c.in_ok-lists.ensures ∙ ap all_sizes c.roles.ensures.roles

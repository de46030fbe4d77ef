use Rattle.std.proofs.Common.{◌∙◌}
use Rattle.wire_instances.specs.Views.{cast_by}
use Rattle.wire_cutoff.specs.Views.{selection_by}
use Rattle.wire_pattern_waits.proofs.Told.{cast_is}
use Rattle.wire_pattern_commands.proofs.FirstWaits.{wait_of_selection}
use Rattle.wire_pattern_commands.proofs.first_wait.wait_of.Goals as goal

pub returns-clause-ok : goal.returns-clause-ok
returns-clause-ok c =
    let selection = selection_by c.args.selection.now in
    wait_of_selection c.args.pattern.now selection (cast_by c.in_ok-cast.cast) c.in_ok-sizes.sizes c.in_ok-left.left c.in_ok-text.text c.in_ok-text.scripts c.in_ok-found.found
    (cast_is c.args.pattern.now selection c.in_ok-cast.cast c.in_ok-cast.ensures.few c.in_ok-cast.ensures.of c.in_ok-cast.ensures.alone)
    (c.in_ok-sizes.ensures.items ∙ c.as_slice.ensures.value) c.in_ok-left.ensures c.in_ok-text.ensures.text c.in_ok-text.ensures.reads c.in_ok-found.ensures.ok

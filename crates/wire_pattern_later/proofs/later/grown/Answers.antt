use Rattle.std.proofs.Common.{◌∙◌, ap}
use Rattle.wire_cutoff_laws.specs.Sizes.{total_of}
use Rattle.wire_pattern_later.specs.Later.{sizes_with}
use Rattle.wire_pattern_later.proofs.Grown.{told_grown, told_cast}
use Rattle.wire_pattern_later.proofs.later.grown.Goals as goal

pub returns-clause-is : goal.returns-clause-is
returns-clause-is c =
    let sized = c.in_ok-sizes.ensures ∙ ap (sizes_with c.args.ranks) c.roles.ensures.roles in
    told_grown c.args.pattern.now c.args.ranks c.in-Some.total (record { sizes = c.in_ok-sizes.sizes; chosen = c.new.result; nodes = c.in_ok-nodes.nodes })
    sized c.new.ensures.items (c.in-Some.ensures.0 ∙ ap total_of (c.as_slice.ensures.value ∙ sized)) c.in_ok-nodes.ensures.nodes c.in_ok-nodes.ensures.alone

pub returns-clause-cast : goal.returns-clause-cast
returns-clause-cast c =
    let sized = c.in_ok-sizes.ensures ∙ ap (sizes_with c.args.ranks) c.roles.ensures.roles in
    told_cast c.args.pattern.now c.args.ranks c.in-Some.total (record { sizes = c.in_ok-sizes.sizes; chosen = c.new.result; nodes = c.in_ok-nodes.nodes })
    (returns-clause-is c) (c.in-Some.ensures.0 ∙ ap total_of (c.as_slice.ensures.value ∙ sized)) c.in-Some.ensures.1

use Rattle.std.proofs.lemmas.Bool.{false≢true}
use Rattle.wire_instances.proofs.Casts.{too_many, cast_made, nodes_of}
use Rattle.wire_instances.proofs.cast.is_cast.Goals as goal

pub returns-in-None : goal.returns-in-None
returns-in-None c = (λ h. absurd (false≢true h), λ h. absurd (too_many c.args.pattern.now c.args.cast.now c.as_slice-sizes.result.now c.as_slice-sizes.ensures.value c.in-None.ensures h))

pub returns-then-are_sizes : goal.returns-then-are_sizes
returns-then-are_sizes c =
    let p = c.args.pattern.now in
    let cast = c.args.cast.now in
    let sized = c.are_sizes.ensures.0 c.if-are_sizes.true in (
      λ h. cast_made p cast _ c.as_slice-sizes.result.now c.in-Some.total c.roles.ensures.roles c.as_slice-sizes.ensures.value c.in-Some.ensures sized (c.are_nodes.ensures.0 h),
      λ h. c.are_nodes.ensures.1 (nodes_of p cast c.as_slice-sizes.result.now c.in-Some.total c.as_slice-sizes.ensures.value c.in-Some.ensures h),
    )

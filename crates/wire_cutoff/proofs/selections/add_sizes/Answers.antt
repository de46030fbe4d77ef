use Rattle.std.proofs.Common.{◌∙◌, arith}
use Rattle.wire_cutoff.proofs.Listed.{sizes_count, roles_few}
use Rattle.wire_cutoff.proofs.selections.add_sizes.Goals as goal

pub roles_by-requires : goal.roles_by-requires
roles_by-requires c = omega (arith, sizes_count c.args.pattern.now.roles c.args.sizes.now c.requires.sizes, c.note_sound.ensures.few_roles)

pub optional_turns-requires : goal.optional_turns-requires
optional_turns-requires c = roles_few c.as_slice.result.now c.args.sizes.now (c.as_slice.ensures.value ∙ c.in_ok-roles.ensures) c.requires.few

use Rattle.std.proofs.Common.{◌∙◌, ap, arith, map, length}
use Rattle.wire_pattern.specs.Instances.{roles_from}
use Rattle.wire_instances.specs.Views.{turn_by}
use Rattle.wire_cutoff_laws.specs.Choices.{chosen_by}
use Rattle.wire_cutoff_laws.specs.Sizes.{total_of}
use Rattle.wire_cutoff.proofs.FewCasts.{few_cast}
use Rattle.wire_cutoff.proofs.Judged.{turns_chosen}
use Rattle.wire_cutoff.proofs.Listed.{sizes_count, roles_few}
use Rattle.wire_cutoff.proofs.Used.{alone_used}
use Rattle.wire_cutoff.proofs.cutoff.cast_for.Goals as goal

pub roles_by-requires : goal.roles_by-requires
roles_by-requires c =
    omega (arith, ap length c.as_slice-sizes.ensures.value, sizes_count c.args.pattern.now.roles c.args.selection.now.sizes.items c.requires.sizes, c.note_sound.ensures.few_roles)

pub optional_turns-requires : goal.optional_turns-requires
optional_turns-requires c =
    roles_few c.as_slice.result.now c.args.selection.now.sizes.items
    (c.as_slice.ensures.value ∙ c.in_ok-roles.ensures ∙ ap (roles_from 0) c.as_slice-sizes.ensures.value) c.requires.few

pub returns-clause-few : goal.returns-clause-few
returns-clause-few c =
    few_cast c.args.pattern.now (record { sizes = c.in_ok-sizes.sizes; chosen = c.in_ok-chosen.chosen; nodes = c.in_ok-nodes.nodes }) c.args.selection.now.sizes.items
    c.total_of.result c.note_sound.ensures c.requires.sizes (c.in_ok-sizes.ensures.items ∙ c.as_slice-sizes.ensures.value)
    (c.total_of.ensures ∙ ap total_of c.as_slice-sizes.ensures.value) (omega (arith, c.total_of.ensures, ap total_of c.as_slice-sizes.ensures.value, c.requires.few))
    c.in_ok-nodes.ensures.nodes (alone_used c.total_of.result c.in_ok-nodes.nodes c.in_ok-nodes.ensures.nodes c.in_ok-nodes.ensures.alone)

pub returns-clause-of : goal.returns-clause-of
returns-clause-of c = record {
  sizes = c.in_ok-sizes.ensures.items ∙ c.as_slice-sizes.ensures.value;
  chosen =
      turns_chosen c.args.pattern.now c.args.selection.now.sizes.items c.as_slice.result.now (map turn_by c.in_ok-turns.turns.items) c.args.selection.now.taken.items _
      (c.as_slice.ensures.value ∙ c.in_ok-roles.ensures ∙ ap (roles_from 0) c.as_slice-sizes.ensures.value) c.in_ok-turns.ensures
      (c.in_ok-chosen.ensures ∙ ap (λ ts. chosen_by (map turn_by ts) c.as_slice-3.result.now) c.as_slice-2.ensures.value
      ∙ ap (chosen_by (map turn_by c.in_ok-turns.turns.items)) c.as_slice-3.ensures.value);
}

use Rattle.std.proofs.Common.{◌∙◌, ◌∷◌, ap, sym, flat_map}
use Rattle.wire_types.specs.Said as said
use Rattle.wire_types.specs.declared.Version.TheVariants.{Two}
use Rattle.wire_scripts.specs.Canonical.{line_text, keep_said}
use Rattle.wire_instances.proofs.Wholes.{last_piece}
use Rattle.wire_instances.proofs.text.write_header.Goals as goal

pub returns-then-keeps : goal.returns-then-keeps
returns-then-keeps c =
    last_piece c.extend_from_slice.result c.args.out.now.items c.extend_from_slice.new.self.items c.as_slice.result.now _ c.extend_from_slice.ensures.items
    (c.as_slice.ensures ∙ ap (λ k. flat_map line_text (said.Header Two ∷ keep_said k)) (sym c.if-keeps.true))

pub returns-else-keeps : goal.returns-else-keeps
returns-else-keeps c =
    last_piece c.extend_from_slice-else-keeps.result c.args.out.now.items c.extend_from_slice-else-keeps.new.self.items c.as_slice-else-keeps.result.now _
    c.extend_from_slice-else-keeps.ensures.items
    (c.as_slice-else-keeps.ensures ∙ ap (λ k. flat_map line_text (said.Header Two ∷ keep_said k)) (sym c.if-keeps.false))

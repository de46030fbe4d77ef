use Rattle.std.proofs.Common.{◌∙◌, ◌++◌, ap, [], ◌∷◌, codes, decimal}
use Rattle.std.specs.Prelude.{slice_get}
use Rattle.wire_types.specs.Verbs.{text_of_verb}
use Rattle.wire_pattern_waits.specs.Lines.{name_in}
use Rattle.wire_pattern_later.proofs.Written.{nine_parts}
use Rattle.wire_pattern_later.proofs.text.write_line.Goals as goal

pub returns : goal.returns
returns c =
    nine_parts c.args.out.now.items (codes "later ") (decimal c.args.ranks) (32 ∷ []) (name_in (slice_get c.args.pattern.now.roles c.args.line.role)) (32 ∷ [])
    (decimal c.args.line.number) (32 ∷ []) (text_of_verb c.args.line.verb) (10 ∷ []) c.extend_from_slice.new.self.items c.write_number.new.out.items
    c.push.new.self.items c.write_role.new.out.items c.push-2.new.self.items c.write_number-2.new.out.items c.push-3.new.self.items
    c.extend_from_slice-2.new.self.items c.push-4.new.self.items c.in_ok-extend_from_slice.ensures.items c.in_ok-write_number.ensures c.in_ok-push.ensures.items
    c.in_ok-write_role.ensures c.in_ok-push-2.ensures.items c.in_ok-write_number-2.ensures c.in_ok-push-3.ensures.items
    (c.in_ok-extend_from_slice-2.ensures.items ∙ ap (λ t. c.push-3.new.self.items ++ t) (c.as_bytes.ensures.value ∙ c.text_of_verb.ensures))
    c.in_ok-push-4.ensures.items

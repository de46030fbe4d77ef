use Rattle.std.proofs.Common.{ap, ◌∙◌}
use Rattle.wire_types.specs.Texts.{lists_of}
use Rattle.wire_spelling.specs.Spelled.{set_by}
use Rattle.wire_spelling.specs.Numbering.{has_neighbours}
use Rattle.wire_spelling.proofs.NumberTable.{told}
use Rattle.wire_spelling.proofs.numbering.Numbers.spelt_by_items.Goals as goal

pub returns-clause-told : goal.returns-clause-told
returns-clause-told c =
    told c.number.new.self (set_by c.args.spelled) (lists_of c.in_ok-items.items.items) c.in_ok-number.number c.has_repeats-repeats.result c.in_ok-items.ensures c.in_ok-number.ensures.there
    (c.has_repeats-repeats.ensures ∙ ap (λ ts. has_neighbours (lists_of ts)) c.as_slice.ensures.value)

use Rattle.std.proofs.Common.{◌≡◌, drop}
use Rattle.wire_types.specs.Texts.{lists_of}
use Rattle.wire_spelling.specs.Numbering.{repeats_after}
use Rattle.wire_spelling.proofs.numbering.repeats_after.Given as goal

abbrev pub invariant-loop-next : goal.invariant-loop-next
invariant-loop-next l = repeats_after l.last (lists_of (drop l.next-index l.items)) ≡ repeats_after l.fn.item (lists_of l.items)

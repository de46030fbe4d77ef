use Rattle.std.proofs.Common.{◌≡◌, take}
use Rattle.wire_types.specs.Texts.{lists_of, texts_of}
use Rattle.wire_spelling.proofs.numbering.listed_items.Given as goal

abbrev pub invariant-loop-part : goal.invariant-loop-part
invariant-loop-part l = lists_of l.items.items ≡ texts_of (take l.part-index l.part-items)

use Rattle.std.proofs.Common.{◌≡◌, ◌++◌, drop, flat_map}
use Rattle.wire_scripts.specs.Scripts.{numbers_of}
use Rattle.wire_scripts.specs.Canonical.{member_items, items_text}
use Rattle.wire_scripts.proofs.set_word.listed_word.Given as goal

abbrev pub invariant-loop-member : goal.invariant-loop-member
invariant-loop-member l =
    l.word.items ++ items_text (flat_map (member_items l.scripts (numbers_of l.set)) (numbers_of (drop l.member-index l.set)))
    ≡ items_text (flat_map (member_items l.scripts (numbers_of l.set)) (numbers_of l.set))

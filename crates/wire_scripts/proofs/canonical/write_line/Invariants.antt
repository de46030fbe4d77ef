use Rattle.std.proofs.Common.{◌≡◌, ◌++◌, ◌∷◌, take}
use Rattle.std.specs.List.{join_with_byte}
use Rattle.wire_types.specs.Texts.{texts_of}
use Rattle.wire_scripts.proofs.canonical.write_line.Given as goal

abbrev pub invariant-loop-word : goal.invariant-loop-word
invariant-loop-word l = l.out.items ≡ l.fn.out.items ++ join_with_byte 32 (l.first ∷ texts_of (take l.word-index l.others))

use Rattle.std.proofs.Common.{◌≡◌, drop}
use Rattle.wire_types.specs.Texts.{texts_of}
use Rattle.wire_explain.specs.Explained.{are_ascii}
use Rattle.wire_explain.proofs.file_faults.are_ascii.Given as goal

abbrev pub invariant-loop-word : goal.invariant-loop-word
invariant-loop-word l = are_ascii (texts_of (drop l.word-index l.words)) ≡ are_ascii (texts_of l.words)

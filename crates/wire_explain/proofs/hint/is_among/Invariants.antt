use Rattle.std.proofs.Common.{◌≡◌, drop}
use Rattle.std.specs.List.{list_any}
use Rattle.std.specs.Str.{bytes_eq}
use Rattle.wire_types.specs.Texts.{texts_of}
use Rattle.wire_explain.proofs.hint.is_among.Given as goal

abbrev pub invariant-loop-other : goal.invariant-loop-other
invariant-loop-other l = list_any (bytes_eq l.word) (texts_of (drop l.other-index l.words)) ≡ list_any (bytes_eq l.word) (texts_of l.words)

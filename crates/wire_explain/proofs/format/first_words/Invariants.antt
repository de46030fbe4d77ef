use Rattle.std.proofs.Common.{◌≡◌, take, map}
use Rattle.wire_types.specs.Texts.{texts_of}
use Rattle.wire_explain.proofs.format.first_words.Given as goal

abbrev pub invariant-loop-usage : goal.invariant-loop-usage
invariant-loop-usage l = texts_of l.words.items ≡ map (λ u. u.0.now) (take l.usage-index l.table)

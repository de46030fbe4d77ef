use Rattle.std.proofs.Common.{◌∙◌, ap, sym, [], ◌∷◌, ◌++◌, map}
use Rattle.std.proofs.lemmas.List.{map_more, take_all}
use Rattle.wire_explain.specs.Quote.{shown_byte}
use Rattle.wire_explain.proofs.Shown.{shown_is_printable}
use Rattle.wire_explain.proofs.quote.shown_text.Goals as goal

pub loop-byte-preserved : goal.loop-byte-preserved
loop-byte-preserved c =
    c.in_ok-push.ensures.items
    ∙ (λ k. c.loop-byte.invariant k ++ c.shown_byte.ensures k ∷ [])
    ∙ sym (map_more shown_byte c.args.text.now c.loop-byte.byte-index 0 c.loop-byte-test.true)

pub returns-clause-text : goal.returns-clause-text
returns-clause-text c = c.loop-byte.invariant ∙ ap (map shown_byte) (take_all c.loop-byte.byte-index c.args.text.now c.loop-byte-test.false)

pub returns-clause-printable : goal.returns-clause-printable
returns-clause-printable c = shown_is_printable c.args.text.now _ (returns-clause-text c)

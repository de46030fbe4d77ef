use Rattle.std.proofs.Common.{◌∙◌, refl}
use Rattle.wire_reader.proofs.Seen.{known_below, new_past, number_kept, number_pushed}
use Rattle.wire_reader.proofs.numbers.number_text.Goals as goal

pub returns-then-number-len-clause-texts : goal.returns-then-number-len-clause-texts
returns-then-number-len-clause-texts c =
    let known = known_below c.args.texts.now c.args.text.now c.number_or_count-number.result c.len.result c.number_or_count-number.ensures c.len.ensures c.if-number-len.true in
    rw known refl

pub returns-then-number-len-clause-number : goal.returns-then-number-len-clause-number
returns-then-number-len-clause-number c = λ later goes.
    let known = known_below c.args.texts.now c.args.text.now c.number_or_count-number.result c.len.result c.number_or_count-number.ensures c.len.ensures c.if-number-len.true in
    c.number_or_count-number.ensures ∙ number_kept c.args.texts.now later c.args.text.now known goes

pub add-requires-clause-new : goal.add-requires-clause-new
add-requires-clause-new c = new_past c.args.texts.now c.args.text.now c.number_or_count-number.result c.len.result c.number_or_count-number.ensures c.len.ensures c.if-number-len.false

pub returns-clause-texts : goal.returns-clause-texts
returns-clause-texts c =
    let new = new_past c.args.texts.now c.args.text.now c.number_or_count-number.result c.len.result c.number_or_count-number.ensures c.len.ensures c.if-number-len.false in
    rw new c.in_ok-add.ensures.ok

pub returns-clause-number : goal.returns-clause-number
returns-clause-number c = λ later goes.
    let new = new_past c.args.texts.now c.args.text.now c.number_or_count-number.result c.len.result c.number_or_count-number.ensures c.len.ensures c.if-number-len.false in
    c.number_or_count-number.ensures ∙ number_pushed c.args.texts.now later c.args.text.now new (rw c.in_ok-add.ensures.ok at goes)

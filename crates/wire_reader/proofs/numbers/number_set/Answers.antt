use Rattle.std.proofs.Common.{◌∙◌, ap, refl}
use Rattle.wire_scripts.specs.Scripts.{numbers_of}
use Rattle.wire_reader.specs.FirstPass.{number_or_count}
use Rattle.wire_reader.proofs.Seen.{known_below, new_past, number_kept, number_pushed}
use Rattle.wire_reader.proofs.numbers.number_set.Goals as goal

pub returns-then-number-len-clause-sets : goal.returns-then-number-len-clause-sets
returns-then-number-len-clause-sets c =
    let known = known_below c.args.sets.now (numbers_of c.args.set.items) c.number_or_count-number.result c.len.result
    (c.number_or_count-number.ensures ∙ ap (λ l. number_or_count c.args.sets.now (numbers_of l)) c.deref.ensures.value) c.len.ensures c.if-number-len.true in
    rw known refl

pub returns-then-number-len-clause-number : goal.returns-then-number-len-clause-number
returns-then-number-len-clause-number c = λ later goes.
    let known = known_below c.args.sets.now (numbers_of c.args.set.items) c.number_or_count-number.result c.len.result
    (c.number_or_count-number.ensures ∙ ap (λ l. number_or_count c.args.sets.now (numbers_of l)) c.deref.ensures.value) c.len.ensures c.if-number-len.true in
    (c.number_or_count-number.ensures ∙ ap (λ l. number_or_count c.args.sets.now (numbers_of l)) c.deref.ensures.value) ∙ number_kept c.args.sets.now later (numbers_of c.args.set.items) known goes

pub add-requires-clause-new : goal.add-requires-clause-new
add-requires-clause-new c = new_past c.args.sets.now (numbers_of c.args.set.items) c.number_or_count-number.result c.len.result
    (c.number_or_count-number.ensures ∙ ap (λ l. number_or_count c.args.sets.now (numbers_of l)) c.deref.ensures.value) c.len.ensures c.if-number-len.false

pub returns-clause-sets : goal.returns-clause-sets
returns-clause-sets c =
    let new = new_past c.args.sets.now (numbers_of c.args.set.items) c.number_or_count-number.result c.len.result
    (c.number_or_count-number.ensures ∙ ap (λ l. number_or_count c.args.sets.now (numbers_of l)) c.deref.ensures.value) c.len.ensures c.if-number-len.false in
    rw new c.in_ok-add.ensures.ok

pub returns-clause-number : goal.returns-clause-number
returns-clause-number c = λ later goes.
    let new = new_past c.args.sets.now (numbers_of c.args.set.items) c.number_or_count-number.result c.len.result
    (c.number_or_count-number.ensures ∙ ap (λ l. number_or_count c.args.sets.now (numbers_of l)) c.deref.ensures.value) c.len.ensures c.if-number-len.false in
    (c.number_or_count-number.ensures ∙ ap (λ l. number_or_count c.args.sets.now (numbers_of l)) c.deref.ensures.value)
    ∙ number_pushed c.args.sets.now later (numbers_of c.args.set.items) new (rw c.in_ok-add.ensures.ok at goes)

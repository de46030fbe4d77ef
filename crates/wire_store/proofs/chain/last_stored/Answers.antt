use Rattle.std.proofs.Common.{◌∙◌, sym}
use Rattle.wire_store.proofs.Linked.{named_last, newest_stored, never_put}
use Rattle.wire_store.proofs.chain.last_stored.Goals as goal

pub returns-in-Some : goal.returns-in-Some
returns-in-Some c = λ key is.
    let there = c.requires.there c.in-Some.i c.in-Some.is in
    named_last c.args.slots.now key c.args.committed c.in-Some.i _ c.requires.linked c.if-i-committed.true there (sym c.in-Some.is ∙ is)

pub returns-in_default : goal.returns-in_default
returns-in_default c = λ key is. newest_stored c.args.slots.now key c.args.committed c.in-Some.i c.if-i-committed.false c.requires.within (sym c.in-Some.is ∙ is)

pub returns-in_default-2 : goal.returns-in_default-2
returns-in_default-2 c = λ key is. c.in_default.is ∙ never_put c.args.slots.now key c.args.committed c.requires.within (sym c.in_default.is ∙ is)

use Rattle.std.proofs.Common.{ap, sym, subst, ◌∙◌}
use Rattle.wire_spelling.specs.Numbering.{IsSetNumbered}
use Rattle.wire_spelling.proofs.KnownSets.{known_more}
use Rattle.wire_spelling.proofs.Numbered.{keeps_all}
use Rattle.wire_spelling.proofs.numbering.Numbers.spelt_known.Goals as goal

pub returns-in-Some-clause-told : goal.returns-in-Some-clause-told
returns-in-Some-clause-told c =
    subst (λ j. IsSetNumbered c.args.self.now (record { job = j; set = c.args.spelled.set.now }) c.in-Some.spelt) c.requires.job
    (c.requires.known c.args.spelled.set.now c.in-Some.spelt (sym c.find.ensures ∙ c.in-Some.is))

pub returns-in-Some-clause-kept : goal.returns-in-Some-clause-kept
returns-in-Some-clause-kept c = keeps_all c.args.self.now

pub returns-clause-known : goal.returns-clause-known
returns-clause-known c =
    let new = c.spelt_by_items.new.self in
    let set = c.args.spelled.set.now in
    let spelt = c.in_ok-spelt.spelt in
    known_more c.args.self.now new c.args.known.now c.add.new.self set spelt c.in_ok-spelt.ensures.kept (sym (ap (λ b. b.now) c.in_ok-add.ensures.job)) c.in_ok-add.ensures.sets c.requires.known
    (subst (λ j. IsSetNumbered new (record { job = j; set = set }) spelt) (sym c.requires.job) c.in_ok-spelt.ensures.told)

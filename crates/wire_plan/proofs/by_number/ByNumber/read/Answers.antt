use Rattle.std.proofs.Common.{◌∙◌, ap}
use Rattle.wire_plan.specs.Tables.{is_listed, is_this_number}
use Rattle.wire_plan.proofs.Grown.{place}
use Rattle.wire_plan.proofs.Tables.{listed_more, listed_other}
use Rattle.wire_plan.proofs.by_number.ByNumber.read.Goals as goal

pub returns-in_ok-add : goal.returns-in_ok-add
returns-in_ok-add c = λ plan sets is are.
    let p = c.args.event.proc.number in
    let i = c.args.event.at in
    listed_more plan c.args.listing p i c.in-Some.number c.args.self.now c.add.new.self
    (λ number. ap (is_listed plan c.args.listing number (place p i)) is ∙ c.number_of.ensures plan sets number i ∙ ap (λ o. is_this_number o number) c.in-Some.is)
    c.in_ok-add.ensures.here c.in_ok-add.ensures.others are

pub returns-in_default : goal.returns-in_default
returns-in_default c = λ plan sets is are.
    let p = c.args.event.proc.number in
    let i = c.args.event.at in
    listed_other plan c.args.listing p i c.args.self.now
    (λ number. ap (is_listed plan c.args.listing number (place p i)) is ∙ c.number_of.ensures plan sets number i ∙ ap (λ o. is_this_number o number) c.in_default.is)
    are

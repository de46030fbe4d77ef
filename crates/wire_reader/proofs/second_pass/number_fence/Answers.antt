use Rattle.std.proofs.Common.{◌∙◌, ap}
use Rattle.wire_reader.specs.FirstPass.{number_or_count}
use Rattle.wire_reader.specs.Drafted.{declared_of}
use Rattle.wire_reader.specs.Tabled.{seen_of, with_text}
use Rattle.wire_reader.specs.Targets.{named_in}
use Rattle.wire_reader.proofs.second_pass.number_fence.Goals as goal

pub returns-clause-tables : goal.returns-clause-tables
returns-clause-tables c =
    let d = declared_of c.args.draft.now in
    let old = seen_of c.args.numbering.now.tables in
    let members = ap (named_in d) c.deref.ensures.value ∙ c.in_ok-targets.ensures.members in
    c.in_ok-number.ensures.tables ∙ ap (λ m. record old { sets = with_text old.sets m }) members

pub returns-clause-number : goal.returns-clause-number
returns-clause-number c = λ later goes.
    let members = ap (named_in (declared_of c.args.draft.now)) c.deref.ensures.value ∙ c.in_ok-targets.ensures.members in
    c.in_ok-number.ensures.number later goes ∙ ap (number_or_count later) members

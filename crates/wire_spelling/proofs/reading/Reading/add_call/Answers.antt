use Rattle.std.proofs.Common.{ap, subst, sym, ◌∙◌, ◌++◌, ◌∷◌, []}
use Rattle.wire_spelling.specs.Numbering.{IsCallTold, IsRowTold}
use Rattle.wire_spelling.specs.Spelled.{word_by}
use Rattle.wire_spelling.specs.Spelling.{of_job}
use Rattle.wire_spelling.proofs.Numbered.{row_more, rows_kept}
use Rattle.wire_spelling.proofs.reading.Reading.add_call.Goals as goal

pub returns : goal.returns
returns c = λ p read.
    let old = c.args.self.now.numbers in
    let new = c.spelt_call.new.self in
    let told = c.in_ok-told.ensures in
    let set = of_job p.job (word_by c.args.set) in
    let call = subst (λ o. IsCallTold new o c.in_ok-told.told) (c.spelled_in-call.ensures ∙ ap (λ j. of_job j (word_by c.args.set)) read.job) told.told in record {
      job = read.job;
      done = rows_kept old new told.kept p.done _ read.done;
      row = subst (IsRowTold new (p.row ++ set ∷ [])) (sym c.in_ok-push.ensures.items) (row_more old new p.row c.args.self.now.row.items set c.in_ok-told.told told.kept read.row call);
      known = told.known;
    }

use Rattle.std.proofs.Common.{map, ap, subst, sym, ◌∙◌, ◌++◌, ◌∷◌, []}
use Rattle.std.proofs.lemmas.List.{map_push}
use Rattle.wire_spelling.specs.Numbering.{AreRowsTold, IsRowTold}
use Rattle.wire_spelling.proofs.Numbered.{rows_pushed}
use Rattle.wire_spelling.proofs.reading.Reading.end_row.Goals as goal

pub returns : goal.returns
returns c = λ p read. record {
  job = read.job;
  done =
      (let pushed = ap (map (λ v. v.items)) c.in_ok-push.ensures.items ∙ map_push (λ v. v.items) c.args.self.now.done.items c.replace-row.result in
      subst (AreRowsTold c.args.self.now.numbers (p.done ++ p.row ∷ [])) (sym pushed)
      (rows_pushed c.args.self.now.numbers p.done (map (λ v. v.items) c.args.self.now.done.items) p.row c.replace-row.result.items read.done
      (subst (λ v. IsRowTold c.args.self.now.numbers p.row v.items) (sym c.replace-row.ensures.value) read.row)));
  row = subst (IsRowTold c.args.self.now.numbers []) (sym (ap (λ v. v.items) c.replace-row.ensures.after ∙ c.in_ok-next.ensures.items)) tt;
  known = read.known;
}

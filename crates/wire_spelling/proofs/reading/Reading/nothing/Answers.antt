use Rattle.std.proofs.Common.{[], map, subst, sym}
use Rattle.wire_spelling.specs.Numbering.{AreRowsTold, IsRowTold}
use Rattle.wire_spelling.proofs.KnownSets.{none_known}
use Rattle.wire_spelling.proofs.reading.Reading.nothing.Goals as goal

pub returns : goal.returns
returns c =
    let table = c.none-numbers.result in record {
      job = c.as_slice-2.ensures;
      done = subst (λ rows. AreRowsTold table [] (map (λ v. v.items) rows)) (sym c.new.ensures.items) tt;
      row = subst (IsRowTold table []) (sym c.new-2.ensures.items) tt;
      known = none_known table c.of_job-known.result c.of_job-known.ensures.none;
    }

use Rattle.std.proofs.Common.{subst, sym}
use Rattle.std.proofs.lemmas.Result.{on_ok_weaker}
use Rattle.wire_spelling.specs.Spelled.{said_by}
use Rattle.wire_spelling.specs.Reads.{IsReadTo, taken}
use Rattle.wire_spelling.proofs.reading.Reading.take.Goals as goal

pub returns-in-Rank : goal.returns-in-Rank
returns-in-Rank c =
    on_ok_weaker c.end_row.result (λ so p read. subst (λ said. IsReadTo c.end_row.new.self (taken p (said_by said))) (sym c.in-Rank.is) (so p read)) c.end_row.ensures

pub returns-in-Call : goal.returns-in-Call
returns-in-Call c =
    on_ok_weaker c.add_call.result (λ so p read. subst (λ said. IsReadTo c.add_call.new.self (taken p (said_by said))) (sym c.in-Call.is) (so p read)) c.add_call.ensures

use Rattle.std.proofs.Common.{sym, inl, inr}
use Rattle.wire_reader.proofs.Onwards.{read_on, refused_ahead}
use Rattle.wire_reader.proofs.shared_pass.go_on.Goals as goal

pub returns-in_ok-more-in-Ok-clause-ok : goal.returns-in_ok-more-in-Ok-clause-ok
returns-in_ok-more-in-Ok-clause-ok g c = λ start lines was.
    let more = c.in_ok-more-in-Ok.ensures in
    read_on start lines c.args.progress was c.in_ok-more-in-Ok.more (rw (sym more.0) at (rw c.in-Ok.is at c.read_and_declare-next.ensures.declared))
    (rw more.1 at c.read_and_declare-next.ensures.read)

pub returns-in-Err-clause-err : goal.returns-in-Err-clause-err
returns-in-Err-clause-err g c = elim (rw c.in-Err.is at c.read_and_declare-next.ensures.declared) [
  | inl memory ↦ inl memory
  | inr judged ↦ inr (λ start lines was. refused_ahead start lines c.args.progress was c.in-Err.fault judged)
]

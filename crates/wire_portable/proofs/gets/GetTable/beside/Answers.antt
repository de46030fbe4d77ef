use Rattle.std.proofs.Common.{sym, subst}
use Rattle.wire_scripts.specs.Planned.{plan_of}
use Rattle.wire_portable.specs.Gets.{place_in, gets_under, AreOpenGets}
use Rattle.wire_portable.proofs.gets.GetTable.beside.Goals as goal

pub returns : goal.returns
returns c =
    let table = c.args.self.now in
    let plan = plan_of c.args.marked.now in
    let p = c.args.owner.number in
    let n = place_in table.together plan c.args.proc.number in
    subst (AreOpenGets table.together plan p n) (sym c.list.ensures)
    (subst (λ m. AreOpenGets table.together plan p n (gets_under table (p, m))) (sym c.place_of-place.ensures) (c.requires.lists p n))

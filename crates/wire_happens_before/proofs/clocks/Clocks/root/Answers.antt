use Rattle.std.proofs.Common.{◌≤◌, length, sym, ap, arith}
use Rattle.std.proofs.lemmas.Bool.Decides.{nat_tests}
use Rattle.std.specs.Prelude.{slice_get}
use Rattle.std.proofs.lemmas.Option.{slice_get_past}
use Rattle.wire_happens_before.specs.Clocks.{list_in}
use Rattle.wire_happens_before.proofs.clocks.Clocks.root.Goals as goal

pub returns-in_default : goal.returns-in_default
returns-in_default c =
    let lists = c.args.self.now.roots.items in
    let short : length c.deref.result.now ≤ c.index.result = grind (arith, nat_tests, c.in_default.ensures.lookup.0) in
    let past : length lists ≤ c.args.event.proc.number = rw (c.deref.ensures.value, c.index.ensures) at short in
    sym (ap (λ o. slice_get (list_in o) c.args.event.at) (slice_get_past lists c.args.event.proc.number past))

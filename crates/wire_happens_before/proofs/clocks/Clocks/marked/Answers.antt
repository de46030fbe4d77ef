use Rattle.std.proofs.Common.{◌≡◌, ◌≤◌, Some, length, refl, sym, ap, arith}
use Rattle.std.proofs.lemmas.Bool.Decides.{nat_tests}
use Rattle.std.specs.Prelude.{slice_get}
use Rattle.std.proofs.lemmas.Option.{slice_get_past, slice_get_read}
use Rattle.wire_happens_before.specs.Clocks.{list_in, marked_count}
use Rattle.wire_happens_before.proofs.clocks.Clocks.marked.Goals as goal

pub returns-in-Some : goal.returns-in-Some
returns-in-Some c =
    let lists = c.args.self.now.roots.items in
    let roots = c.in-Some.roots.now in
    let there : slice_get lists c.args.proc.number ≡ Some roots = rw (c.deref.ensures.value, c.index.ensures) at (slice_get_read c.deref.result.now (length c.deref.result.now) c.index.result roots
    refl c.in-Some.ensures.lookup.3.0 c.in-Some.ensures.lookup.1) in
    let count : marked_count c.args.self.now c.args.proc.number ≡ length roots.items = ap (λ o. length (list_in o)) there in
    let len = c.len.ensures in
    let same = roots.ok.0 in
    omega (arith, count, len, same)

pub returns-in-None : goal.returns-in-None
returns-in-None c =
    let lists = c.args.self.now.roots.items in
    let short : length c.deref.result.now ≤ c.index.result = grind (arith, nat_tests, c.in-None.ensures.lookup.0) in
    let past : length lists ≤ c.args.proc.number = rw (c.deref.ensures.value, c.index.ensures) at short in
    sym (ap (λ o. length (list_in o)) (slice_get_past lists c.args.proc.number past))

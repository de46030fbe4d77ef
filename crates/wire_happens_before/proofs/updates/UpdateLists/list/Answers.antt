use Rattle.std.proofs.Common.{◌≤◌, ◌∙◌, length, sym, ap, arith}
use Rattle.std.proofs.lemmas.Bool.Decides.{nat_tests}
use Rattle.wire_happens_before.specs.Updates.{updates_at}
use Rattle.wire_happens_before.proofs.Lists.{list_there, list_past}
use Rattle.wire_happens_before.proofs.updates.UpdateLists.list.Goals as goal

pub returns-in-Some : goal.returns-in-Some
returns-in-Some c =
    c.as_slice.ensures.value ∙ sym (list_there c.self.inside.by_name.items c.args.name c.in-Some.list.now (rw c.deref.ensures.value at c.in-Some.ensures.lookup.3.0) (rw c.deref.ensures.value at c.in-Some.ensures.lookup.1))
    ∙ ap (λ lists. updates_at lists c.args.name) c.self.view_is

pub returns-in-None : goal.returns-in-None
returns-in-None c =
    let short : length c.deref.result.now ≤ c.args.name = grind (arith, nat_tests, c.in-None.ensures.lookup.0) in
    sym (list_past c.self.inside.by_name.items c.args.name (rw c.deref.ensures.value at short)) ∙ ap (λ lists. updates_at lists c.args.name) c.self.view_is

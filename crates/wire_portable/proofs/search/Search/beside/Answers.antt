use Rattle.std.proofs.Common.{◌<◌, ◌∙◌, ap, sym, subst, map}
use Rattle.std.specs.Prelude.{MatchOption}
use Rattle.wire_runs.specs.Plan.{event_of, process_count}
use Rattle.wire_scripts.specs.Planned.{plan_of}
use Rattle.wire_portable.specs.Gets.{place_in, AreGetLists, AreOpenGets, IsGetTable}
use Rattle.wire_portable.specs.Searched.{Searched}
use Rattle.wire_portable.proofs.search.Search.beside.Goals as goal

pub beside-requires-clause-lists : goal.beside-requires-clause-lists
beside-requires-clause-lists c =
    let held = subst (λ o. MatchOption o (Unit {0}) (λ g. IsGetTable c.self.inside.anywhere (plan_of c.self.inside.marked.now) g.now)) c.in-Some.is c.self.invariant.1 in
    subst (λ b. AreGetLists b (plan_of c.self.inside.marked.now) c.in-Some.table.now) (sym held.where_it_is) held.lists

pub beside-requires-clause-there : goal.beside-requires-clause-there
beside-requires-clause-there c = subst (λ s. c.args.proc.number < process_count (plan_of s)) (sym (ap (λ (v : Searched). v.scripts) c.self.view_is)) c.requires

pub returns-in-Some : goal.returns-in-Some
returns-in-Some c =
    let held = subst (λ o. MatchOption o (Unit {0}) (λ g. IsGetTable c.self.inside.anywhere (plan_of c.self.inside.marked.now) g.now)) c.in-Some.is c.self.invariant.1 in
    let p = c.args.owner.number in
    let q = c.args.proc.number in
    let places = map event_of c.beside.result.now in
    let together = held.where_it_is ∙ ap (λ (v : Searched). v.anywhere) c.self.view_is in
    subst (λ s. AreOpenGets c.args.self.now.anywhere (plan_of s) p (place_in c.args.self.now.anywhere (plan_of s) q) places) (ap (λ (v : Searched). v.scripts) c.self.view_is)
    (subst (λ b. AreOpenGets b (plan_of c.self.inside.marked.now) p (place_in b (plan_of c.self.inside.marked.now) q) places) together c.beside.ensures)

use Rattle.std.proofs.Common.{◌≡◌, ◌∙◌, Some, inl, refl, ap, sym, subst, List}
use Rattle.std.specs.Prelude.{MatchOption}
use Rattle.wire_runs.specs.Plan.{Event, Get, kind, event_of}
use Rattle.wire_scripts.specs.Planned.{plan_of}
use Rattle.wire_library_laws.specs.Portable.{IsAsked}
use Rattle.wire_portable.specs.Gets.{place_in, AreOpenGets, AreUnreadBeside, IsGetTable}
use Rattle.wire_portable.specs.Searched.{Searched}
use Rattle.wire_portable.proofs.search.Search.first_beside.Goals as goal

pub first_beside-requires-clause-table : goal.first_beside-requires-clause-table
first_beside-requires-clause-table c =
    let held = subst (λ o. MatchOption o (Unit {0}) (λ g. IsGetTable c.self.inside.anywhere (plan_of c.self.inside.marked.now) g.now)) c.in-Some.is c.self.invariant.1 in
    subst (λ b. IsGetTable b (plan_of c.self.inside.marked.now) c.in-Some.table.now) (sym held.where_it_is) held

pub first_beside-requires-clause-is : goal.first_beside-requires-clause-is
first_beside-requires-clause-is c =
    subst (λ s. kind (plan_of s) (event_of c.args.get) ≡ Some (Get c.args.asked.owner.number c.args.asked.key)) (sym (ap (λ (v : Searched). v.scripts) c.self.view_is)) c.requires.is

pub first_beside-requires-clause-asked : goal.first_beside-requires-clause-asked
first_beside-requires-clause-asked c = subst (λ s. IsAsked (plan_of s) (event_of c.args.get)) (sym (ap (λ (v : Searched). v.scripts) c.self.view_is)) c.requires.asked

pub returns-in-Some : goal.returns-in-Some
returns-in-Some c =
    let held = subst (λ o. MatchOption o (Unit {0}) (λ g. IsGetTable c.self.inside.anywhere (plan_of c.self.inside.marked.now) g.now)) c.in-Some.is c.self.invariant.1 in
    let p = c.args.asked.owner.number in
    let q = c.args.get.proc.number in
    let g = event_of c.args.get in
    let together = held.where_it_is ∙ ap (λ (v : Searched). v.anywhere) c.self.view_is in
    subst (λ s. (places : List Event) → AreOpenGets c.args.self.now.anywhere (plan_of s) p (place_in c.args.self.now.anywhere (plan_of s) q) places →
    AreUnreadBeside (plan_of s) p c.first_beside.result g places) (ap (λ (v : Searched). v.scripts) c.self.view_is)
    (subst (λ b. (places : List Event) → AreOpenGets b (plan_of c.self.inside.marked.now) p (place_in b (plan_of c.self.inside.marked.now) q) places →
    AreUnreadBeside (plan_of c.self.inside.marked.now) p c.first_beside.result g places) together c.first_beside.ensures)

pub returns-in-None : goal.returns-in-None
returns-in-None c = λ places are k z key at is. inl refl

use Rattle.std.proofs.Common.{◌≡◌, ◌∙◌, ap, sym, subst, map, true, false}
use Rattle.wire_runs.specs.Plan.{event_of, same_node}
use Rattle.wire_runs.proofs.Basics.{process_within}
use Rattle.wire_scripts.specs.Planned.{plan_of}
use Rattle.wire_portable.specs.Nows.{IsLiveNow}
use Rattle.wire_portable.specs.Searched.{Searched}
use Rattle.wire_portable.proofs.NowsAdded.{listed_as, away_fine, there_fine}
use Rattle.wire_portable.proofs.Had.{has_same}
use Rattle.wire_portable.proofs.Sets.{not_all}
use Rattle.wire_portable.proofs.search.Search.unsure_now.Goals as goal

pub beside-requires : goal.beside-requires
beside-requires c = process_within (plan_of c.args.self.now.scripts) c.args.get.proc.number c.args.get.at _ c.requires.now.is

pub returns-in_default : goal.returns-in_default
returns-in_default c = λ library h. absurd (not_all library (has_same _ _ library c.all.ensures h))

pub now_anywhere-requires-clause-get : goal.now_anywhere-requires-clause-get
now_anywhere-requires-clause-get c =
    let here = c.self.invariant.0 ∙ ap (λ (v : Searched). v.scripts) c.self.view_is in
    subst (λ s. IsLiveNow (plan_of s) c.args.asked.owner.number c.args.asked.key (event_of c.args.get)) (sym here) c.requires.now

pub now_anywhere-requires-clause-gets : goal.now_anywhere-requires-clause-gets
now_anywhere-requires-clause-gets c =
    listed_as c.args.self.now.anywhere true c.args.self.now.scripts c.self.inside.judge.now c.args.asked.owner.number (event_of c.args.get) (map event_of c.in-Some.gets.now)
    (sym (ap (λ (v : Searched). v.anywhere) c.self.view_is) ∙ c.if-self.true) (sym (c.self.invariant.0 ∙ ap (λ (v : Searched). v.scripts) c.self.view_is)) (rw c.in-Some.is at c.beside.ensures)

pub far_now-requires-clause-get : goal.far_now-requires-clause-get
far_now-requires-clause-get c =
    let here = c.self.invariant.0 ∙ ap (λ (v : Searched). v.scripts) c.self.view_is in
    subst (λ s. IsLiveNow (plan_of s) c.args.asked.owner.number c.args.asked.key (event_of c.args.get)) (sym here) c.requires.now

pub far_now-requires-clause-far : goal.far_now-requires-clause-far
far_now-requires-clause-far c =
    let here = c.self.invariant.0 ∙ ap (λ (v : Searched). v.scripts) c.self.view_is in
    let there = sym (ap (λ (v : Searched). v.anywhere) c.self.view_is) ∙ c.if-self.false in
    subst (λ s. same_node (plan_of s) c.args.asked.owner.number c.args.get.proc.number ≡ false) (sym here) (c.requires.far there)

pub far_now-requires-clause-gets : goal.far_now-requires-clause-gets
far_now-requires-clause-gets c =
    listed_as c.args.self.now.anywhere false c.args.self.now.scripts c.self.inside.judge.now c.args.asked.owner.number (event_of c.args.get) (map event_of c.in-Some.gets.now)
    (sym (ap (λ (v : Searched). v.anywhere) c.self.view_is) ∙ c.if-self.false) (sym (c.self.invariant.0 ∙ ap (λ (v : Searched). v.scripts) c.self.view_is)) (rw c.in-Some.is at c.beside.ensures)

pub returns-then-self : goal.returns-then-self
returns-then-self c = λ library h.
    let p = c.args.asked.owner.number in
    let g = event_of c.args.get in
    let places = map event_of c.in-Some.gets.now in
    let here = c.self.invariant.0 ∙ ap (λ (v : Searched). v.scripts) c.self.view_is in
    let away = sym (ap (λ (v : Searched). v.anywhere) c.self.view_is) ∙ c.if-self.true in
    let are = listed_as c.args.self.now.anywhere true c.args.self.now.scripts c.self.inside.judge.now p g places away (sym here) (rw c.in-Some.is at c.beside.ensures) in
    away_fine c.args.self.now p c.args.asked.key g places library c.self.inside.judge.now here away c.requires.far are (λ words e once fits. c.now_anywhere.ensures library words e h once fits)

pub returns-else-self : goal.returns-else-self
returns-else-self c = λ library h.
    let p = c.args.asked.owner.number in
    let g = event_of c.args.get in
    let places = map event_of c.in-Some.gets.now in
    let here = c.self.invariant.0 ∙ ap (λ (v : Searched). v.scripts) c.self.view_is in
    let there = sym (ap (λ (v : Searched). v.anywhere) c.self.view_is) ∙ c.if-self.false in
    let are = listed_as c.args.self.now.anywhere false c.args.self.now.scripts c.self.inside.judge.now p g places there (sym here) (rw c.in-Some.is at c.beside.ensures) in
    there_fine c.args.self.now p c.args.asked.key g places library c.self.inside.judge.now here there c.requires.far are (λ words e once fits. c.far_now.ensures library words e h once fits)

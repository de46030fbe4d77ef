use Rattle.std.proofs.Common.{◌∙◌, map, ap, sym, subst}
use Rattle.wire_runs.specs.Plan.{event_of}
use Rattle.wire_runs.proofs.Basics.{process_within}
use Rattle.wire_scripts.specs.Planned.{plan_of}
use Rattle.wire_library_laws.specs.Portable.{IsAsked}
use Rattle.wire_portable.specs.Gets.{place_in, AreUnreadBeside}
use Rattle.wire_portable.specs.Libraries.{family_of}
use Rattle.wire_portable.specs.Judging.{AreFineMates}
use Rattle.wire_portable.specs.Searched.{plan_in}
use Rattle.wire_portable.specs.Sharing.{AreAskedGets}
use Rattle.wire_portable.proofs.GetsFine.{asked_gets, no_mate, none_of_phase}
use Rattle.wire_portable.proofs.Sets.{not_all}
use Rattle.wire_portable.proofs.Had.{has_same}
use Rattle.wire_portable.proofs.search.Search.with_mates.Goals as goal

pub beside-requires : goal.beside-requires
beside-requires c = process_within (plan_in c.args.self.now) c.args.get.proc.number c.args.get.at _ c.requires.is

pub mates-requires-clause-gets : goal.mates-requires-clause-gets
mates-requires-clause-gets c =
    let plan = plan_in c.args.self.now in
    let anywhere = c.args.self.now.anywhere in
    let places = map event_of c.in-Some.gets.now in
    subst (λ s. AreAskedGets (plan_of s) c.args.asked.owner.number places) (sym (c.self.invariant.0 ∙ ap (λ v. v.scripts) c.self.view_is))
    (asked_gets anywhere plan c.args.asked.owner.number (place_in anywhere plan c.args.get.proc.number) places (rw c.in-Some.is at c.beside.ensures))

pub mates-requires-clause-first : goal.mates-requires-clause-first
mates-requires-clause-first c =
    let places = map event_of c.in-Some.gets.now in
    subst (λ s. AreUnreadBeside (plan_of s) c.args.asked.owner.number c.first_beside-first.result (event_of c.args.get) places) (sym (c.self.invariant.0 ∙ ap (λ v. v.scripts) c.self.view_is))
    (c.first_beside-first.ensures places (rw c.in-Some.is at c.beside.ensures))

pub mates-requires-clause-asked : goal.mates-requires-clause-asked
mates-requires-clause-asked c = subst (λ s. IsAsked (plan_of s) (event_of c.args.get)) (sym (c.self.invariant.0 ∙ ap (λ v. v.scripts) c.self.view_is)) c.requires.asked

pub returns-then-is_stored_earlier : goal.returns-then-is_stored_earlier
returns-then-is_stored_earlier c = λ library h.
    none_of_phase library (plan_in c.args.self.now) c.args.asked.owner.number c.args.asked.key (event_of c.args.get) c.args.self.now.anywhere (c.is_stored_earlier.ensures c.if-is_stored_earlier.true)

pub returns-in-Some : goal.returns-in-Some
returns-in-Some c = λ library h.
    let plan = plan_in c.args.self.now in
    let p = c.args.asked.owner.number in
    let key = c.args.asked.key in
    let g = event_of c.args.get in
    let hs = map event_of c.in-Some.gets.now in
    let same = c.self.invariant.0 ∙ ap (λ v. v.scripts) c.self.view_is in
    no_mate library plan p key g c.args.self.now.anywhere hs (rw c.in-Some.is at c.beside.ensures) (subst (λ s. AreFineMates (family_of library) (plan_of s) p key g hs) same (c.mates.ensures library h))

pub returns-in-None : goal.returns-in-None
returns-in-None c = λ library h. absurd (not_all library (has_same _ _ library c.all.ensures h))

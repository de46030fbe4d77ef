use Rattle.std.proofs.Common.{◌≡◌, ◌∙◌, false, map, subst, sym}
use Rattle.std.proofs.lemmas.Result.{on_ok_weaker}
use Rattle.wire_runs.specs.Plan.{event_of, set_of}
use Rattle.wire_runs.proofs.Basics.{event_within}
use Rattle.wire_scripts.specs.Planned.{plan_of}
use Rattle.wire_scripts.specs.Scripts.{set_at}
use Rattle.wire_portable.specs.Fences.{IsSpeltAt, IsPlainCall, KeepsFenceRules}
use Rattle.wire_portable.specs.Adding.{AddsUnportable}
use Rattle.wire_portable.specs.Libraries.{has}
use Rattle.wire_portable.proofs.Added.{adds_all, adds_other}
use Rattle.wire_portable.proofs.PlainFences.{arrives, arrivals_within, own_arrival, plain_call}
use Rattle.wire_portable.proofs.fences.add_call.Goals as goal

pub all_arrivals-arrivals-requires : goal.all_arrivals-arrivals-requires
all_arrivals-arrivals-requires c = arrives c.args.plan.now c.scripts.ensures.sound (event_of c.args.call.arrival) _ c.args.call.collect c.requires.is

pub number_at-number-requires : goal.number_at-number-requires
number_at-number-requires c = event_within (plan_of c.args.plan.now) c.args.call.arrival.proc.number c.args.call.arrival.at _ c.requires.is

pub first_spelt-requires : goal.first_spelt-requires
first_spelt-requires c =
    arrivals_within (plan_of c.args.plan.now) _ _ (map event_of c.all_arrivals-arrivals.result.now)
    (c.all_arrivals-arrivals.ensures _ _ (own_arrival c.args.plan.now c.scripts.ensures.sound (event_of c.args.call.arrival) _ c.args.call.collect c.requires.is))

pub add_first-requires-clause-within : goal.add_first-requires-clause-within
add_first-requires-clause-within c =
    let places = map event_of c.all_arrivals-arrivals.result.now in
    arrivals_within (plan_of c.args.plan.now) _ _ places
    (c.all_arrivals-arrivals.ensures _ _ (own_arrival c.args.plan.now c.scripts.ensures.sound (event_of c.args.call.arrival) _ c.args.call.collect c.requires.is))
    c.in-Some.ensures.k (event_of c.in-Some.first) c.in-Some.ensures.is

pub add_first-requires-clause-here : goal.add_first-requires-clause-here
add_first-requires-clause-here c = event_within (plan_of c.args.plan.now) c.args.call.arrival.proc.number c.args.call.arrival.at _ c.requires.is

pub add_first-requires-clause-arrives : goal.add_first-requires-clause-arrives
add_first-requires-clause-arrives c = arrives c.args.plan.now c.scripts.ensures.sound (event_of c.args.call.arrival) _ c.args.call.collect c.requires.is

pub add_first-requires-clause-alike : goal.add_first-requires-clause-alike
add_first-requires-clause-alike c =
    sym c.number_at-number.ensures ∙ c.are_same.ensures.0 c.if-not-are_same.false ∙ c.spelt_first.ensures

pub blame-requires : goal.blame-requires
blame-requires c = event_within (plan_of c.args.plan.now) c.args.call.arrival.proc.number c.args.call.arrival.at _ c.requires.is

pub add_apart-requires : goal.add_apart-requires
add_apart-requires c = event_within (plan_of c.args.plan.now) c.args.call.arrival.proc.number c.args.call.arrival.at _ c.requires.is

pub returns-then-not-are_same : goal.returns-then-not-are_same
returns-then-not-are_same c = on_ok_weaker c.add_apart.result (λ never library free. absurd (never library free)) c.add_apart.ensures

pub returns-in-Some : goal.returns-in-Some
returns-in-Some c =
    let s = c.args.plan.now in
    let rows = c.args.spelling.now in
    let table = c.args.sets.now in
    let call = c.args.call in
    let first = event_of c.in-Some.first in
    let places = map event_of c.all_arrivals-arrivals.result.now in
    on_ok_weaker c.add_first.result (adds_other c.args.found.now c.add_first.new.found (λ library. KeepsFenceRules library s rows table first call)
    (λ library. IsPlainCall library s rows table (set_of (set_at s.sets call.set)) call.collect (event_of call.arrival))
    (λ library keeps.
    plain_call library s rows table call places first c.requires.is c.all_arrivals-arrivals.ensures c.scripts.ensures.sound
    (subst (λ n. IsSpeltAt s rows n places first) c.number_at-number.ensures c.in-Some.ensures) keeps)) c.add_first.ensures

pub returns-in-None : goal.returns-in-None
returns-in-None c =
    let s = c.args.plan.now in
    let call = c.args.call in
    on_ok_weaker c.blame.result (λ h.
    adds_all c.args.found.now c.blame.new.self
    (λ library. IsPlainCall library s c.args.spelling.now c.args.sets.now (set_of (set_at s.sets call.set)) call.collect (event_of call.arrival))
    (subst (λ k. AddsUnportable c.args.found.now c.blame.new.self (λ library. has k library ≡ false)) c.all.ensures h)) c.blame.ensures

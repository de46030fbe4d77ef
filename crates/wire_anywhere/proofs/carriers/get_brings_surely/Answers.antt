use Rattle.std.proofs.Common.{sym, map}
use Rattle.std.proofs.lemmas.Bool.{true≢false}
use Rattle.wire_runs.specs.Plan.{event_of}
use Rattle.wire_scripts.specs.Planned.{plan_of}
use Rattle.wire_anywhere.proofs.Surely.{first_is_before, then_first, then_none}
use Rattle.wire_anywhere.proofs.carriers.get_brings_surely.Goals as goal

pub returns-in-Some : goal.returns-in-Some
returns-in-Some c =
    let plan = plan_of c.args.marked.now in
    let get = event_of c.args.asked.get_now in
    let p = c.args.asked.owner.number in
    let places = map event_of c.args.gets.now in
    let x = event_of c.in-Some.first in (
      (λ t. first_is_before plan p c.args.asked.key c.args.proc.number get places c.requires x c.in-Some.ensures (c.before-in-Some.ensures.0 t)),
      (λ s. c.before-in-Some.ensures.1 (then_first plan p c.args.asked.key c.args.proc.number get places c.requires x c.in-Some.ensures s)),
    )

pub returns-in-None : goal.returns-in-None
returns-in-None c =
    let plan = plan_of c.args.marked.now in (
      (λ t. absurd (true≢false (sym t))),
      (λ s. absurd (then_none plan c.args.asked.owner.number c.args.asked.key c.args.proc.number (event_of c.args.asked.get_now) (map event_of c.args.gets.now) c.requires c.in-None.ensures s)),
    )

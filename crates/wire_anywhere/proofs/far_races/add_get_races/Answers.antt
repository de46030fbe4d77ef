use Rattle.std.proofs.Common.{◌+◌, ◌∙◌, sym, subst, map, arith}
use Rattle.std.proofs.lemmas.Bool.{true≢false}
use Rattle.std.proofs.lemmas.List.{length-map}
use Rattle.std.proofs.lemmas.Option.{slice_get_within}
use Rattle.wire_runs.specs.Plan.{event_of}
use Rattle.wire_scripts.specs.Planned.{plan_of}
use Rattle.wire_fates.proofs.Places.{place_at}
use Rattle.wire_runs.proofs.Anywhere.{far_not_reader}
use Rattle.wire_anywhere.proofs.Far.{far_get, no_get, get_more, get_skip, gets_done}
use Rattle.wire_anywhere.proofs.Races.{get_source}
use Rattle.wire_anywhere.specs.Adding.{AddsPlacementFindings}
use Rattle.wire_anywhere.specs.Races.{AreFarGetsBelow}
use Rattle.wire_anywhere.proofs.far_races.add_get_races.Goals as goal
use Rattle.wire_anywhere.proofs.far_races.add_get_races.Goals.{then-is_far+in_ok-add_race, else-is_far}

pub loop-get-init : goal.loop-get-init
loop-get-init c =
    no_get (plan_of c.args.marked.now) (event_of c.args.asked.get_now) c.args.asked.owner.number c.args.asked.key (map event_of c.args.gets.now) c.requires.gets c.args.found.now

pub returns : goal.returns
returns c =
    let plan = plan_of c.args.marked.now in
    let gets = c.args.gets.now in
    let end = c.loop-get-test.false in
    let size = length-map gets event_of in
    gets_done plan (event_of c.args.asked.get_now) c.args.asked.owner.number c.args.asked.key (map event_of gets) c.requires.gets c.args.found.now c.loop-get.found c.loop-get.get-index
    (λ k z is. let lt = slice_get_within (map event_of gets) k z is in omega (arith, lt, end, size)) c.loop-get.invariant

pub add_race-requires-clause-source : goal.add_race-requires-clause-source
add_race-requires-clause-source c =
    let n = c.loop-get.get-index in
    rw c.plan.ensures (get_source (plan_of c.args.marked.now) c.args.asked.owner.number c.args.asked.key _ (c.requires.gets.only n _ (place_at c.args.gets.now n _ c.loop-get-test.true)))

pub add_race-requires-clause-another : goal.add_race-requires-clause-another
add_race-requires-clause-another c = λ e.
    let plan = plan_of c.args.marked.now in
    let get = event_of c.args.asked.get_now in
    let p = c.args.asked.owner.number in
    let n = c.loop-get.get-index in
    let at = place_at c.args.gets.now n _ c.loop-get-test.true in
    let both = c.is_far.ensures.0 c.if-is_far.true in
    far_not_reader plan _ get p c.args.asked.key _ (far_get plan get p c.args.asked.key c.requires.unsure _ (c.requires.gets.only n _ at) both.0 both.1).far (sym e)

pub loop-get-preserved : goal.loop-get-preserved
loop-get-preserved c =
    let plan = plan_of c.args.marked.now in
    let get = event_of c.args.asked.get_now in
    let p = c.args.asked.owner.number in
    let key = c.args.asked.key in
    let places = map event_of c.args.gets.now in
    let n = c.loop-get.get-index in
    let at = place_at c.args.gets.now n _ c.loop-get-test.true in
    elim c.if-is_far.branch [
      | then-is_far+in_ok-add_race w ↦
          (let both = c.is_far.ensures.0 w.if-is_far.true in
          subst (λ l. AddsPlacementFindings plan c.args.found.now l (AreFarGetsBelow plan get p key places (n + 1))) (sym w.found-is)
          (get_more plan get p key places c.requires.gets c.args.found.now c.loop-get.found w.add_race.new.found n (n + 1) _ (omega arith) at
          (far_get plan get p key c.requires.unsure _ (c.requires.gets.only n _ at) both.0 both.1) c.loop-get.invariant (rw w.plan.ensures at w.in_ok-add_race.ensures)))
      | else-is_far w ↦
          subst (λ l. AddsPlacementFindings plan c.args.found.now l (AreFarGetsBelow plan get p key places (n + 1))) (sym w.found-is)
          (get_skip plan get p key places c.requires.gets c.args.found.now c.loop-get.found n (n + 1) _ (omega arith) at
          (λ both. true≢false (sym (c.is_far.ensures.1 both) ∙ w.if-is_far.false)) c.loop-get.invariant)
    ]

use Rattle.std.proofs.Common.{◌∙◌, map, length, ap, refl, sym}
use Rattle.std.specs.Prelude.{option_map}
use Rattle.std.proofs.lemmas.Bool.{true≢false}
use Rattle.std.proofs.lemmas.Option.{slice_get-map, slice_get_read}
use Rattle.wire_runs.specs.Plan.{event_of}
use Rattle.wire_scripts.specs.Planned.{plan_of}
use Rattle.wire_fates.proofs.Gets.{sure_found}
use Rattle.wire_fates.proofs.get_deliveries.own_is_before.Goals as goal

pub returns-in-Some : goal.returns-in-Some
returns-in-Some c = λ p key node are t.
    let gets = c.args.gets.now in
    let lookup = c.in-Some.ensures.lookup in
    sure_found (plan_of c.args.marked.now) (event_of c.args.get_now) p key node (map event_of gets) are c.own_place.result (event_of c.in-Some.own.now)
    (slice_get-map event_of gets c.own_place.result ∙ ap (option_map event_of) (slice_get_read gets (length gets) c.own_place.result c.in-Some.own.now refl lookup.3.0 lookup.1))
    (c.before-in-Some.ensures.0 t)

pub returns-in-None : goal.returns-in-None
returns-in-None c = λ p key node are t. absurd (true≢false (sym t))

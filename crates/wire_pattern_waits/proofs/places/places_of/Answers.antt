use Rattle.std.proofs.Common.{◌∙◌, ◌++◌, ap, sym, refl, length, map}
use Rattle.std.proofs.lemmas.Option.{slice_get_read}
use Rattle.wire_pattern.specs.Planned.{steps_in}
use Rattle.wire_pattern.specs.Views.{step_by}
use Rattle.wire_instances.specs.Views.{cast_by}
use Rattle.wire_pattern_waits.specs.Places.{steps_places}
use Rattle.wire_pattern_waits.proofs.Pieces.{role_at, none_at}
use Rattle.wire_pattern_waits.proofs.places.places_of.Goals as goal
use Rattle.wire_pattern_waits.proofs.places.places_of.Goals.{in-Some+in_ok-add_steps, in_default}

pub returns : goal.returns
returns c =
    let caller = c.args.caller.now in
    let cast = cast_by caller.cast.now in
    let roles = c.roles.result.now in
    elim c.match-get.branch [
      | in-Some+in_ok-add_steps w ↦
          let lookup = w.in-Some.ensures.lookup in
          ap (λ v. v.items) w.places-is ∙ w.in_ok-add_steps.ensures
          ∙ ap (λ t. t ++ steps_places cast caller.process 0 1 (map step_by w.as_slice.result.now)) c.new-places.ensures.items
          ∙ ap (λ ss. steps_places cast caller.process 0 1 (map step_by ss)) w.as_slice.ensures.value
          ∙ ap (λ o. steps_places cast caller.process 0 1 (steps_in o)) (sym (role_at caller.pattern.now roles caller.role w.in-Some.role.now c.roles.ensures.roles
          (slice_get_read roles (length roles) caller.role w.in-Some.role.now refl lookup.3.0 lookup.1)))
      | in_default w ↦
          ap (λ v. v.items) w.places-is ∙ c.new-places.ensures.items
          ∙ ap (λ o. steps_places cast caller.process 0 1 (steps_in o))
          (sym (none_at caller.pattern.now roles caller.role c.roles.ensures.roles w.in_default.ensures.lookup.3))
    ]

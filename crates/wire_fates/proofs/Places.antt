-- The events of a list, by their places.
use Rattle.std.proofs.Common.{◌≡◌, ℕ, ◌<◌, List, Some, map, length, ap, ◌∙◌}
use Rattle.std.specs.Prelude.{slice_get, slice_index_or, option_map}
use Rattle.std.proofs.lemmas.Option.{slice_get-map, slice_get-get_or}
use Rattle.wire_runs.specs.Plan.{event_of}
use Rattle.wire_types.specs.declared.place.Event.{Event as CodeEvent}

pub place_at : (run : List CodeEvent) (k : ℕ) (d : CodeEvent) → k < length run → slice_get (map event_of run) k ≡ Some (event_of (slice_index_or run k d))
place_at run k d lt = slice_get-map event_of run k ∙ ap (option_map event_of) (slice_get-get_or run k d lt)

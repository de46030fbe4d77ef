-- When two calls race.
use Rattle.std.specs.Prelude.{◌⊎◌, ℕ}
use Rattle.wire_types.specs.declared.CallAt.{CallAt}
use Rattle.wire_runs.specs.Plan.{Plan, Event}
use Rattle.wire_runs.specs.Ends.{first_event}
use Rattle.wire_runs.specs.Races.{IsNameRace}
use Rattle.wire_runs.specs.Findings.{IsKeyRace}

-- two events race on a key: one of them is what brings it, and the other the get
abbrev pub RaceOnKey : Plan → Event → Event → Type 0
RaceOnKey plan x y = (owner : ℕ) × (key : ℕ) × (IsKeyRace plan x y owner key ⊎ IsKeyRace plan y x owner key)

-- they race on a name: one of them can change it, and the other is a call on it
abbrev pub RaceOnName : Plan → Event → Event → Type 0
RaceOnName plan x y = (name : ℕ) × (IsNameRace plan x y name ⊎ IsNameRace plan y x name)

-- two calls race: their first events do, on a key or on a name. Of a fence that is the arrival; its end races with
-- nothing
abbrev pub AreRacing : Plan → CallAt → CallAt → Type 0
AreRacing plan v w = RaceOnKey plan (first_event plan v) (first_event plan w) ⊎ RaceOnName plan (first_event plan v) (first_event plan w)

-- At which call lines the processes of one instance stand where its plain run can't go on.
use Rattle.std.specs.Prelude.{◌≡◌, ℕ, suc, ◌==◌, ◌&&◌, Bool, true, false, List, [], ◌∷◌, ◌++◌, Some, slice_get, slice_index_or, if◌then◌else◌}
use Rattle.std.specs.List.{list_any}
use Rattle.wire_types.specs.declared.CallEnd.{CallEnd}
use Rattle.wire_types.specs.declared.CallEnd.TheVariants.{Waiting}
use Rattle.wire_scripts.specs.Scripts.{Scripts}
use Rattle.wire_core.specs.EndsAfter.{plain_ends}
use Rattle.wire_pattern.specs.Pattern.{Pattern}
use Rattle.wire_pattern.specs.Planned.{steps_in}
use Rattle.wire_pattern.specs.Instances.{Cast, cast_of}
use Rattle.wire_pattern_waits.specs.declared.stops.Stop.{Stop}
use Rattle.wire_pattern_waits.specs.Places.{steps_places}

-- where the plain run of these scripts can't go on, a process of the role waits at a call that comes from the line of
-- this number of the role's script
pub record StuckAt (p : Pattern) (cast : Cast) (scripts : Scripts) (role line : ℕ) : Type 0 where
  pub process : ℕ
  pub call : ℕ
  pub has_role : slice_get (cast_of cast).roles process ≡ Some role
  pub waits : slice_get (slice_index_or (plain_ends scripts).rows process []) call ≡ Some Waiting
  pub of_line : slice_get (steps_places cast process 0 1 (steps_in (slice_get p.roles role))) call ≡ Some line

-- the rest is for private contracts alone

abbrev pub ends_waiting : CallEnd → Bool
ends_waiting Waiting = true
ends_waiting _ = false

-- the stops of a process, by what became of its calls and by the numbers of their lines
abbrev pub process_stops : ℕ → List CallEnd → List ℕ → List Stop
process_stops role [] places = []
process_stops role (end ∷ ends) [] = []
process_stops role (end ∷ ends) (n ∷ places) =
    (if ends_waiting end then record { role = role; line = n } ∷ [] else []) ++ process_stops role ends places

-- those of these processes, of which the first is v
abbrev pub stops_from : Pattern → Cast → ℕ → List ℕ → List (List CallEnd) → List Stop
stops_from p cast v [] rows = []
stops_from p cast v (role ∷ roles) [] = []
stops_from p cast v (role ∷ roles) (row ∷ rows) =
    process_stops role row (steps_places cast v 0 1 (steps_in (slice_get p.roles role))) ++ stops_from p cast (suc v) roles rows

abbrev pub is_at : ℕ → ℕ → Stop → Bool
is_at role line stop = (stop.role == role) && (stop.line == line)

abbrev pub is_noted : List Stop → ℕ → ℕ → Bool
is_noted stops role line = list_any (is_at role line) stops

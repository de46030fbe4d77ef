-- Which statuses are noted of call lines, and told.
use Rattle.std.specs.Prelude.{◌≡◌, ◌↔◌, ◌⊎◌, ◌<◌, ℕ, suc, ◌==◌, ◌&&◌, not, Bool, true, false, List, [], ◌∷◌, ◌++◌, length, Ok, slice_get}
use Rattle.std.specs.List.{list_any}
use Rattle.wire_types.specs.declared.Call.{Call}
use Rattle.wire_types.specs.declared.Call.TheVariants.{GetNow}
use Rattle.wire_types.specs.declared.CallEnd.{CallEnd}
use Rattle.wire_types.specs.declared.CallEnd.TheVariants.{Replied}
use Rattle.wire_types.specs.declared.Status.{Status}
use Rattle.wire_types.specs.declared.Status.TheVariants.{Success, NotFound, ExistsOutsideScope, DuplicateKey, BadParam}
use Rattle.wire_scripts.specs.Scripts.{Scripts, calls_in}
use Rattle.wire_scripts.specs.Placed.{placed}
use Rattle.wire_reader.specs.declared.Size.TheVariants.{OfVersion}
use Rattle.wire_reader.specs.Reads.{Reads}
use Rattle.wire_pattern.specs.Pattern.{Pattern}
use Rattle.wire_pattern.specs.Planned.{steps_in}
use Rattle.wire_pattern.specs.Instances.{Cast, cast_of, instance_text}
use Rattle.wire_pattern_waits.specs.declared.CallLine.{CallLine}
use Rattle.wire_pattern_waits.specs.LineSets.{has_line}
use Rattle.wire_pattern_waits.specs.Places.{steps_places}
use Rattle.wire_pattern_answers.specs.declared.answers.LineAnswers.{LineAnswers}
use Rattle.wire_pattern_answers.specs.declared.notes.Note.{Note}
use Rattle.wire_pattern_answers.specs.declared.told.StatusesByLine.{StatusesByLine}
use Rattle.wire_pattern_answers.specs.Answers.{IsAnsweredAtLine}
use Rattle.wire_pattern_answers.specs.FewPlacings.{IsOfThree}

-- the number of a status among all
abbrev pub number_of : Status → ℕ
number_of Success = 0
number_of NotFound = 1
number_of ExistsOutsideScope = 2
number_of DuplicateKey = 3
number_of BadParam = 4

abbrev pub is_at : ℕ → ℕ → Status → Note → Bool
is_at role line status note = (note.role == role) && ((note.line == line) && (number_of note.status == number_of status))

abbrev pub is_noted : List Note → ℕ → ℕ → Status → Bool
is_noted notes role line status = list_any (is_at role line status) notes

-- the note of a call of the line with this number, if it is a get-now that is answered
abbrev pub note_for : ℕ → ℕ → CallEnd → Call → List Note
note_for role n (Replied reply) (GetNow owner key) = record { role = role; line = n; status = reply.status } ∷ []
note_for role n _ _ = []

-- those of a process, by what became of its calls, the calls, and the numbers of their lines
abbrev pub process_notes : ℕ → List CallEnd → List Call → List ℕ → List Note
process_notes role [] calls places = []
process_notes role (end ∷ ends) [] places = []
process_notes role (end ∷ ends) (call ∷ calls) [] = []
process_notes role (end ∷ ends) (call ∷ calls) (n ∷ places) = note_for role n end call ++ process_notes role ends calls places

-- those of these processes, of which the first is v
abbrev pub notes_from : Pattern → Cast → Scripts → ℕ → List ℕ → List (List CallEnd) → List Note
notes_from p cast s v [] rows = []
notes_from p cast s v (role ∷ roles) [] = []
notes_from p cast s v (role ∷ roles) (row ∷ rows) =
    process_notes role row (calls_in (slice_get s.processes v)) (steps_places cast v 0 1 (steps_in (slice_get p.roles role)))
    ++ notes_from p cast s (suc v) roles rows

-- exactly these are noted
abbrev pub NotesAre : List Note → (ℕ → ℕ → Status → Type 0) → Type 0
NotesAre notes those = (role line : ℕ) (status : Status) → (is_noted notes role line status ≡ true) ↔ those role line status

-- in the instance of the cast, on its nodes, a get-now of this line is answered with the status
pub record IsAnsweredThere (p : Pattern) (cast : Cast) (role line : ℕ) (status : Status) : Type 0 where
  pub scripts : Scripts
  pub reads : Reads OfVersion (instance_text p cast) (Ok scripts)
  pub answered : IsAnsweredAtLine p cast scripts role line status

-- so it is with these ranks on a node of their own and all others on another
pub record IsAnsweredApart (p : Pattern) (cast : Cast) (ranks : List ℕ) (role line : ℕ) (status : Status) : Type 0 where
  pub scripts : Scripts
  pub reads : Reads OfVersion (instance_text p cast) (Ok scripts)
  pub answered : IsAnsweredAtLine p cast (placed scripts ranks) role line status

-- so it is with one of the first so many
abbrev pub IsAnsweredByOne : Pattern → Cast → ℕ → ℕ → ℕ → Status → Type 0
IsAnsweredByOne p cast count role line status = (rank : ℕ) × (rank < count) × IsAnsweredApart p cast (rank ∷ []) role line status

-- whether one of the three statuses is told of a line; no other one is
abbrev pub is_told : StatusesByLine → ℕ → ℕ → Status → Bool
is_told told role line Success = has_line told.success role line
is_told told role line NotFound = has_line told.not_found role line
is_told told role line ExistsOutsideScope = has_line told.outside role line
is_told told role line _ = false

-- of the three statuses exactly these are told
abbrev pub AreTold : StatusesByLine → (ℕ → ℕ → Status → Type 0) → Type 0
AreTold told those = (role line : ℕ) (status : Status) → IsOfThree status → (is_told told role line status ≡ true) ↔ those role line status

-- those that were told, and these
abbrev pub AreToldToo : StatusesByLine → StatusesByLine → (ℕ → ℕ → Status → Type 0) → Type 0
AreToldToo before after those = AreTold after (λ role line status. (is_told before role line status ≡ true) ⊎ those role line status)

-- whether a note says that a key exists outside its scope, at a line of which success isn't told
abbrev pub is_outside : Status → Bool
is_outside ExistsOutsideScope = true
is_outside _ = false

abbrev pub is_open_note : StatusesByLine → Note → Bool
is_open_note told note = is_outside note.status && not (has_line told.success note.role note.line)

abbrev pub is_open : StatusesByLine → List Note → Bool
is_open told notes = list_any (is_open_note told) notes

-- what was told, and of an instance what is said with all ranks on one node. What exists outside its scope there, and is
-- found with one rank on a node of its own, is told as success
pub record AreToldTogether (p : Pattern) (cast : Cast) (before after : StatusesByLine) : Type 0 where
  pub stays : (role line : ℕ) (status : Status) → IsOfThree status → is_told before role line status ≡ true
      → is_told after role line status ≡ true
  pub together : (role line : ℕ) (status : Status) → IsOfThree status → IsAnsweredApart p cast [] role line status
      → is_told after role line status ≡ true
  pub outside : (role line : ℕ) → IsAnsweredApart p cast [] role line ExistsOutsideScope
      → IsAnsweredByOne p cast (length (cast_of cast).roles) role line Success → is_told after role line Success ≡ true
  pub only : (role line : ℕ) (status : Status) → IsOfThree status → is_told after role line status ≡ true
      → (is_told before role line status ≡ true) ⊎ ((ranks : List ℕ) × IsAnsweredApart p cast ranks role line status)

-- and what is said with its processes on the nodes of the cast
pub record AreToldByFew (p : Pattern) (cast : Cast) (before after : StatusesByLine) : Type 0 where
  pub between : StatusesByLine
  pub there : AreToldToo before between (IsAnsweredThere p cast)
  pub together : AreToldTogether p cast between after

-- what is told of a line
abbrev pub told_of : StatusesByLine → CallLine → LineAnswers
told_of told line = record {
  line = line;
  success = has_line told.success line.role line.number;
  not_found = has_line told.not_found line.role line.number;
  outside = has_line told.outside line.role line.number;
}

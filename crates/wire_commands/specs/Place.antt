-- What `place` writes: the canonical text of what was to come from the reader, with some ranks on one node and all others on another.
use Rattle.std.specs.Prelude.{◌≡◌, ℕ, List, Option, Ok, Err}
use Rattle.wire_types.specs.declared.Fault.{Fault}
use Rattle.wire_types.specs.declared.OutputFormat.TheVariants.{Lines}
use Rattle.wire_runs.specs.Placings.{IsPlacing}
use Rattle.wire_scripts.specs.Scripts.{Scripts}
use Rattle.wire_scripts.specs.Canonical.{canonical}
use Rattle.wire_scripts.specs.Placed.{AreAloneTogether, placed}
use Rattle.wire_scripts.specs.Planned.{plan_of}
use Rattle.wire_reader.specs.declared.Size.{Size}
use Rattle.wire_reader.specs.Ranks.{ranks_read}
use Rattle.wire_command.specs.declared.ended.Ended.{Ended}
use Rattle.wire_command.specs.Answer.{BreaksOff, Writes}
use Rattle.wire_command.specs.Command.{StopsBeforeCommand}

-- the text is that of the scripts with the ranks that the word lists on one node and all others on another, and nothing else changed: their
-- plan is a placing of the plan
pub record IsPlacedText (word : List ℕ) (scripts : Scripts) (text : List ℕ) : Type 0 where
  pub ranks : List ℕ
  pub lists : ranks_read scripts word ≡ Ok ranks
  pub is : text ≡ canonical (placed scripts ranks)
  pub plan : IsPlacing (plan_of scripts) (plan_of (placed scripts ranks))
  pub alone : AreAloneTogether (plan_of (placed scripts ranks)) ranks

-- so it is, however the command ends
abbrev pub TellsMoved : List ℕ → Scripts → List (List ℕ) → List ℕ → Ended → Type 0
TellsMoved word scripts rows text ended = IsPlacedText word scripts text

-- all of the text of what was to come went out
abbrev pub WritesPlaced : Size → (coming : Option (List ℕ)) → List ℕ → (old new : Option (List ℕ)) → Type 0
WritesPlaced size coming word old new = (ended : Ended) × Writes size Lines coming (TellsMoved word) ended old new

-- exactly as many bytes of it went out as the fault says, which aren't all of it
abbrev pub BreaksOffPlaced : Size → (coming : Option (List ℕ)) → List ℕ → (old new : Option (List ℕ)) → Fault → Type 0
BreaksOffPlaced size coming word old new fault = BreaksOff size Lines coming (TellsMoved word) old new fault

-- a rank of the word has this fault
abbrev pub RefusesRanks : List ℕ → Scripts → Fault → Type 0
RefusesRanks word scripts fault = ranks_read scripts word ≡ Err fault

-- why nothing is written: memory ran out, a read failed, the file is refused, or a rank is
abbrev pub StopsBeforePlaced : Size → Option (List ℕ) → List ℕ → Fault → Type 0
StopsBeforePlaced size coming word = StopsBeforeCommand size coming (RefusesRanks word)

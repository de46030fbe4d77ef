-- What a command over one plan writes, and why it writes nothing.
use Rattle.std.specs.Prelude.{◌≡◌, ◌⊎◌, ℕ, List, Option}
use Rattle.std.specs.Io.KnownBytes.{Appends}
use Rattle.wire_types.specs.declared.Fault.{Fault}
use Rattle.wire_types.specs.declared.Fault.TheVariants.{Memory, Read}
use Rattle.wire_types.specs.Front.{WritesFront}
use Rattle.wire_scripts.specs.Scripts.{Scripts}
use Rattle.wire_reader.specs.declared.Size.{Size}
use Rattle.wire_command.specs.declared.ended.Ended.{Ended}
use Rattle.wire_command.specs.Read.{ReadAs, Refuses}

-- all of a text went out that tells this
pub record WritesText (Tells : List ℕ → Type 0) (old new : Option (List ℕ)) : Type 0 where
  pub text : List ℕ
  pub tells : Tells text
  pub wrote : Appends old new text

-- exactly as many bytes of such a text went out as the fault says, which aren't all of it
pub record BreaksOffText (Tells : List ℕ → Type 0) (old new : Option (List ℕ)) (fault : Fault) : Type 0 where
  pub text : List ℕ
  pub tells : Tells text
  pub wrote : WritesFront old new text fault

-- the text tells this, and a command could end somehow
abbrev pub TellsSomehow : (List ℕ → Ended → Type 0) → List ℕ → Type 0
TellsSomehow Tells text = (ended : Ended) × Tells text ended

-- the file reads as scripts, which the command refuses by this fault
pub record RefusedBy (size : Size) (coming : Option (List ℕ)) (Refused : Scripts → Fault → Type 0) (fault : Fault) : Type 0 where
  pub scripts : Scripts
  pub read : ReadAs size coming scripts
  pub refuses : Refused scripts fault

-- why nothing is written: memory ran out, a read failed, the file is refused, or the command refuses what it says
abbrev pub StopsBeforeCommand : Size → Option (List ℕ) → (Refused : Scripts → Fault → Type 0) → Fault → Type 0
StopsBeforeCommand size coming Refused fault = (fault ≡ Memory) ⊎ ((fault ≡ Read) ⊎ (Refuses size coming fault ⊎ RefusedBy size coming Refused fault))

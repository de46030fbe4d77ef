-- What all commands have in common: what is read of a plan, and what is written of it.
use Rattle.std.specs.Prelude.{◌≡◌, ℕ, Bool, true, false, List, [], length, map, Option, Ok}
use Rattle.std.specs.Io.KnownBytes.{Appends}
use Rattle.wire_types.specs.declared.Fault.{Fault}
use Rattle.wire_types.specs.declared.OutputFormat.{OutputFormat}
use Rattle.wire_types.specs.Forms.{has_places}
use Rattle.wire_types.specs.Front.{WritesFront}
use Rattle.wire_types.specs.Texts.{lists_of}
use Rattle.wire_scripts.specs.Scripts.{Scripts, Process}
use Rattle.wire_report.specs.declared.call_places.SourceLines.{SourceLines}
use Rattle.wire_reader.specs.declared.Size.{Size}
use Rattle.wire_reader.specs.Reads.{Reads}
use Rattle.wire_reader.specs.Located.{AreCallLines}
use Rattle.wire_command.specs.declared.ended.Ended.{Ended}
use Rattle.wire_command.specs.Read.{WereComing}

-- the lines of the calls: a row for each process
abbrev pub rows_in : SourceLines → List (List ℕ)
rows_in places = lists_of places.rows.now

-- the calls of the scripts stand on these lines of the text: a row for each process, with a line for each of its calls
pub record ArePlaces (size : Size) (bytes : List ℕ) (scripts : Scripts) (rows : List (List ℕ)) : Type 0 where
  pub lines : AreCallLines size bytes rows
  pub fits : map length rows ≡ map (λ (p : Process). length p.calls) scripts.processes

-- the lines that are read of a text: where places are told those of its calls, else none
abbrev pub AreRows : (places : Bool) → Size → List ℕ → Scripts → List (List ℕ) → Type 0
AreRows false size bytes scripts rows = rows ≡ []
AreRows true size bytes scripts rows = ArePlaces size bytes scripts rows

-- what was to come read as scripts, with the lines of their calls
pub record ReadPlaced (size : Size) (coming : Option (List ℕ)) (scripts : Scripts) (rows : List (List ℕ)) : Type 0 where
  pub bytes : List ℕ
  pub came : WereComing coming bytes
  pub reads : Reads size bytes (Ok scripts)
  pub places : ArePlaces size bytes scripts rows

-- what was to come read as scripts, with the lines that an answer in this form tells
pub record ReadIn (size : Size) (form : OutputFormat) (coming : Option (List ℕ)) (scripts : Scripts) (rows : List (List ℕ)) : Type 0 where
  pub bytes : List ℕ
  pub came : WereComing coming bytes
  pub reads : Reads size bytes (Ok scripts)
  pub rows_are : AreRows (has_places form) size bytes scripts rows

-- all of a text went out that tells this of the scripts and of the lines of their calls, and the command ends so
pub record Writes (size : Size) (form : OutputFormat) (coming : Option (List ℕ)) (Tells : Scripts → List (List ℕ) → List ℕ → Ended → Type 0)
    (ended : Ended) (old new : Option (List ℕ)) : Type 0 where
  pub scripts : Scripts
  pub rows : List (List ℕ)
  pub read : ReadIn size form coming scripts rows
  pub text : List ℕ
  pub tells : Tells scripts rows text ended
  pub wrote : Appends old new text

-- exactly as many bytes of such a text went out as the fault says, which aren't all of it
pub record BreaksOff (size : Size) (form : OutputFormat) (coming : Option (List ℕ)) (Tells : Scripts → List (List ℕ) → List ℕ → Ended → Type 0)
    (old new : Option (List ℕ)) (fault : Fault) : Type 0 where
  pub scripts : Scripts
  pub rows : List (List ℕ)
  pub read : ReadIn size form coming scripts rows
  pub text : List ℕ
  pub ended : Ended
  pub tells : Tells scripts rows text ended
  pub wrote : WritesFront old new text fault

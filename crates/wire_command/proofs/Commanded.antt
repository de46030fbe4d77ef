-- From what the parts of a command answer to what it writes.
use Rattle.std.proofs.Common.{◌≡◌, ◌⊎◌, inl, inr, sym, subst, ℕ, List, Option, Result, Ok, Err, IfOk, IfErr}
use Rattle.std.specs.Io.KnownBytes.{Appends}
use Rattle.wire_types.specs.declared.Fault.{Fault}
use Rattle.wire_types.specs.declared.Fault.TheVariants.{Memory, Read}
use Rattle.wire_types.specs.declared.OutputFormat.{OutputFormat}
use Rattle.wire_types.specs.Front.{WritesFront}
use Rattle.wire_scripts.specs.Scripts.{Scripts}
use Rattle.wire_reader.specs.declared.Size.{Size}
use Rattle.wire_command.specs.declared.ended.Ended.{Ended}
use Rattle.wire_command.specs.Read.{Refuses}
use Rattle.wire_command.specs.Answer.{ReadIn, Writes, BreaksOff}
use Rattle.wire_command.specs.Command.{WritesText, BreaksOffText, StopsBeforeCommand, TellsSomehow}

-- a fault of the file comes before the writing
pub file_stops : {size : Size} (coming : Option (List ℕ)) (Refused : Scripts → Fault → Type 0) (e : Fault) → (e ≡ Memory) ⊎ ((e ≡ Read) ⊎ Refuses size coming e)
    → StopsBeforeCommand size coming Refused e
file_stops coming Refused e (inl memory) = inl memory
file_stops coming Refused e (inr (inl read)) = inr (inl read)
file_stops coming Refused e (inr (inr refuses)) = inr (inr (inl refuses))

-- so does one of what the file says
command_stops : {size : Size} {form : OutputFormat} (coming : Option (List ℕ)) (Refused : Scripts → Fault → Type 0) (s : Scripts) (rows : List (List ℕ)) (e : Fault)
    → ReadIn size form coming s rows → (e ≡ Memory) ⊎ Refused s e → StopsBeforeCommand size coming Refused e
command_stops coming Refused s rows e read (inl memory) = inl memory
command_stops coming Refused s rows e read (inr refuses) =
    inr (inr (inr (record { scripts = s; read = record { bytes = read.bytes; came = read.came; reads = read.reads }; refuses = refuses })))

-- all of the text of what was read goes out
pub writes_read : {size : Size} {form : OutputFormat} (Tells : Scripts → List (List ℕ) → List ℕ → Ended → Type 0) (coming old new : Option (List ℕ)) (s : Scripts)
    (rows : List (List ℕ)) (r : Result Ended Fault) → ReadIn size form coming s rows →
    IfOk r (λ ended. WritesText (λ text. Tells s rows text ended) old new) → IfOk r (λ ended. Writes size form coming Tells ended old new)
writes_read Tells coming old new s rows (Ok ended) read wrote =
    record { scripts = s; rows = rows; read = read; text = wrote.text; tells = wrote.tells; wrote = wrote.wrote }
writes_read Tells coming old new s rows (Err e) read wrote = tt

-- or the front of it that the fault counts
pub breaks_read : {size : Size} {form : OutputFormat} (Tells : Scripts → List (List ℕ) → List ℕ → Ended → Type 0) (Refused : Scripts → Fault → Type 0)
    (coming old new : Option (List ℕ)) (s : Scripts) (rows : List (List ℕ)) (kept failed : Type 0) (r : Result Ended Fault) → ReadIn size form coming s rows →
    IfErr r (λ e. (((e ≡ Memory) ⊎ Refused s e) × kept) ⊎ (BreaksOffText (TellsSomehow (Tells s rows)) old new e × failed)) →
    IfErr r (λ e. (StopsBeforeCommand size coming Refused e × kept) ⊎ (BreaksOff size form coming Tells old new e × failed))
breaks_read Tells Refused coming old new s rows kept failed (Ok ended) read stops = tt
breaks_read Tells Refused coming old new s rows kept failed (Err e) read (inl (stops, none)) = inl (command_stops coming Refused s rows e read stops, none)
breaks_read Tells Refused coming old new s rows kept failed (Err e) read (inr (front, count)) =
    inr (record { scripts = s; rows = rows; read = read; text = front.text; ended = front.tells.0; tells = front.tells.1; wrote = front.wrote }, count)

-- all of the text of an answer goes out
pub writes_answer : (Tells : List ℕ → Ended → Type 0) (old new : Option (List ℕ)) (text : List ℕ) (ended : Ended) (r : Result Ended Fault) → Tells text ended →
    IfOk r (λ e. (e ≡ ended) × Appends old new text) → IfOk r (λ e. WritesText (λ t. Tells t e) old new)
writes_answer Tells old new text ended (Ok e) tells wrote = record { text = text; tells = subst (Tells text) (sym wrote.0) tells; wrote = wrote.1 }
writes_answer Tells old new text ended (Err e) tells wrote = tt

-- or the front of it that the fault counts
pub breaks_answer : (Tells : List ℕ → Ended → Type 0) (Stops : Fault → Type 0) (old new : Option (List ℕ)) (text : List ℕ) (ended : Ended) (failed : Type 0) (r : Result Ended Fault) →
    Tells text ended → IfErr r (WritesFront old new text) → IfErr r (λ _. failed) → IfErr r (λ e. Stops e ⊎ (BreaksOffText (TellsSomehow Tells) old new e × failed))
breaks_answer Tells Stops old new text ended failed (Ok e) tells front count = tt
breaks_answer Tells Stops old new text ended failed (Err e) tells front count =
    inr (record { text = text; tells = (ended, tells); wrote = front }, count)

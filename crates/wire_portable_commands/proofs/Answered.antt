-- From what the parts of a command answer to what it writes.
use Rattle.std.proofs.Common.{◌≡◌, ◌⊎◌, inr, sym, subst, ℕ, List, Option, Result, Ok, Err, IfOk, IfErr}
use Rattle.std.specs.Io.KnownBytes.{Appends}
use Rattle.wire_types.specs.declared.Fault.{Fault}
use Rattle.wire_types.specs.declared.OutputFormat.{OutputFormat}
use Rattle.wire_types.specs.Front.{WritesFront}
use Rattle.wire_scripts.specs.Scripts.{Scripts}
use Rattle.wire_reader.specs.declared.Size.{Size}
use Rattle.wire_command.specs.declared.ended.Ended.{Ended}
use Rattle.wire_command.specs.Answer.{ReadIn, Writes, BreaksOff}

-- all of the text goes out
pub wrote_all : {size : Size} {form : OutputFormat} (Tells : Scripts → List (List ℕ) → List ℕ → Ended → Type 0) (coming old new : Option (List ℕ)) (s : Scripts) (rows : List (List ℕ)) (text : List ℕ) (ended : Ended)
    (r : Result Ended Fault) → ReadIn size form coming s rows → Tells s rows text ended → IfOk r (λ e. (e ≡ ended) × Appends old new text) → IfOk r (λ e. Writes size form coming Tells e old new)
wrote_all Tells coming old new s rows text ended (Ok e) read tells wrote =
    record { scripts = s; rows = rows; read = read; text = text; tells = subst (Tells s rows text) (sym wrote.0) tells; wrote = wrote.1 }
wrote_all Tells coming old new s rows text ended (Err e) read tells wrote = tt

-- or the front of it that the fault counts
pub wrote_front : {size : Size} {form : OutputFormat} (Tells : Scripts → List (List ℕ) → List ℕ → Ended → Type 0) (Stops : Fault → Type 0)
    (coming old new : Option (List ℕ)) (s : Scripts) (rows : List (List ℕ)) (text : List ℕ) (ended : Ended)
    (kept failed : Type 0) (r : Result Ended Fault) → ReadIn size form coming s rows → Tells s rows text ended → IfErr r (WritesFront old new text) → IfErr r (λ _. failed) →
    IfErr r (λ e. (Stops e × kept) ⊎ (BreaksOff size form coming Tells old new e × failed))
wrote_front Tells Stops coming old new s rows text ended kept failed (Ok e) read tells front count = tt
wrote_front Tells Stops coming old new s rows text ended kept failed (Err e) read tells front count =
    inr (record { scripts = s; rows = rows; read = read; text = text; ended = ended; tells = tells; wrote = front }, count)

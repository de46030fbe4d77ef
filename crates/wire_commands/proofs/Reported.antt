-- From what a command over a plan answers to what the plain run does.
use Rattle.std.proofs.Common.{◌≡◌, ◌≢◌, ◌∙◌, ap, subst, sym, ℕ, ◌<◌, List, length, take, ◌⊎◌, inl, inr, Option, Result, Ok, Err}
use Rattle.std.specs.Io.KnownBytes.{Appends}
use Rattle.wire_types.specs.declared.Fault.{Fault}
use Rattle.wire_types.specs.declared.Fault.TheVariants.{Memory, Read, Write}
use Rattle.wire_types.specs.declared.OutputFormat.TheVariants.{Lines}
use Rattle.wire_types.specs.Front.{WritesFront}
use Rattle.wire_scripts.specs.Scripts.{Scripts}
use Rattle.wire_reader.specs.declared.Size.{Size}
use Rattle.wire_command.specs.declared.ended.Ended.{Ended}
use Rattle.wire_command.specs.Read.{ReadAs, Refuses}
use Rattle.wire_command.specs.Answer.{BreaksOff, ReadIn, Writes}
use Rattle.wire_command.specs.Command.{StopsBeforeCommand}
use Rattle.wire_command.proofs.FileFaults.{not_write}
use Rattle.wire_commands.specs.Plain.{plain_report, TellsPlain, WritesReport, BreaksOffReport}

read_so : {size : Size} (coming : Option (List ℕ)) (s : Scripts) (rows : List (List ℕ)) → ReadIn size Lines coming s rows → ReadAs size coming s
read_so coming s rows read = record { bytes = read.bytes; came = read.came; reads = read.reads }

-- all of the report went out
pub writes_report : (size : Size) (coming old new : Option (List ℕ)) (ended : Ended) → Writes size Lines coming TellsPlain ended old new → WritesReport size coming old new
writes_report size coming old new ended told =
    record { scripts = told.scripts; read = read_so coming told.scripts told.rows told.read; wrote = subst (λ t. Appends old new t) told.tells told.wrote }

-- what a fault leaves of it
abbrev pub Leaves : Size → (coming old new : Option (List ℕ)) → (kept failed : Type 0) → Fault → Type 0
Leaves size coming old new kept failed e =
    (StopsBeforeCommand size coming (λ _ _. ⊥) e × kept) ⊎ (BreaksOff size Lines coming TellsPlain old new e × failed)

-- a fault of neither memory nor a read nor the writing is the file's
pub only_refused : (size : Size) (coming old new : Option (List ℕ)) (kept failed : Type 0) (e : Fault) → Leaves size coming old new kept failed e →
    e ≢ Memory → e ≢ Read → ((n : ℕ) → e ≢ Write n) → Refuses size coming e
only_refused size coming old new kept failed e (inl (inl is, none)) memory read write = absurd (memory is)
only_refused size coming old new kept failed e (inl (inr (inl is), none)) memory read write = absurd (read is)
only_refused size coming old new kept failed e (inl (inr (inr (inl refuses)), none)) memory read write = refuses
only_refused size coming old new kept failed e (inl (inr (inr (inr by)), none)) memory read write = absurd by.refuses
only_refused size coming old new kept failed e (inr (front, count)) memory read write = absurd (write front.wrote.0 front.wrote.1)

-- one before the writing is none of writing
before_writing : (size : Size) (coming : Option (List ℕ)) (e : Fault) (n : ℕ) → StopsBeforeCommand size coming (λ _ _. ⊥) e → e ≢ Write n
before_writing size coming e n (inl memory) is = let bad : Memory ≡ Write n = sym memory ∙ is in cc
before_writing size coming e n (inr (inl read)) is = let bad : Read ≡ Write n = sym read ∙ is in cc
before_writing size coming e n (inr (inr (inl refuses))) is = not_write size refuses.bytes e n refuses.reads is
before_writing size coming e n (inr (inr (inr by))) is = by.refuses

-- one of writing counts what went out
front_of : (old new : Option (List ℕ)) (text report : List ℕ) (e : Fault) (n : ℕ) → text ≡ report → WritesFront old new text e → e ≡ Write n →
    Appends old new (take n report) × (n < length report)
front_of old new text report e n tells (m, carries, (short, front)) is =
    let same : m ≡ n = cc in (
      subst (λ t. Appends old new (take n t)) tells (subst (λ k. Appends old new (take k text)) same front),
      subst (λ t. n < length t) tells (subst (λ k. k < length text) same short),
    )

pub breaks_report : (size : Size) (coming old new : Option (List ℕ)) (kept failed : Type 0) (e : Fault) (n : ℕ) → Leaves size coming old new kept failed e → e ≡ Write n →
    BreaksOffReport size coming old new n
breaks_report size coming old new kept failed e n (inl (stops, none)) is = absurd (before_writing size coming e n stops is)
breaks_report size coming old new kept failed e n (inr (front, count)) is =
    let out = front_of old new front.text (plain_report front.scripts) e n front.tells front.wrote is in
    record { scripts = front.scripts; read = read_so coming front.scripts front.rows front.read; wrote = out.0; short = out.1 }

pub write_counted : (size : Size) (coming old new : Option (List ℕ)) (kept failed : Type 0) (e : Fault) (n : ℕ) → Leaves size coming old new kept failed e → e ≡ Write n → failed
write_counted size coming old new kept failed e n (inl (stops, none)) is = absurd (before_writing size coming e n stops is)
write_counted size coming old new kept failed e n (inr (front, count)) is = count

-- a fault that isn't of writing comes before it
pub untouched : {A : Type 0} (size : Size) (coming old new : Option (List ℕ)) (kept failed : Type 0) (e : Fault) (r : Result A Fault) → r ≡ Err e →
    Leaves size coming old new kept failed e → ((n : ℕ) → r ≢ Err (Write n)) → kept
untouched size coming old new kept failed e r is (inl (stops, none)) other = none
untouched size coming old new kept failed e r is (inr (front, count)) other = absurd (other front.wrote.0 (is ∙ ap Err front.wrote.1))

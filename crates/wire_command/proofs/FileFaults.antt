-- The faults of a file are those of its lines: no text reads as a fault of memory, of reading or of writing.
use Rattle.std.proofs.Common.{◌≡◌, ◌≢◌, ◌∙◌, ◌⊎◌, sym, subst, refl, ℕ, List, [], ◌∷◌, length, Bool, true, false, not, Option, Some, None, Result, Ok, Err, IfErr, inl, inr, if◌then◌else◌}
use Rattle.wire_types.specs.declared.Fault.{Fault}
use Rattle.wire_types.specs.declared.Fault.TheVariants.{Memory, Read, Write, TooLong, BadHeader, BadLine, UnknownName, Twice, NotMember, TooMany}
use Rattle.wire_lines.specs.Said as said
use Rattle.wire_lines.specs.Text.{lines_of}
use Rattle.wire_scripts.specs.Scripts.{Scripts}
use Rattle.wire_reader.specs.declared.Size.{Size}
use Rattle.wire_reader.specs.Statements.{Statement, statements}
use Rattle.wire_reader.specs.FirstPass.{Started, Declared, is_in_place, is_short, is_known, is_again, has_room, after, judged, Judges, JudgesAll, FirstPass, nothing}
use Rattle.wire_reader.specs.Reads.{Reads, ReadsShort, is_declared_call, is_with_caller, call_fault, fault_in, first_fault, first_of, unless_fault}

-- a fault of a line, or of the length of the file
abbrev is_of_file : Fault → Bool
is_of_file (TooLong line) = true
is_of_file (BadHeader line) = true
is_of_file (BadLine line) = true
is_of_file (UnknownName line) = true
is_of_file (Twice line) = true
is_of_file (NotMember line) = true
is_of_file (TooMany line) = true
is_of_file _ = false

abbrev IsOfFile : {A : Type 0} → Result A Fault → Type 0
IsOfFile r = IfErr r (λ f. is_of_file f ≡ true)

five_tests : (a b c e f : Bool) (n : ℕ) (d : Declared) →
    IsOfFile (if a then Err (BadLine n) else if b then Err (TooLong n) else if c then Err (UnknownName n) else if e then Err (Twice n) else if f then Err (TooMany n) else Ok d)
five_tests true b c e f n d = refl
five_tests false true c e f n d = refl
five_tests false false true e f n d = refl
five_tests false false false true f n d = refl
five_tests false false false false true n d = refl
five_tests false false false false false n d = tt

judged_of_file : (d : Declared) (n : ℕ) (s : said.Said) → IsOfFile (judged d n s)
judged_of_file d n s =
    five_tests (not (is_in_place d s)) (not (is_short s)) (not (is_known d s)) (is_again d s) (not (has_room d s)) n (after d n s)

judges_of_file : (d : Declared) (line : Statement) (r : Result Declared Fault) → Judges d line r → IsOfFile r
judges_of_file d line r (inl (none, is)) = subst IsOfFile (sym is) refl
judges_of_file d line r (inr (s, says, is)) = subst IsOfFile (sym is) (judged_of_file d line.0 s)

all_of_file : (d : Declared) (lines : List Statement) (r : Result Declared Fault) → JudgesAll d lines r → IsOfFile r
all_of_file d [] r is = subst IsOfFile (sym is) tt
all_of_file d (line ∷ lines) r (Ok e, judges, rest) = all_of_file e lines r rest
all_of_file d (line ∷ lines) r (Err f, judges, is) = subst IsOfFile (sym is) (judges_of_file d line (Err f) judges)

first_of_file : (size : Size) (lines : List Statement) (n : ℕ) (r : Result Declared Fault) → FirstPass size lines n r → IsOfFile r
first_of_file size [] n r is = subst IsOfFile (sym is) refl
first_of_file size (line ∷ lines) n r (inl (version, header, rest)) = all_of_file (nothing size version) lines r rest
first_of_file size (line ∷ lines) n r (inr (other, is)) = subst IsOfFile (sym is) refl

abbrev IsFaultOfFile : Option Fault → Type 0
IsFaultOfFile None = Unit {0}
IsFaultOfFile (Some f) = is_of_file f ≡ true

both_of_file : (e f : Option Fault) → IsFaultOfFile e → IsFaultOfFile f → IsFaultOfFile (first_of e f)
both_of_file None f p q = q
both_of_file (Some e) f p q = p

two_tests : (a b : Bool) (n : ℕ) → IsFaultOfFile (if a then Some (UnknownName n) else if b then Some (NotMember n) else None)
two_tests true b n = refl
two_tests false true n = refl
two_tests false false n = tt

call_of_file : (d : Declared) (p : Started) (n : ℕ) (call : said.Call) → IsFaultOfFile (call_fault d p n call)
call_of_file d p n call = two_tests (not (is_declared_call d call)) (not (is_with_caller d p call)) n

calls_of_file : (d : Declared) (p : Started) (calls : List (ℕ × said.Call)) → IsFaultOfFile (fault_in d p calls)
calls_of_file d p [] = tt
calls_of_file d p (c ∷ cs) = both_of_file (call_fault d p c.0 c.1) (fault_in d p cs) (call_of_file d p c.0 c.1) (calls_of_file d p cs)

processes_of_file : (d : Declared) (processes : List Started) → IsFaultOfFile (first_fault d processes)
processes_of_file d [] = tt
processes_of_file d (p ∷ ps) = both_of_file (fault_in d p p.calls) (first_fault d ps) (calls_of_file d p p.calls) (processes_of_file d ps)

second_of_file : (d : Declared) (o : Option Fault) → IsFaultOfFile o → IsOfFile (unless_fault d o)
second_of_file d None p = tt
second_of_file d (Some f) p = p

short_of_file : (size : Size) (bytes : List ℕ) (r : Result Scripts Fault) → ReadsShort size bytes r → IsOfFile r
short_of_file size bytes r (Ok d, first, is) = subst IsOfFile (sym is) (second_of_file d (first_fault d d.processes) (processes_of_file d d.processes))
short_of_file size bytes r (Err f, first, is) = subst IsOfFile (sym is) (first_of_file size (statements bytes) (length (lines_of bytes)) (Err f) first)

-- the fault of a text is one of a file
pub reads_of_file : (size : Size) (bytes : List ℕ) (r : Result Scripts Fault) → Reads size bytes r → IsOfFile r
reads_of_file size bytes r (inl (past, is)) = subst IsOfFile (sym is) refl
reads_of_file size bytes r (inr (within, reads)) = short_of_file size bytes r reads

-- a fault of memory or of a text is none of reading
pub not_read : (size : Size) (bytes : List ℕ) (e : Fault) → (e ≡ Memory) ⊎ Reads size bytes (Err e) → e ≢ Read
not_read size bytes e (inl memory) is = let bad : Memory ≡ Read = sym memory ∙ is in cc
not_read size bytes e (inr reads) is =
    let bad : is_of_file Read ≡ true = subst (λ f. is_of_file f ≡ true) is (reads_of_file size bytes (Err e) reads) in cc

-- nor of writing
pub not_write : (size : Size) (bytes : List ℕ) (e : Fault) (n : ℕ) → Reads size bytes (Err e) → e ≢ Write n
not_write size bytes e n reads is =
    let bad : is_of_file (Write n) ≡ true = subst (λ f. is_of_file f ≡ true) is (reads_of_file size bytes (Err e) reads) in cc

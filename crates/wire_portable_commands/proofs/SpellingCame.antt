-- What came from a reader that was asked for one byte more than a file may have, read with how its fences spell their sets.
use Rattle.std.proofs.Common.{◌≡◌, ◌∙◌, sym, subst, refl, Bool, true, false, ℕ, ◌+◌, List, take, inl, inr, arith, ◌⊎◌, Option, Some, None, Ok, Err, IfSome}
use Rattle.std.proofs.lemmas.List.{length-take, take_all}
use Rattle.wire_scripts.specs.Scripts.{Scripts}
use Rattle.wire_types.specs.declared.Fault.{Fault}
use Rattle.wire_types.specs.declared.Fault.TheVariants.{Memory, Read}
use Rattle.wire_types.specs.declared.OutputFormat.{OutputFormat}
use Rattle.wire_types.specs.Forms.{has_places}
use Rattle.wire_reader.specs.declared.Size.{Size}
use Rattle.wire_reader.specs.Limits.{file_bytes}
use Rattle.wire_reader.specs.Reads.{Reads}
use Rattle.wire_spelling.specs.declared.spelling.Spelt.{Spelt}
use Rattle.wire_spelling.specs.Spelling.{AreSetsNumbered, spelled_sets}
use Rattle.wire_command.specs.Answer.{AreRows, ReadIn}
use Rattle.wire_command.specs.Read.{Refuses}
use Rattle.wire_command.proofs.Came.{refuses}
use Rattle.wire_command.proofs.Fits.{rows_fit}
use Rattle.wire_portable_commands.specs.CheckPortable.{IsSpelled}
use Rattle.wire_portable_commands.specs.Read.{AreLinesIn}

-- what reads as scripts is within the limit, so it is all that was to come
all_came : (size : Size) (whole : List ℕ) (s : Scripts) → Reads size (take (file_bytes size + 1) whole) (Ok s) → take (file_bytes size + 1) whole ≡ whole
all_came size whole s (inl (past, is)) = absurd (cc)
all_came size whole s (inr (within, reads)) = take_all (file_bytes size + 1) whole (omega (arith, within, length-take (file_bytes size + 1) whole))

whole_came : (size : Size) (whole bytes shown : List ℕ) (s : Scripts) → shown ≡ bytes → bytes ≡ take (file_bytes size + 1) whole → Reads size shown (Ok s) → shown ≡ whole
whole_came size whole bytes shown s same front reads =
    let cut : shown ≡ take (file_bytes size + 1) whole = same ∙ front in
    cut ∙ all_came size whole s (subst (λ t. Reads size t (Ok s)) cut reads)

rows_there : (places : Bool) (size : Size) (bytes : List ℕ) (s : Scripts) (rows : List (List ℕ)) → Reads size bytes (Ok s) → AreLinesIn places size bytes rows → AreRows places size bytes s rows
rows_there true size bytes s rows reads lines = record { lines = lines; fits = rows_fit bytes s rows reads lines }
rows_there false size bytes s rows reads lines = lines

pub read_came : {size : Size} (form : OutputFormat) (coming : Option (List ℕ)) (bytes shown : List ℕ) (s : Scripts) (rows : List (List ℕ)) → shown ≡ bytes →
    IfSome coming (λ whole. bytes ≡ take (file_bytes size + 1) whole) → Reads size shown (Ok s) → AreLinesIn (has_places form) size shown rows → ReadIn size form coming s rows
read_came {size} form None bytes shown s rows same front reads lines =
    record { bytes = shown; came = tt; reads = reads; rows_are = rows_there (has_places form) size shown s rows reads lines }
read_came {size} form (Some whole) bytes shown s rows same front reads lines =
    let is : shown ≡ whole = whole_came size whole bytes shown s same front reads in
    record {
      bytes = whole;
      came = refl;
      reads = subst (λ t. Reads size t (Ok s)) is reads;
      rows_are = rows_there (has_places form) size whole s rows (subst (λ t. Reads size t (Ok s)) is reads) (subst (λ t. AreLinesIn (has_places form) size t rows) is lines);
    }

pub spelling_came : {size : Size} (coming : Option (List ℕ)) (bytes shown told : List ℕ) (s : Scripts) (spelling : List (List (Option Spelt))) → shown ≡ bytes → told ≡ bytes →
    IfSome coming (λ whole. bytes ≡ take (file_bytes size + 1) whole) → Reads size shown (Ok s) → AreSetsNumbered (spelled_sets told) spelling → IsSpelled size coming s spelling
spelling_came {size} None bytes shown told s spelling same also front reads numbered =
    record { read = record { bytes = shown; came = tt; reads = reads }; numbered = subst (λ t. AreSetsNumbered (spelled_sets t) spelling) (also ∙ sym same) numbered }
spelling_came {size} (Some whole) bytes shown told s spelling same also front reads numbered =
    let is : shown ≡ whole = whole_came size whole bytes shown s same front reads in
    record {
      read = record { bytes = whole; came = refl; reads = subst (λ t. Reads size t (Ok s)) is reads };
      numbered = subst (λ t. AreSetsNumbered (spelled_sets t) spelling) (also ∙ sym same ∙ is) numbered;
    }

-- what is refused of the front is refused of all of it
pub fault_came : {size : Size} (coming : Option (List ℕ)) (bytes shown : List ℕ) (e : Fault) → shown ≡ bytes → IfSome coming (λ whole. bytes ≡ take (file_bytes size + 1) whole) →
    (e ≡ Memory) ⊎ Reads size shown (Err e) → (e ≡ Memory) ⊎ ((e ≡ Read) ⊎ Refuses size coming e)
fault_came coming bytes shown e same front (inl memory) = inl memory
fault_came coming bytes shown e same front (inr reads) = inr (inr (refuses coming bytes shown e same front reads))

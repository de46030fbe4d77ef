-- What came from a reader that was asked for one byte more than a file may have, read with the lines of its calls.
use Rattle.std.proofs.Common.{◌≡◌, ◌∙◌, sym, subst, refl, Bool, true, false, [], ℕ, ◌+◌, List, take, inl, inr, arith, Option, Some, None, Result, Ok, Err, IfSome, IfOk}
use Rattle.std.proofs.lemmas.List.{length-take, take_all}
use Rattle.wire_types.specs.declared.Fault.{Fault}
use Rattle.wire_scripts.specs.Scripts.{Scripts}
use Rattle.wire_reader.specs.declared.Size.{Size}
use Rattle.wire_reader.specs.Limits.{file_bytes}
use Rattle.wire_reader.specs.Reads.{Reads}
use Rattle.wire_reader.specs.Located.{AreCallLines}
use Rattle.wire_types.specs.declared.OutputFormat.{OutputFormat}
use Rattle.wire_types.specs.Forms.{has_places}
use Rattle.wire_command.specs.Answer.{ArePlaces, AreRows, ReadIn, ReadPlaced}
use Rattle.wire_command.specs.Read.{ReadAs}
use Rattle.wire_command.proofs.Fits.{rows_fit}

-- what reads as scripts is within the limit, so it is all that was to come
all_came : (size : Size) (all : List ℕ) (s : Scripts) → Reads size (take (file_bytes size + 1) all) (Ok s) → take (file_bytes size + 1) all ≡ all
all_came size all s (inl (past, is)) = absurd (cc)
all_came size all s (inr (within, reads)) = take_all (file_bytes size + 1) all (omega (arith, within, length-take (file_bytes size + 1) all))

pub read_placed : {size : Size} (coming : Option (List ℕ)) (bytes shown : List ℕ) (s : Scripts) (rows : List (List ℕ)) → shown ≡ bytes → IfSome coming (λ all. bytes ≡ take (file_bytes size + 1) all) →
    Reads size shown (Ok s) → AreCallLines size shown rows → ReadPlaced size coming s rows
read_placed None bytes shown s rows same front reads lines = record { bytes = shown; came = tt; reads = reads; places = record { lines = lines; fits = rows_fit shown s rows reads lines } }
read_placed {size} (Some all) bytes shown s rows same front reads lines =
    let cut : shown ≡ take (file_bytes size + 1) all = same ∙ front in
    let whole : shown ≡ all = cut ∙ all_came size all s (subst (λ t. Reads size t (Ok s)) cut reads) in
    record {
      bytes = all;
      came = refl;
      reads = subst (λ t. Reads size t (Ok s)) whole reads;
      places = record { lines = subst (λ t. AreCallLines size t rows) whole lines; fits = rows_fit shown s rows reads lines };
    }

-- what the reading of all of them answers
pub placed_ok : {A : Type 0} (size : Size) (coming : Option (List ℕ)) (bytes shown : List ℕ) (rows : A → List (List ℕ)) (r : Result (Scripts × A) Fault) → shown ≡ bytes →
    IfSome coming (λ all. bytes ≡ take (file_bytes size + 1) all) → IfOk r (λ x. Reads size shown (Ok x.0)) →
    IfOk r (λ x. AreCallLines size shown (rows x.1)) → IfOk r (λ x. ReadPlaced size coming x.0 (rows x.1))
placed_ok size coming bytes shown rows (Ok x) same front reads lines = read_placed coming bytes shown x.0 (rows x.1) same front reads lines
placed_ok size coming bytes shown rows (Err e) same front reads lines = tt

-- what is read in a form with places
pub placed_in : {size : Size} (form : OutputFormat) (coming : Option (List ℕ)) (s : Scripts) (rows : List (List ℕ)) → true ≡ has_places form → ReadPlaced size coming s rows → ReadIn size form coming s rows
placed_in {size} form coming s rows with read =
    record { bytes = read.bytes; came = read.came; reads = read.reads; rows_are = subst (λ b. AreRows b size read.bytes s rows) with read.places }

pub reads_placed : {A : Type 0} (size : Size) (form : OutputFormat) (coming : Option (List ℕ)) (rows : A → List (List ℕ)) (places : Bool) (r : Result (Scripts × A) Fault) →
    places ≡ has_places form → places ≡ true → IfOk r (λ x. ReadPlaced size coming x.0 (rows x.1)) → IfOk r (λ x. ReadIn size form coming x.0 (rows x.1))
reads_placed size form coming rows places (Ok x) is_places with read = placed_in form coming x.0 (rows x.1) (sym with ∙ is_places) read
reads_placed size form coming rows places (Err e) is_places with read = tt

-- and in one without
pub reads_alone : (size : Size) (form : OutputFormat) (coming : Option (List ℕ)) (s : Scripts) (rows : List (List ℕ)) (places : Bool) → places ≡ has_places form → places ≡ false →
    rows ≡ [] → ReadAs size coming s → ReadIn size form coming s rows
reads_alone size form coming s rows places is_places none empty read =
    let without : false ≡ has_places form = sym none ∙ is_places in
    record { bytes = read.bytes; came = read.came; reads = read.reads; rows_are = subst (λ b. AreRows b size read.bytes s rows) without empty }

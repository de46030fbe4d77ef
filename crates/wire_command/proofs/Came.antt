-- What came from a reader that was asked for one byte more than a file may have.
use Rattle.std.proofs.Common.{◌+◌, ◌≡◌, ◌∙◌, subst, refl, ℕ, List, take, Option, Some, None, Result, Ok, Err, IfSome, IfOk, IfErr, ◌⊎◌, inl, inr}
use Rattle.wire_types.specs.declared.Fault.{Fault}
use Rattle.wire_types.specs.declared.Fault.TheVariants.{Memory, Read}
use Rattle.wire_scripts.specs.Scripts.{Scripts}
use Rattle.wire_reader.specs.declared.Size.{Size}
use Rattle.wire_reader.specs.Limits.{file_bytes}
use Rattle.wire_reader.specs.Reads.{Reads}
use Rattle.wire_command.specs.Read.{ReadAs, Refuses}
use Rattle.wire_reader.proofs.Limited.{reads_limited}
use Rattle.wire_command.proofs.FileFaults.{not_read}

-- what they read as, all that was to come reads as
pub read_as : {size : Size} (coming : Option (List ℕ)) (bytes shown : List ℕ) (s : Scripts) → shown ≡ bytes →
    IfSome coming (λ all. bytes ≡ take (file_bytes size + 1) all) → Reads size shown (Ok s) → ReadAs size coming s
read_as None bytes shown s same front reads = record { bytes = shown; came = tt; reads = reads }
read_as {size} (Some all) bytes shown s same front reads =
    record { bytes = all; came = refl; reads = reads_limited size all (Ok s) (subst (λ t. Reads size t (Ok s)) (same ∙ front) reads) }

-- and so for a fault
pub refuses : {size : Size} (coming : Option (List ℕ)) (bytes shown : List ℕ) (e : Fault) → shown ≡ bytes →
    IfSome coming (λ all. bytes ≡ take (file_bytes size + 1) all) → Reads size shown (Err e) → Refuses size coming e
refuses None bytes shown e same front reads = record { bytes = shown; came = tt; reads = reads }
refuses {size} (Some all) bytes shown e same front reads =
    record { bytes = all; came = refl; reads = reads_limited size all (Err e) (subst (λ t. Reads size t (Err e)) (same ∙ front) reads) }

-- what the reading of all of them answers
pub scripts_ok : (size : Size) (coming : Option (List ℕ)) (bytes shown : List ℕ) (r : Result Scripts Fault) → shown ≡ bytes →
    IfSome coming (λ all. bytes ≡ take (file_bytes size + 1) all) → IfOk r (λ s. Reads size shown (Ok s)) →
    IfOk r (λ s. ReadAs size coming s)
scripts_ok size coming bytes shown (Ok s) same front reads = read_as coming bytes shown s same front reads
scripts_ok size coming bytes shown (Err e) same front reads = tt

scripts_fault : {size : Size} (coming : Option (List ℕ)) (bytes shown : List ℕ) (e : Fault) → shown ≡ bytes →
    IfSome coming (λ all. bytes ≡ take (file_bytes size + 1) all) → (e ≡ Memory) ⊎ Reads size shown (Err e) → (e ≡ Memory)
    ⊎ ((e ≡ Read) ⊎ Refuses size coming e)
scripts_fault coming bytes shown e same front (inl memory) = inl memory
scripts_fault coming bytes shown e same front (inr reads) = inr (inr (refuses coming bytes shown e same front reads))

pub scripts_err : {A : Type 0} (size : Size) (coming : Option (List ℕ)) (bytes shown : List ℕ) (r : Result A Fault) → shown ≡ bytes → IfSome coming (λ all. bytes ≡ take (file_bytes size + 1) all) →
    IfErr r (λ e. (e ≡ Memory) ⊎ Reads size shown (Err e)) → IfErr r (λ e. (e ≡ Memory) ⊎ ((e ≡ Read) ⊎ Refuses size coming e))
scripts_err size coming bytes shown (Ok s) same front reads = tt
scripts_err size coming bytes shown (Err e) same front reads = scripts_fault coming bytes shown e same front reads

-- a fault of a file is no failed read
pub no_read_of_file : {A : Type 0} (size : Size) (bytes : List ℕ) (r : Result A Fault) → IfErr r (λ e. (e ≡ Memory) ⊎ Reads size bytes (Err e)) → r ≡ Err Read → ⊥
no_read_of_file size bytes (Ok s) told is = let bad : Ok s ≡ Err Read = is in cc
no_read_of_file size bytes (Err e) told is = let same : e ≡ Read = cc in not_read size bytes e told same

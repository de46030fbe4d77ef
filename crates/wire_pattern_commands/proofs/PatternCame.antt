-- What came from a reader that was asked for one byte more than a pattern's file may have.
use Rattle.std.proofs.Common.{◌+◌, ◌≡◌, ◌∙◌, ◌<◌, ◌≤◌, ◌==◌, ap, subst, refl, ℕ, List, take, length, count_by, Option, Some, None, Result, Ok, Err, IfSome, IfOk, IfErr, ◌⊎◌, inl, inr, arith}
use Rattle.std.proofs.lemmas.List.{length-take, take-take, take_all}
use Rattle.wire_types.specs.declared.Fault.{Fault}
use Rattle.wire_types.specs.declared.Fault.TheVariants.{Memory, Read, TooLong}
use Rattle.wire_pattern.specs.Pattern.{Pattern}
use Rattle.wire_pattern_script.specs.Reads.{ReadsPattern, ReadsShort, most_bytes}
use Rattle.wire_pattern_commands.specs.Read.{HasNoPattern, ReadAsPattern, RefusesPattern}
use Rattle.wire_pattern_commands.proofs.PatternFaults.{not_read}

-- the text reads as this, with any limit of the file
abbrev ReadsWithin : ℕ → List ℕ → Result Pattern Fault → Type 0
ReadsWithin limit bytes r =
    ((limit < length bytes) × (r ≡ Err (TooLong (count_by (λ b. b == 10) (take limit bytes) + 1))))
    ⊎ ((length bytes ≤ limit) × ReadsShort bytes r)

-- one byte past the limit tells as much as all
limited : (limit : ℕ) (bytes : List ℕ) (r : Result Pattern Fault) → ReadsWithin limit (take (limit + 1) bytes) r → ReadsWithin limit bytes r
limited limit bytes r (inl (past, is)) =
    let same = take-take limit (limit + 1) bytes (omega arith) in
    inl (omega (arith, past, length-take (limit + 1) bytes), is ∙ ap (λ t. Err (TooLong (count_by (λ b. b == 10) t + 1))) same)
limited limit bytes r (inr (within, reads)) =
    let all : length bytes ≤ limit = omega (arith, within, length-take (limit + 1) bytes) in
    inr (all, subst (λ t. ReadsShort t r) (take_all (limit + 1) bytes (omega (arith, all))) reads)

reads_limited : (bytes : List ℕ) (r : Result Pattern Fault) → ReadsPattern (take (most_bytes + 1) bytes) r → ReadsPattern bytes r
reads_limited bytes r h = limited most_bytes bytes r h

-- what they read as, all that was to come reads as
read_as : (coming : Option (List ℕ)) (bytes shown : List ℕ) (p : Pattern) → shown ≡ bytes → IfSome coming (λ all. bytes ≡ take (most_bytes + 1) all)
    → ReadsPattern shown (Ok p) → ReadAsPattern coming p
read_as None bytes shown p same front reads = record { bytes = shown; came = tt; reads = reads }
read_as (Some all) bytes shown p same front reads =
    record { bytes = all; came = refl; reads = reads_limited all (Ok p) (subst (λ t. ReadsPattern t (Ok p)) (same ∙ front) reads) }

refuses : (coming : Option (List ℕ)) (bytes shown : List ℕ) (e : Fault) → shown ≡ bytes → IfSome coming (λ all. bytes ≡ take (most_bytes + 1) all)
    → ReadsPattern shown (Err e) → RefusesPattern coming e
refuses None bytes shown e same front reads = record { bytes = shown; came = tt; reads = reads }
refuses (Some all) bytes shown e same front reads =
    record { bytes = all; came = refl; reads = reads_limited all (Err e) (subst (λ t. ReadsPattern t (Err e)) (same ∙ front) reads) }

pub pattern_ok : (coming : Option (List ℕ)) (bytes shown : List ℕ) (r : Result Pattern Fault) → shown ≡ bytes → IfSome coming (λ all. bytes ≡ take (most_bytes + 1) all)
    → IfOk r (λ p. ReadsPattern shown (Ok p)) → IfOk r (λ p. ReadAsPattern coming p)
pattern_ok coming bytes shown (Ok p) same front reads = read_as coming bytes shown p same front reads
pattern_ok coming bytes shown (Err e) same front reads = tt

no_pattern : (coming : Option (List ℕ)) (bytes shown : List ℕ) (e : Fault) → shown ≡ bytes → IfSome coming (λ all. bytes ≡ take (most_bytes + 1) all)
    → (e ≡ Memory) ⊎ ReadsPattern shown (Err e) → HasNoPattern coming e
no_pattern coming bytes shown e same front (inl memory) = inl memory
no_pattern coming bytes shown e same front (inr reads) = inr (inr (refuses coming bytes shown e same front reads))

pub pattern_err : {A : Type 0} (coming : Option (List ℕ)) (bytes shown : List ℕ) (r : Result A Fault) → shown ≡ bytes → IfSome coming (λ all. bytes ≡ take (most_bytes + 1) all)
    → IfErr r (λ e. (e ≡ Memory) ⊎ ReadsPattern shown (Err e)) → IfErr r (λ e. HasNoPattern coming e)
pattern_err coming bytes shown (Ok p) same front reads = tt
pattern_err coming bytes shown (Err e) same front reads = no_pattern coming bytes shown e same front reads

-- a fault of the file is no failed read
pub no_read_of_pattern : {A : Type 0} (bytes : List ℕ) (r : Result A Fault) → IfErr r (λ e. (e ≡ Memory) ⊎ ReadsPattern bytes (Err e)) → r ≡ Err Read → ⊥
no_read_of_pattern bytes (Ok p) told is = let bad : Ok p ≡ Err Read = is in cc
no_read_of_pattern bytes (Err e) told is = let same : e ≡ Read = cc in not_read bytes e told same

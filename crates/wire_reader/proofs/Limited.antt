-- A file past its limit is judged by the first bytes of it, one more than it may have.
use Rattle.std.proofs.Common.{◌≡◌, ◌∙◌, ap, subst, ℕ, ◌+◌, ◌<◌, ◌≤◌, ◌⊎◌, ◌==◌, List, length, take, inl, inr, arith, Result, Ok, Err, count_by}
use Rattle.std.proofs.lemmas.List.{length-take, take-take, take_all}
use Rattle.wire_types.specs.declared.Fault.{Fault}
use Rattle.wire_types.specs.declared.Fault.TheVariants.{TooLong}
use Rattle.wire_scripts.specs.Scripts.{Scripts}
use Rattle.wire_reader.specs.declared.limits.Size.{Size}
use Rattle.wire_reader.specs.Limits.{file_bytes}
use Rattle.wire_reader.specs.Reads.{Reads, ReadsShort}

-- the text reads as this, with any limit of the file
abbrev ReadsWithin : Size → ℕ → List ℕ → Result Scripts Fault → Type 0
ReadsWithin size limit bytes r =
    ((limit < length bytes) × (r ≡ Err (TooLong (count_by (λ b. b == 10) (take limit bytes) + 1))))
    ⊎ ((length bytes ≤ limit) × ReadsShort size bytes r)

-- one byte past the limit tells as much as all
limited : (size : Size) (limit : ℕ) (bytes : List ℕ) (r : Result Scripts Fault) → ReadsWithin size limit (take (limit + 1) bytes) r → ReadsWithin size limit bytes r
limited size limit bytes r (inl (past, is)) =
    let same = take-take limit (limit + 1) bytes (omega arith) in
    inl (omega (arith, past, length-take (limit + 1) bytes), is ∙ ap (λ t. Err (TooLong (count_by (λ b. b == 10) t + 1))) same)
limited size limit bytes r (inr (within, reads)) =
    let all : length bytes ≤ limit = omega (arith, within, length-take (limit + 1) bytes) in
    inr (all, subst (λ t. ReadsShort size t r) (take_all (limit + 1) bytes (omega (arith, all))) reads)

-- and so for the limit of a file
pub reads_limited : (size : Size) (bytes : List ℕ) (r : Result Scripts Fault) → Reads size (take (file_bytes size + 1) bytes) r → Reads size bytes r
reads_limited size bytes r h = limited size (file_bytes size) bytes r h

-- what reads as scripts is within the limit of a file, so its front is all of it
pub whole_read : (size : Size) (whole : List ℕ) (s : Scripts) → Reads size whole (Ok s) → take (file_bytes size + 1) whole ≡ whole
whole_read size whole s (inl (past, is)) = absurd (cc)
whole_read size whole s (inr (within, reads)) = take_all (file_bytes size + 1) whole (omega (arith, within))

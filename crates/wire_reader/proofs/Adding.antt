-- What a line adds to a draft.
use Rattle.std.proofs.Common.{◌≡◌, ◌∙◌, ap, sym, ℕ, suc, ◌-◌, ◌<◌, List, [], ◌∷◌, ◌++◌, map, length, arith, slice_index_or, slice_set}
use Rattle.std.specs.Prelude.{Vec}
use Rattle.std.specs.declared.alloc.Global.{Global}
use Rattle.std.proofs.lemmas.List.{map-append}
use Rattle.wire_reader.specs.FirstPass.{with_call}
use Rattle.wire_reader.specs.Drafted.{placed_of, started_of}
use Rattle.wire_lines.specs.Said.{Call}
use Rattle.wire_reader.specs.declared.draft.Started.{Started as Building}
use Rattle.wire_reader.specs.declared.draft.LocatedCall.{LocatedCall}

with_last : (ps : List Building) (q d : Building) (c : ℕ × Call) → 0 < length ps
    → started_of q ≡ record (started_of (slice_index_or ps (length ps - 1) d)) { calls = (started_of (slice_index_or ps (length ps - 1) d)).calls ++ c ∷ [] }
    → map started_of (slice_set ps (length ps - 1) q) ≡ with_call (map started_of ps) c
with_last [] q d c some e = absurd (omega arith)
with_last (p ∷ []) q d c some e = ap (λ x. x ∷ []) e
with_last (p ∷ p2 ∷ ps) q d c some e =
    let one : length (p ∷ p2 ∷ ps) - 1 ≡ suc (length (p2 ∷ ps) - 1) = omega arith in
    rw one (ap (λ t. started_of p ∷ t) (with_last (p2 ∷ ps) q d c (omega arith) (rw one at e)))

-- one more call of the last process
pub call_added : (ps : List Building) (n : ℕ) (p : Building) (new : Vec LocatedCall Global) (c : LocatedCall) → n ≡ length ps → 0 < n → p ≡ slice_index_or ps (n - 1) p → new.items ≡ p.calls.items ++ c ∷ []
    → map started_of (slice_set ps (n - 1) (record { job = p.job; rank = p.rank; node = p.node; calls = new })) ≡ with_call (map started_of ps) (placed_of c)
call_added ps n p new c len some at items =
    let there : slice_index_or ps (length ps - 1) p ≡ p = rw (← len) (sym at) in
    let all : map placed_of new.items ≡ map placed_of p.calls.items ++ placed_of c ∷ [] = ap (map placed_of) items ∙ map-append placed_of p.calls.items (c ∷ []) in
    rw len (with_last ps (record { job = p.job; rank = p.rank; node = p.node; calls = new }) p (placed_of c) (omega arith)
    (rw there (ap (λ t. record { job = p.job; rank = p.rank; node = p.node; calls = t }) all)))

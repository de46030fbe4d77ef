-- Lists that are mapped: one more step of the last role.
use Rattle.std.proofs.Common.{◌≡◌, ◌∙◌, ap, sym, ℕ, suc, ◌-◌, ◌<◌, List, [], ◌∷◌, ◌++◌, map, length, arith, slice_index_or, slice_set}
use Rattle.std.specs.Prelude.{Vec}
use Rattle.std.specs.declared.alloc.Global.{Global}
use Rattle.std.proofs.lemmas.List.{map-append}
use Rattle.wire_pattern_script.specs.FirstPass.{with_step, StepLines}
use Rattle.wire_pattern_script.specs.Drafted.{role_of, step_of}
use Rattle.wire_pattern_script.specs.declared.draft.RoleDraft.{RoleDraft}
use Rattle.wire_pattern_script.specs.declared.draft.StepDraft.{StepDraft}

with_last : (rs : List RoleDraft) (q d : RoleDraft) (s : StepLines) → 0 < length rs
    → role_of q ≡ record (role_of (slice_index_or rs (length rs - 1) d)) { steps = (role_of (slice_index_or rs (length rs - 1) d)).steps ++ s ∷ [] }
    → map role_of (slice_set rs (length rs - 1) q) ≡ with_step (map role_of rs) s
with_last [] q d s some e = absurd (omega arith)
with_last (r ∷ []) q d s some e = ap (λ x. x ∷ []) e
with_last (r ∷ r2 ∷ rs) q d s some e =
    let one : length (r ∷ r2 ∷ rs) - 1 ≡ suc (length (r2 ∷ rs) - 1) = omega arith in
    rw one (ap (λ t. role_of r ∷ t) (with_last (r2 ∷ rs) q d s (omega arith) (rw one at e)))

-- one more step of the last role
pub step_added : (rs : List RoleDraft) (n : ℕ) (r : RoleDraft) (new : Vec StepDraft Global) (s : StepDraft) → n ≡ length rs → 0 < n → r ≡ slice_index_or rs (n - 1) r → new.items ≡ r.steps.items ++ s ∷ []
    → map role_of (slice_set rs (n - 1) (record { job = r.job; name = r.name; single = r.single; least = r.least; number = r.number; steps = new })) ≡ with_step (map role_of rs) (step_of s)
step_added rs n r new s len some at items =
    let there : slice_index_or rs (length rs - 1) r ≡ r = rw (← len) (sym at) in
    let all : map step_of new.items ≡ map step_of r.steps.items ++ step_of s ∷ [] = ap (map step_of) items ∙ map-append step_of r.steps.items (s ∷ []) in
    rw len (with_last rs (record { job = r.job; name = r.name; single = r.single; least = r.least; number = r.number; steps = new }) r (step_of s) (omega arith)
    (rw there (ap (λ t. record { job = r.job; name = r.name.now; single = r.single; least = r.least; number = r.number; steps = t }) all)))

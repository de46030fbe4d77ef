-- What is kept of calls.
use Rattle.std.proofs.Common.{◌≡◌, ◌∙◌, ℕ, zero, suc, ◌-◌, ◌<◌, ◌≤◌, ◌==◌, List, [], ◌∷◌, map, take, length, Bool, Some, None, get_or, refl, sym, ap, inl, inr, arith}
use Rattle.std.proofs.lemmas.Bool.{cases_eq, cond-false, ne_eqb}
use Rattle.std.proofs.lemmas.Option.{slice_get_within}
use Rattle.std.proofs.lemmas.List.{get_or-map}
use Rattle.wire_fence.specs.declared.register.FenceDraft.{FenceDraft}
use Rattle.wire_fence.specs.Register.{IsCalled, Again, First, EndsBare, number_kept}

-- the number of a fence is kept as it is
pub kept_is : (number : ℕ) → number < 4294967295 → number_kept number ≡ Some number
kept_is number low = cond-false (number == 4294967295) None (Some number) (ne_eqb number 4294967295 (λ e. omega (arith, low, e)))

-- a fence has at most the number of rows so far
pub number_low : (rows new : List FenceDraft) (k nth members number : ℕ) (collect : Bool) → IsCalled rows k nth members collect number new → number ≤ length rows
number_low rows new k nth members number collect (Again row there of_set is_nth is) = let low = slice_get_within rows number row there in omega (arith, low)
number_low rows new k nth members number collect (First last none is) = omega (arith, last)

-- from n on there is no fence
abbrev pub IsBareFrom : List ℕ → ℕ → Type 0
IsBareFrom kept n = (c : ℕ) → n ≤ c → get_or (map number_kept kept) c None ≡ None

pub bare_more : (kept : List ℕ) (n : ℕ) → IsBareFrom kept n → n ≤ length kept → EndsBare kept n → IsBareFrom kept (n - 1)
bare_more kept n bare le ends c ge =
    let some = ends.0 in
    elim (cases_eq c (n - 1)) [
      | inl e ↦ ap (λ k. get_or (map number_kept kept) k None) e ∙ get_or-map number_kept kept (n - 1) 0 None (omega (arith, some, le)) ∙ ap number_kept ends.1
      | inr ne ↦ bare c (omega (arith, some, ge, ne))
    ]

pub bare_end : (kept : List ℕ) (n : ℕ) → n ≡ length kept → IsBareFrom kept n
bare_end [] n is c ge = refl
bare_end (x ∷ kept) n is zero ge = absurd (omega (arith, is, ge))
bare_end (x ∷ kept) n is (suc c) ge = bare_end kept (length kept) refl c (omega (arith, is, ge))

pub take_bare : (kept : List ℕ) (n : ℕ) → IsBareFrom kept n → (c : ℕ) → get_or (map number_kept (take n kept)) c None ≡ get_or (map number_kept kept) c None
take_bare [] zero bare c = refl
take_bare [] (suc n) bare c = refl
take_bare (x ∷ kept) zero bare c = sym (bare c (omega arith))
take_bare (x ∷ kept) (suc n) bare zero = refl
take_bare (x ∷ kept) (suc n) bare (suc c) = take_bare kept n (λ k le. bare (suc k) (omega (arith, le))) c

-- Texts that have the same front, and how they grow.
use Rattle.std.proofs.Common.{◌≡◌, ◌<◌, ◌∙◌, ◌+◌, ◌==◌, ap, sym, refl, ℕ, zero, suc, List, [], ◌∷◌, ◌++◌, take, take_all, length, map, true, append_assoc}
use Rattle.std.proofs.Common.{arith, inl, inr, ◌-◌, ◌^◌, Vec, Global, Result, Ok, Err, IfOk}
use Rattle.std.specs.declared.alloc.AllocError.{AllocError}
use Rattle.std.proofs.lemmas.Bool.{cases_lt, eqb-true}
use Rattle.std.proofs.lemmas.List.{take-append-le, take-take, length-take-le}
use Rattle.wire_pattern.specs.declared.step.Line.{Line}
use Rattle.wire_pattern.specs.Pattern.{Pattern}
use Rattle.wire_pattern.specs.Views.{line_by}
use Rattle.wire_pattern.specs.Instances.{Cast, turns_said}

-- what is behind the front of a text is behind the text
front_grows : {A : Type 0} (n : ℕ) (text more : List A) → take n (text ++ more) ≡ take n (take n text ++ more)
front_grows zero text more = refl
front_grows (suc n) [] more = refl
front_grows (suc n) (x ∷ text) more = ap (λ t. x ∷ t) (front_grows n text more)

pub same_grow : {A : Type 0} (n : ℕ) (a b more : List A) → take n a ≡ take n b → take n (a ++ more) ≡ take n (b ++ more)
same_grow n a b more same = front_grows n a more ∙ ap (λ t. take n (t ++ more)) same ∙ sym (front_grows n b more)

-- texts with the same front have the same shorter one
fewer_same : {A : Type 0} (n : ℕ) (a b : List A) → take (suc n) a ≡ take (suc n) b → take n a ≡ take n b
fewer_same n a b same =
    sym (take-take n (suc n) a (omega arith)) ∙ ap (take n) same ∙ take-take n (suc n) b (omega arith)

-- the first piece of what was left is written
pub moved_front : {A : Type 0} (n : ℕ) (old now piece rest whole all : List A) → take n now ≡ take n (old ++ piece) → whole ≡ piece ++ rest
    → take n (old ++ whole) ≡ take n all → take n (now ++ rest) ≡ take n all
moved_front n old now piece rest whole all more is h =
    same_grow n now (old ++ piece) rest more ∙ ap (take n) (append_assoc old piece rest ∙ ap (λ t. old ++ t) (sym is)) ∙ h

-- and what stands before it
pub same_behind : {A : Type 0} (n : ℕ) (old a b : List A) → take n a ≡ take n b → take n (old ++ a) ≡ take n (old ++ b)
same_behind n [] a b same = same
same_behind zero (x ∷ old) a b same = refl
same_behind (suc n) (x ∷ old) a b same = ap (λ t. x ∷ t) (same_behind n old a b (fewer_same n a b same))

-- where a text is longer than that, whatever comes behind it says nothing of its front
pub past_front : {A : Type 0} (n : ℕ) (text more : List A) → n < length text → take n text ≡ take n (text ++ more)
past_front n text more long = sym (take-append-le n text more (omega (arith, long)))

pub past_more : {A : Type 0} (n : ℕ) (text more : List A) → n < length text → take (n + 1) text ≡ take (n + 1) (text ++ more)
past_more n text more long = sym (take-append-le (n + 1) text more (omega (arith, long)))

-- a front that is shorter than so much is the whole
pub whole_front : {A : Type 0} (n : ℕ) (written text : List A) → written ≡ take n text → length written < n → written ≡ text
whole_front n written text is short = elim (cases_lt n (length text)) [
  | inl past ↦ absurd (let long : length written ≡ n = ap length is ∙ length-take-le n text (omega (arith, past)) in omega (arith, long, short))
  | inr within ↦ is ∙ take_all n text within
]

-- a loop without lines says nothing, whatever its turns
pub nothing_said : (p : Pattern) (cast : Cast) (v : ℕ) (lines : List Line) (turns : List ℕ) → (length lines == 0) ≡ true
    → turns_said p cast v (map line_by lines) turns ≡ []
nothing_said p cast v [] [] is = refl
nothing_said p cast v [] (e ∷ turns) is = nothing_said p cast v [] turns is
nothing_said p cast v (line ∷ lines) turns is = absurd (omega (arith, eqb-true (suc (length lines)) 0 is))

-- a vector has less than 2^64 - 1 items, so with so many bytes wanted it has the whole text
pub all_written : (r : Result (Vec ℕ Global) AllocError) (text : List ℕ) → IfOk r (λ t. t.items ≡ take (2 ^ 64 - 1) text) → IfOk r (λ t. t.items ≡ text)
all_written (Ok written) text is = whole_front (2 ^ 64 - 1) written.items text is (omega (arith, written.ok.0, written.ok.1, written.small))
all_written (Err e) text is = tt

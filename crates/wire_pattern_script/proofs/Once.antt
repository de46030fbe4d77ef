-- A text reads as one value.
use Rattle.std.proofs.Common.{◌≡◌, ◌∙◌, ap, sym, subst, ℕ, List, [], ◌∷◌, length, Result, Ok, Err, MatchResult, inl, inr, arith}
use Rattle.wire_types.specs.declared.Fault.{Fault}
use Rattle.wire_lines.specs.Text.{lines_of}
use Rattle.wire_reader.specs.Statements.{Statement, statements}
use Rattle.wire_pattern.specs.Pattern.{Pattern}
use Rattle.wire_pattern_lines.proofs.SaysOnce.{says_once}
use Rattle.wire_pattern_script.specs.FirstPass.{Declared, nothing, judged, Judges, JudgesAll, FirstPass}
use Rattle.wire_pattern_script.specs.Numbers.{pattern_of}
use Rattle.wire_pattern_script.specs.Reads.{judged_pattern, ReadsShort, PatternReadsOnce}

judges_once : (d : Declared) (line : Statement) (q r : Result Declared Fault) → Judges d line q → Judges d line r → q ≡ r
judges_once d line q r (inl a) (inl b) = a.1 ∙ sym b.1
judges_once d line q r (inl a) (inr b) = absurd (a.0 b.0 b.1)
judges_once d line q r (inr a) (inl b) = absurd (b.0 a.0 a.1)
judges_once d line q r (inr a) (inr b) = a.2 ∙ ap (judged d line.0) (says_once line.1 a.0 b.0 a.1 b.1) ∙ sym b.2

-- where one step gives one value, and what follows does, so do both
module _ {A : Type 0} (P : Declared → Result A Fault → Type 0) (once : (d : Declared) (r s : Result A Fault) → P d r → P d s → r ≡ s) where
  then_once : (q : Result Declared Fault) (r s : Result A Fault) → MatchResult q (λ d. P d r) (λ f. r ≡ Err f) → MatchResult q (λ d. P d s) (λ f. s ≡ Err f) → r ≡ s
  then_once (Ok d) r s a b = once d r s a b
  then_once (Err f) r s a b = a ∙ sym b

  both_once : (q p : Result Declared Fault) (r s : Result A Fault) → q ≡ p → MatchResult q (λ d. P d r) (λ f. r ≡ Err f) → MatchResult p (λ d. P d s) (λ f. s ≡ Err f) → r ≡ s
  both_once q p r s e a b = then_once q r s a (subst (λ x. MatchResult x (λ d. P d s) (λ f. s ≡ Err f)) (sym e) b)

all_once : (lines : List Statement) (d : Declared) (last : ℕ) (r s : Result Declared Fault) → JudgesAll d last lines r → JudgesAll d last lines s → r ≡ s
all_once [] d last r s a b = a ∙ sym b
all_once (line ∷ lines) d last r s a b =
    both_once (λ e x. JudgesAll e line.0 lines x) (λ e x y p q. all_once lines e line.0 x y p q) a.0 b.0 r s (judges_once d line a.0 b.0 a.1 b.1) a.2 b.2

first_once : (lines : List Statement) (n : ℕ) (r s : Result Declared Fault) → FirstPass lines n r → FirstPass lines n s → r ≡ s
first_once [] n r s a b = a ∙ sym b
first_once (line ∷ lines) n r s (inl a) (inl b) = all_once lines nothing line.0 r s a.1 b.1
first_once (line ∷ lines) n r s (inl a) (inr b) = absurd (b.0 a.0)
first_once (line ∷ lines) n r s (inr a) (inl b) = absurd (a.0 b.0)
first_once (line ∷ lines) n r s (inr a) (inr b) = a.1 ∙ sym b.1

short_once : (bytes : List ℕ) (r s : Result Pattern Fault) → ReadsShort bytes r → ReadsShort bytes s → r ≡ s
short_once bytes r s a b =
    both_once (λ d x. x ≡ judged_pattern (pattern_of d)) (λ d x y p q. p ∙ sym q) a.0 b.0 r s
    (first_once (statements bytes) (length (lines_of bytes)) a.0 b.0 a.1 b.1) a.2 b.2

pub reads_once : PatternReadsOnce
reads_once bytes r s (inl a) (inl b) = a.1 ∙ sym b.1
reads_once bytes r s (inl a) (inr b) = absurd (let h = a.0 in let k = b.0 in omega arith)
reads_once bytes r s (inr a) (inl b) = absurd (let h = a.0 in let k = b.0 in omega arith)
reads_once bytes r s (inr a) (inr b) = short_once bytes r s a.1 b.1

-- A text reads as one value.
use Rattle.std.proofs.Common.{◌≡◌, ◌∙◌, ap, sym, subst, ℕ, List, [], ◌∷◌, length, Result, Ok, Err, MatchResult, inl, inr, arith, Option, Some, None, refl}
use Rattle.wire_types.specs.declared.Fault.{Fault}
use Rattle.wire_types.specs.declared.Version.{Version}
use Rattle.wire_lines.proofs.SaysOnce.{says_once}
use Rattle.wire_lines.specs.Text.{lines_of}
use Rattle.wire_reader.specs.Statements.{Statement, statements}
use Rattle.wire_reader.specs.FirstPass.{Declared, nothing, judged, Judges, JudgesAll, FirstPass}
use Rattle.wire_scripts.specs.Scripts.{Scripts}
use Rattle.wire_lines.specs.Said.{Said, Header}
use Rattle.wire_reader.specs.declared.limits.Size.{Size}
use Rattle.wire_reader.specs.Reads.{second_pass, ReadsShort, ReadsOnce, scripts_of, unless_fault}

judges_once : (d : Declared) (line : Statement) (q r : Result Declared Fault) → Judges d line q → Judges d line r → q ≡ r
judges_once d line q r (inl a) (inl b) = a.1 ∙ sym b.1
judges_once d line q r (inl a) (inr b) = absurd (a.0 b.0 b.1)
judges_once d line q r (inr a) (inl b) = absurd (b.0 a.0 a.1)
judges_once d line q r (inr a) (inr b) = a.2 ∙ ap (judged d line.0) (says_once line.1 a.0 b.0 a.1 b.1) ∙ sym b.2

-- where one step gives one value, and what follows does, so do both
module _ {A : Type 0} (P : Declared → Result A Fault → Type 0) (once : (d : Declared) (r s : Result A Fault) → P d r → P d s → r ≡ s) where
  then_once : (q : Result Declared Fault) (r s : Result A Fault) → MatchResult q (λ d. P d r) (λ f. r ≡ Err f) → MatchResult q (λ d. P d s) (λ f. s ≡ Err f) → r ≡ s
  then_once (Ok d) r s a b = once d r s a b
  then_once (Err f) r s a b = a ∙ sym b

  both_once : (q p : Result Declared Fault) (r s : Result A Fault) → q ≡ p → MatchResult q (λ d. P d r) (λ f. r ≡ Err f) → MatchResult p (λ d. P d s) (λ f. s ≡ Err f) → r ≡ s
  both_once q p r s e a b = then_once q r s a (subst (λ x. MatchResult x (λ d. P d s) (λ f. s ≡ Err f)) (sym e) b)

all_once : (lines : List Statement) (d : Declared) (r s : Result Declared Fault) → JudgesAll d lines r → JudgesAll d lines s → r ≡ s
all_once [] d r s a b = a ∙ sym b
all_once (line ∷ lines) d r s a b =
    both_once (λ e x. JudgesAll e lines x) (all_once lines) a.0 b.0 r s (judges_once d line a.0 b.0 a.1 b.1) a.2 b.2

-- the version that a header says
abbrev version_in : Version → Said → Version
version_in v (Header w) = w
version_in v said = v

first_once : (size : Size) (lines : List Statement) (n : ℕ) (r s : Result Declared Fault) → FirstPass size lines n r → FirstPass size lines n s → r ≡ s
first_once size [] n r s a b = a ∙ sym b
first_once size (line ∷ lines) n r s (inl a) (inl b) =
    let same : a.0 ≡ b.0 = ap (version_in a.0) (says_once line.1 (Header a.0) (Header b.0) a.1 b.1) in
    all_once lines (nothing size a.0) r s a.2 (subst (λ v. JudgesAll (nothing size v) lines s) (sym same) b.2)
first_once size (line ∷ lines) n r s (inl a) (inr b) = absurd (b.0 a.0 a.1)
first_once size (line ∷ lines) n r s (inr a) (inl b) = absurd (a.0 b.0 b.1)
first_once size (line ∷ lines) n r s (inr a) (inr b) = a.1 ∙ sym b.1

pub short_once : (size : Size) (bytes : List ℕ) (r s : Result Scripts Fault) → ReadsShort size bytes r → ReadsShort size bytes s → r ≡ s
short_once size bytes r s a b =
    both_once (λ d x. x ≡ second_pass d) (λ d x y p q. p ∙ sym q) a.0 b.0 r s
    (first_once size (statements bytes) (length (lines_of bytes)) a.0 b.0 a.1 b.1) a.2 b.2

pub reads_once : ReadsOnce
reads_once size bytes r s (inl a) (inl b) = a.1 ∙ sym b.1
reads_once size bytes r s (inl a) (inr b) = absurd (let h = a.0 in let k = b.0 in omega arith)
reads_once size bytes r s (inr a) (inl b) = absurd (let h = a.0 in let k = b.0 in omega arith)
reads_once size bytes r s (inr a) (inr b) = short_once size bytes r s a.1 b.1

-- the second pass that answers with scripts found no fault, and they are those that are declared
pub second_ok : (d : Declared) (s : Scripts) (u : Option Fault) → Ok s ≡ unless_fault d u → (u ≡ None) × (s ≡ scripts_of d)
second_ok d s None h = (refl, cc)
second_ok d s (Some f) h = absurd (cc)

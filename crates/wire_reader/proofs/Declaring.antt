-- What lines declare that were parsed by themselves.
use Rattle.std.proofs.Common.{◌≡◌, sym, subst, refl, ℕ, List, [], ◌∷◌, ◌++◌, Vec, Result, Ok, Err, Option, Some, None, inl, inr}
use Rattle.std.specs.declared.alloc.Global.{Global}
use Rattle.wire_types.specs.declared.Fault.{Fault}
use Rattle.wire_lines.specs.declared.line.Line.{Line}
use Rattle.wire_reader.specs.Statements.{Statement}
use Rattle.wire_reader.specs.Left.{statements_left}
use Rattle.wire_reader.specs.FirstPass.{Declared, Judges, JudgesAll}
use Rattle.wire_reader.specs.Pieces.{IsSaid, AreParsed, ArePiecesParsed, all_left}
use Rattle.wire_reader.specs.declared.lines.Cursor.{Cursor}
use Rattle.wire_reader.specs.declared.pieces.Parsed.{Parsed}

same_declared : (d e : Declared) → ◌≡◌ {A = Result Declared Fault} (Ok e) (Ok d) → d ≡ e
same_declared d e h = cc

no_fault : (d : Declared) (f : Fault) → ◌≡◌ {A = Result Declared Fault} (Err f) (Ok d) → ⊥
no_fault d f h = cc

no_value : (d : Declared) (f : Fault) → ◌≡◌ {A = Result Declared Fault} (Ok d) (Err f) → ⊥
no_value d f h = cc

-- lines that are all taken, and those behind them
pub judged_on : (d e : Declared) (xs ys : List Statement) (r : Result Declared Fault) → JudgesAll d xs (Ok e) → JudgesAll e ys r → JudgesAll d (xs ++ ys) r
judged_on d e [] ys r done more = subst (λ x. JudgesAll x ys r) (sym (same_declared d e done)) more
judged_on d e (line ∷ xs) ys r (Ok next, one, rest) more = (Ok next, one, judged_on next e xs ys r rest more)
judged_on d e (line ∷ xs) ys r (Err f, one, rest) more = absurd (no_value e f rest)

-- lines one of which is refused, and those behind them
pub judged_off : (d : Declared) (f : Fault) (xs ys : List Statement) → JudgesAll d xs (Err f) → JudgesAll d (xs ++ ys) (Err f)
judged_off d f [] ys done = absurd (no_fault d f done)
judged_off d f (line ∷ xs) ys (Ok next, one, rest) = (Ok next, one, judged_off next f xs ys rest)
judged_off d f (line ∷ xs) ys (Err g, one, rest) = (Err g, one, rest)

-- after some lines these are left, and what they declare is what all declare
abbrev pub Goes : Declared → Declared → List Statement → List Parsed → Type 0
Goes start now lines left = (later : List Statement) × AreParsed later left × ((r : Result Declared Fault) → JudgesAll now later r → JudgesAll start lines r)

-- what is judged of all words that say this
abbrev pub JudgesSaid : Declared → Parsed → Result Declared Fault → Type 0
JudgesSaid d p r = (words : List (List ℕ)) → IsSaid words p.said → Judges d (p.number, words) r

at_number : (d : Declared) (p : Parsed) (s : Statement) (r : Result Declared Fault) → JudgesSaid d p r → p.number ≡ s.0 → IsSaid s.1 p.said → Judges d s r
at_number d p s r judged same said = subst (λ n. Judges d (n, s.1) r) same (judged s.1 said)

-- a line that says nothing is never declared
no_more : (d next : Declared) (s : Statement) (read : Option Line) → read ≡ None → IsSaid s.1 read → Judges d s (Ok next) → ⊥
no_more d next s (Some line) silent is judged = absurd (cc)
no_more d next s None silent is (inl (unsaid, refused)) = no_value next _ refused
no_more d next s None silent is (inr (said, says, after)) = is said says

module _ (start now : Declared) (lines : List Statement) where
  pub one_declared : (next : Declared) (p : Parsed) (left : List Parsed) → JudgesSaid now p (Ok next) → Goes start now lines (p ∷ left) → Goes start next lines left
  one_declared next p left judged ([], parsed, so_far) = absurd parsed
  one_declared next p left judged (s ∷ later, parsed, so_far) =
      let one = at_number now p s (Ok next) judged parsed.0.0 parsed.0.1 in
      elim parsed.1 [
        | inl last ↦ absurd (no_more now next s p.said last.0 parsed.0.1 one)
        | inr more ↦ (later, more, λ r all. so_far r (Ok next, one, all))
      ]

  pub one_refused : (f : Fault) (p : Parsed) (left : List Parsed) → JudgesSaid now p (Err f) → Goes start now lines (p ∷ left) → JudgesAll start lines (Err f)
  one_refused f p left judged ([], parsed, so_far) = absurd parsed
  one_refused f p left judged (s ∷ later, parsed, so_far) = so_far (Err f) (Err f, at_number now p s (Err f) judged parsed.0.0 parsed.0.1, refl)

  pub all_declared : Goes start now lines [] → JudgesAll start lines (Ok now)
  all_declared ([], parsed, so_far) = so_far (Ok now) refl
  all_declared (s ∷ later, parsed, so_far) = absurd parsed

-- the same of pieces
abbrev pub GoesOver : Declared → Declared → List Cursor → List (Vec Parsed Global) → Type 0
GoesOver start now pieces left = (later : List Cursor) × ArePiecesParsed later left × ((r : Result Declared Fault) → JudgesAll now (all_left later) r → JudgesAll start (all_left pieces) r)

abbrev pub JudgesRow : Declared → Vec Parsed Global → Result Declared Fault → Type 0
JudgesRow d row r = (lines : List Statement) → AreParsed lines row.items → JudgesAll d lines r

module _ (start now : Declared) (pieces : List Cursor) where
  pub row_declared : (next : Declared) (row : Vec Parsed Global) (left : List (Vec Parsed Global)) → JudgesRow now row (Ok next) → GoesOver start now pieces (row ∷ left) → GoesOver start next pieces left
  row_declared next row left judged ([], parsed, so_far) = absurd parsed
  row_declared next row left judged (c ∷ later, parsed, so_far) =
      (later, parsed.1, λ r all. so_far r (judged_on now next (statements_left c) (all_left later) r (judged (statements_left c) parsed.0) all))

  pub row_refused : (f : Fault) (row : Vec Parsed Global) (left : List (Vec Parsed Global)) → JudgesRow now row (Err f) → GoesOver start now pieces (row ∷ left) → JudgesAll start (all_left pieces) (Err f)
  row_refused f row left judged ([], parsed, so_far) = absurd parsed
  row_refused f row left judged (c ∷ later, parsed, so_far) = so_far (Err f) (judged_off now f (statements_left c) (all_left later) (judged (statements_left c) parsed.0))

  pub rows_declared : GoesOver start now pieces [] → JudgesAll start (all_left pieces) (Ok now)
  rows_declared ([], parsed, so_far) = so_far (Ok now) refl
  rows_declared (c ∷ later, parsed, so_far) = absurd parsed

-- the statements of a group, and those behind it
module _ (d : Declared) (group others all : List Statement) (split : group ++ others ≡ all) where
  pub group_declared : (next : Declared) → JudgesAll d group (Ok next) → (r : Result Declared Fault) → JudgesAll next others r → JudgesAll d all r
  group_declared next done r more = subst (λ l. JudgesAll d l r) split (judged_on d next group others r done more)

  pub group_refused : (f : Fault) → JudgesAll d group (Err f) → JudgesAll d all (Err f)
  group_refused f done = subst (λ l. JudgesAll d l (Err f)) split (judged_off d f group others done)

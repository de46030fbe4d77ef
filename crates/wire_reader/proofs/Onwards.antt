-- What lines declare that are read while those above them are declared.
use Rattle.std.proofs.Common.{◌≡◌, ◌⊎◌, inl, inr, ap, sym, subst, refl, List, [], Vec, Result, Ok, Err, IfOk, IfErr}
use Rattle.std.specs.declared.alloc.Global.{Global}
use Rattle.wire_types.specs.declared.Fault.{Fault}
use Rattle.wire_lines.specs.Text.{lines_of}
use Rattle.wire_reader.specs.Statements.{Statement, statements_from}
use Rattle.wire_reader.specs.Left.{statements_left}
use Rattle.wire_reader.specs.FirstPass.{Declared, JudgesAll}
use Rattle.wire_reader.specs.Drafted.{declared_of}
use Rattle.wire_reader.specs.Pieces.{ArePiecesParsed, all_left}
use Rattle.wire_reader.specs.Ahead.{IsReadAhead, IsProgress, Declares}
use Rattle.wire_reader.specs.declared.draft.Draft.{Draft}
use Rattle.wire_reader.specs.declared.lines.Cursor.{Cursor}
use Rattle.wire_reader.specs.declared.pieces.Parsed.{Parsed}
use Rattle.wire_reader.specs.declared.shared_pass.Progress.{Progress}
use Rattle.wire_reader.proofs.Declaring.{judged_on, judged_off}

-- the lines that are read are judged so
abbrev pub JudgesRead : Progress → Result Declared Fault → Type 0
JudgesRead p r = (pieces : List Cursor) → ArePiecesParsed pieces p.reading.rows.items → JudgesAll (declared_of p.reading.draft) (all_left pieces) r

module _ (start : Declared) (lines : List Statement) (p : Progress) (was : IsProgress start lines p) where
  pub read_on : (next : Progress) → JudgesRead p (Ok (declared_of next.reading.draft)) → IsReadAhead p.left next.reading.rows.items next.left → IsProgress start lines next
  read_on next judged ahead = record {
    pieces = ahead.pieces;
    read = ahead.read;
    so_far = λ r more. was.so_far r (judged_on (declared_of p.reading.draft) (declared_of next.reading.draft) (all_left was.pieces) (statements_left p.left) r
        (judged was.pieces was.read) (subst (λ l. JudgesAll (declared_of next.reading.draft) l r) ahead.together more));
  }

  pub refused_ahead : (f : Fault) → JudgesRead p (Err f) → JudgesAll start lines (Err f)
  refused_ahead f judged = was.so_far (Err f) (judged_off (declared_of p.reading.draft) f (all_left was.pieces) (statements_left p.left) (judged was.pieces was.read))

nothing_left : (c : Cursor) → c.rest.now ≡ [] → statements_left c ≡ []
nothing_left c none = ap (λ b. statements_from c.line (lines_of b)) none

all_read : (start : Declared) (lines : List Statement) (p : Progress) (d : Declared) → IsProgress start lines p → p.left.rest.now ≡ [] → JudgesRead p (Ok d) → JudgesAll start lines (Ok d)
all_read start lines p d was none judged = was.so_far (Ok d) (judged_on (declared_of p.reading.draft) d (all_left was.pieces) (statements_left p.left) (Ok d) (judged was.pieces was.read)
    (subst (λ l. JudgesAll d l (Ok d)) (sym (nothing_left p.left none)) refl))

-- where nothing is left, what is declared of the lines that are read is what all lines declare
module _ (first p : Progress) (so_far : (start : Declared) (lines : List Statement) → IsProgress start lines first → IsProgress start lines p) where
  pub ends_declared : (r : Result Draft Fault) → p.left.rest.now ≡ [] → Declares p.reading r →
      IfOk r (λ d. (start : Declared) (lines : List Statement) → IsProgress start lines first → JudgesAll start lines (Ok (declared_of d)))
  ends_declared (Ok d) none judged = λ start lines was. all_read start lines p (declared_of d) (so_far start lines was) none judged
  ends_declared (Err fault) none judged = tt

  pub ends_refused : (r : Result Draft Fault) → Declares p.reading r →
      IfErr r (λ e. (e ≡ Fault.Memory) ⊎ ((start : Declared) (lines : List Statement) → IsProgress start lines first → JudgesAll start lines (Err e)))
  ends_refused (Ok d) judged = tt
  ends_refused (Err fault) (inl memory) = inl memory
  ends_refused (Err fault) (inr judged) = inr (λ start lines was. refused_ahead start lines p (so_far start lines was) fault judged)

  pub refused_after : (f : Fault) → (f ≡ Fault.Memory) ⊎ ((start : Declared) (lines : List Statement) → IsProgress start lines p → JudgesAll start lines (Err f)) →
      (f ≡ Fault.Memory) ⊎ ((start : Declared) (lines : List Statement) → IsProgress start lines first → JudgesAll start lines (Err f))
  refused_after f (inl memory) = inl memory
  refused_after f (inr judged) = inr (λ start lines was. judged start lines (so_far start lines was))

-- before a line is read, all are left
pub first_progress : (start : Declared) (draft : Draft) (rows : Vec (Vec Parsed Global) Global) (left : Cursor) → declared_of draft ≡ start → rows.items ≡ []
    → IsProgress start (statements_left left) (record { reading = record { draft = draft; rows = rows }; left = left })
first_progress start draft rows left is none = record {
  pieces = [];
  read = rw none tt;
  so_far = λ judged more. subst (λ d. JudgesAll d (statements_left left) judged) is more;
}

-- what holds of all progress holds of that at the start
module _ (start : Declared) (lines : List Statement) (p : Progress) (is : IsProgress start lines p) where
  pub all_declared : (r : Result Draft Fault) → IfOk r (λ d. (s : Declared) (ls : List Statement) → IsProgress s ls p → JudgesAll s ls (Ok (declared_of d))) → IfOk r (λ d. JudgesAll start lines (Ok (declared_of d)))
  all_declared (Ok d) judged = judged start lines is
  all_declared (Err fault) judged = tt

  pub one_refused : (r : Result Draft Fault) → IfErr r (λ e. (e ≡ Fault.Memory) ⊎ ((s : Declared) (ls : List Statement) → IsProgress s ls p → JudgesAll s ls (Err e)))
      → IfErr r (λ e. (e ≡ Fault.Memory) ⊎ JudgesAll start lines (Err e))
  one_refused (Ok d) judged = tt
  one_refused (Err fault) (inl memory) = inl memory
  one_refused (Err fault) (inr judged) = inr (judged start lines is)

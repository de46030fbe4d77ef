-- The lines of a file in pieces.
use Rattle.std.proofs.Common.{◌≡◌, ◌∙◌, sym, ap, refl, ℕ, ◌+◌, List, [], ◌∷◌, ◌++◌, Bool, true, false, cond, length, append_assoc, append-nil, arith}
use Rattle.wire_lines.specs.Text.{words_of}
use Rattle.wire_reader.specs.Statements.{Statement, is_skipped, statements_from}
use Rattle.wire_reader.specs.Left.{statements_left}
use Rattle.wire_reader.specs.Pieces.{all_left}
use Rattle.wire_reader.specs.declared.lines.Cursor.{Cursor}

-- one line in front, by whether it is skipped
in_front : (t : Bool) (s : Statement) (xs ys : List Statement) → cond t (xs ++ ys) (s ∷ (xs ++ ys)) ≡ cond t xs (s ∷ xs) ++ ys
in_front true s xs ys = refl
in_front false s xs ys = refl

-- the lines of a text, and those of the text behind it
pub statements_both : (n : ℕ) (xs ys : List (List ℕ)) → statements_from n (xs ++ ys) ≡ statements_from n xs ++ statements_from (n + length xs) ys
statements_both n [] ys = ap (λ m. statements_from m ys) (let e : n ≡ n + 0 = omega arith in e)
statements_both n (line ∷ xs) ys =
    let next : n + 1 + length xs ≡ n + length (line ∷ xs) = omega arith in
    let rest : statements_from (n + 1) (xs ++ ys) ≡ statements_from (n + 1) xs ++ statements_from (n + length (line ∷ xs)) ys =
    statements_both (n + 1) xs ys ∙ ap (λ m. statements_from (n + 1) xs ++ statements_from m ys) next in
    ap (λ l. cond (is_skipped (words_of line)) l ((n, words_of line) ∷ l)) rest
    ∙ in_front (is_skipped (words_of line)) (n, words_of line) (statements_from (n + 1) xs) (statements_from (n + length (line ∷ xs)) ys)

-- one more piece
pub all_more : (cs : List Cursor) (c : Cursor) → all_left (cs ++ c ∷ []) ≡ all_left cs ++ statements_left c
all_more [] c = append-nil (statements_left c)
all_more (b ∷ cs) c = ap (λ l. statements_left b ++ l) (all_more cs c) ∙ sym (append_assoc (statements_left b) (all_left cs) (statements_left c))

-- a piece is cut off what was left
pub one_cut : (all : List Statement) (cs new : List Cursor) (old c left : Cursor) → all_left cs ++ statements_left old ≡ all → new ≡ cs ++ c ∷ []
    → statements_left old ≡ statements_left c ++ statements_left left → all_left new ++ statements_left left ≡ all
one_cut all cs new old c left so_far added cut =
    ap (λ l. all_left l ++ statements_left left) added
    ∙ ap (λ l. l ++ statements_left left) (all_more cs c)
    ∙ append_assoc (all_left cs) (statements_left c) (statements_left left)
    ∙ ap (λ l. all_left cs ++ l) (sym cut)
    ∙ so_far

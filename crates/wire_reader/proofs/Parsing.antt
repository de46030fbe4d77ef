-- What the lines of a piece say, line by line.
use Rattle.std.proofs.Common.{◌≡◌, ◌∙◌, ap, refl, Bool, true, true≢false, subst, ℕ, List, Vec, Result, Ok, Err, map, IfOk, IfErr, OnOk, ◌⊎◌, inl, inr, MatchResult, [], ◌∷◌, ◌++◌, Option, Some, None, IfSome, IfNone, append_assoc, append-nil}
use Rattle.std.specs.Prelude.{is_some, not}
use Rattle.std.specs.List.{AllZip, Contains}
use Rattle.std.specs.declared.alloc.Global.{Global}
use Rattle.std.specs.declared.alloc.AllocError.{AllocError}
use Rattle.wire_types.specs.declared.Fault.{Fault}
use Rattle.wire_types.specs.declared.Fault.TheVariants.{Memory}
use Rattle.wire_lines.specs.Said.{Said, Says}
use Rattle.wire_lines.specs.Views.{said_by}
use Rattle.wire_lines.specs.declared.line.Line.{Line}
use Rattle.wire_reader.specs.Statements.{Statement}
use Rattle.wire_reader.specs.Pieces.{IsSaid, IsParsed, AreParsed, ArePiecesParsed}
use Rattle.wire_reader.specs.Left.{statements_left}
use Rattle.wire_reader.specs.declared.lines.Cursor.{Cursor}
use Rattle.wire_reader.specs.declared.pieces.Parsed.{Parsed}

pub is_said : (words : List (List ℕ)) (read : Option Line) → IfSome read (λ l. Says words (said_by l)) → IfNone read ((said : Said) → Says words said → ⊥) → IsSaid words read
is_said words (Some line) found none = found
is_said words None found none = none

pub says_nothing : (read : Option Line) (b : Bool) → is_some read ≡ not b → b ≡ true → read ≡ None
says_nothing None b e t = refl
says_nothing (Some line) b e t = absurd (true≢false (e ∙ ap not t))

-- what holds of all words that say this holds of those that were read
pub said_ok : (r : Result Unit Fault) (words : List (List ℕ)) (read : Option Line) (Then : List (List ℕ) → Type 0)
    → OnOk r ((ws : List (List ℕ)) → IsSaid ws read → Then ws) → IsSaid words read → OnOk r (Then words)
said_ok (Ok done) words read Then all said = all words said
said_ok (Err e) words read Then all said = tt

pub said_err : (r : Result Unit Fault) (words : List (List ℕ)) (read : Option Line) (Then : List (List ℕ) → Fault → Type 0)
    → IfErr r (λ e. (e ≡ Memory) ⊎ ((ws : List (List ℕ)) → IsSaid ws read → Then ws e)) → IsSaid words read → IfErr r (λ e. (e ≡ Memory) ⊎ Then words e)
said_err (Ok done) words read Then all said = tt
said_err (Err e) words read Then (inl m) said = inl m
said_err (Err e) words read Then (inr all) said = inr (all words said)

module _ (all now : List Statement) (done : List Parsed) (so_far : (more : List Parsed) → AreParsed now more → AreParsed all (done ++ more)) where
  -- one more line is parsed
  pub one_more : (s : Statement) (lines : List Statement) (p : Parsed) (new : List Parsed) → now ≡ s ∷ lines → IsParsed s p → new ≡ done ++ p ∷ []
      → (more : List Parsed) → AreParsed lines more → AreParsed all (new ++ more)
  one_more s lines p new is parsed added more rest =
      let joined : new ++ more ≡ done ++ (p ∷ more) = rw added (append_assoc done (p ∷ []) more) in
      rw joined (so_far (p ∷ more) (rw is (parsed, inr rest)))

  -- no more is parsed behind a line that says nothing
  pub last_parsed : (s : Statement) (lines : List Statement) (p : Parsed) (new : List Parsed) → now ≡ s ∷ lines → IsParsed s p → p.said ≡ None → new ≡ done ++ p ∷ [] → AreParsed all new
  last_parsed s lines p new is parsed silent added = rw added (so_far (p ∷ []) (rw is (parsed, inl (silent, refl))))

  -- no line is left
  pub all_parsed : now ≡ [] → AreParsed all done
  all_parsed none = subst (λ l. AreParsed all l) (append-nil done) (so_far [] (rw none tt))

-- what the lines of a piece say, or that this failed
abbrev pub row_of : Cursor → Result (Vec Parsed Global) AllocError → Type 0
row_of c x = IfOk x (λ row. AreParsed (statements_left c) row.items)

-- rows that were all made
rows_made : (cs : List Cursor) (rows : List (Vec Parsed Global)) → AllZip row_of cs (map Ok rows) → ArePiecesParsed cs rows
rows_made [] [] h = tt
rows_made [] (row ∷ rows) h = absurd h
rows_made (c ∷ cs) [] h = absurd h
rows_made (c ∷ cs) (row ∷ rows) h = (h.0, rows_made cs rows h.1)

-- what the threads give, where no call failed
pub gathered : (cs : List Cursor) (xs : List (Result (Vec Parsed Global) AllocError)) (r : Result (Vec (Vec Parsed Global) Global) AllocError)
    → AllZip row_of cs xs
    → MatchResult r (λ v. (ys : List (Vec Parsed Global)) × (xs ≡ map Ok ys) × (v.items ≡ ys)) (λ e. Contains xs (Err e))
    → IfOk r (λ rows. ArePiecesParsed cs rows.items)
gathered cs xs (Ok v) h (ys, made, same) = rw same (rows_made cs ys (subst (λ l. AllZip row_of cs l) made h))
gathered cs xs (Err e) h m = tt

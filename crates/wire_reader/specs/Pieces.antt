-- A file in pieces, and what its lines say by themselves: for the contracts of private functions.
use Rattle.std.specs.Prelude.{◌≡◌, ◌⊎◌, ◌+◌, ◌<◌, ◌^◌, ℕ, List, [], ◌∷◌, ◌++◌, length, Option, Some, None, Vec}
use Rattle.std.specs.List.{AllZip}
use Rattle.std.specs.declared.alloc.Global.{Global}
use Rattle.wire_lines.specs.Said.{Said, Says}
use Rattle.wire_lines.specs.Views.{said_by}
use Rattle.wire_lines.specs.declared.line.Line.{Line}
use Rattle.wire_reader.specs.Statements.{Statement}
use Rattle.wire_reader.specs.Left.{statements_left}
use Rattle.wire_reader.specs.declared.lines.Cursor.{Cursor}
use Rattle.wire_reader.specs.declared.pieces.Parsed.{Parsed}

-- the lines that are left can be numbered
abbrev pub HasRoom : Cursor → Type 0
HasRoom c = c.line + length c.rest.now < 2 ^ 64

-- the words say this line, or are no line of a plan
abbrev pub IsSaid : List (List ℕ) → Option Line → Type 0
IsSaid words (Some line) = Says words (said_by line)
IsSaid words None = (said : Said) → Says words said → ⊥

-- a statement, and what it says under its number
abbrev pub IsParsed : Statement → Parsed → Type 0
IsParsed s p = (p.number ≡ s.0) × IsSaid s.1 p.said

-- statements in their order, and what they say; what stands behind one that is no line of a plan may be left out
abbrev pub AreParsed : List Statement → List Parsed → Type 0
AreParsed [] [] = Unit {0}
AreParsed [] (p ∷ ps) = ⊥
AreParsed (s ∷ ss) [] = ⊥
AreParsed (s ∷ ss) (p ∷ ps) = IsParsed s p × (((p.said ≡ None) × (ps ≡ [])) ⊎ AreParsed ss ps)

-- what pieces state, one after the other
abbrev pub all_left : List Cursor → List Statement
all_left [] = []
all_left (c ∷ cs) = statements_left c ++ all_left cs

-- each piece, and what its lines say
abbrev pub ArePiecesParsed : List Cursor → List (Vec Parsed Global) → Type 0
ArePiecesParsed cursors rows = AllZip (λ c row. AreParsed (statements_left c) row.items) cursors rows

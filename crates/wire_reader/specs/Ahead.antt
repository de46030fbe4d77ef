-- Lines that are read before those above them are declared: for the contracts of private functions.
use Rattle.std.specs.Prelude.{◌≡◌, ◌⊎◌, ◌<◌, List, ◌++◌, length, Result, Ok, Err, Vec}
use Rattle.std.specs.declared.alloc.Global.{Global}
use Rattle.wire_types.specs.declared.Fault.{Fault}
use Rattle.wire_reader.specs.Statements.{Statement}
use Rattle.wire_reader.specs.Left.{statements_left}
use Rattle.wire_reader.specs.FirstPass.{Declared, JudgesAll}
use Rattle.wire_reader.specs.Drafted.{declared_of}
use Rattle.wire_reader.specs.Pieces.{HasRoom, ArePiecesParsed, all_left}
use Rattle.wire_reader.specs.declared.lines.Cursor.{Cursor}
use Rattle.wire_reader.specs.declared.pieces.Parsed.{Parsed}
use Rattle.wire_reader.specs.declared.draft.Draft.{Draft}
use Rattle.wire_reader.specs.declared.shared_pass.Reading.{Reading}
use Rattle.wire_reader.specs.declared.shared_pass.Progress.{Progress}

-- some lines are read, and the others are left behind them
pub record IsReadAhead (all : Cursor) (rows : List (Vec Parsed Global)) (left : Cursor) : Type 0 where
  pub pieces : List Cursor
  pub read : ArePiecesParsed pieces rows
  pub together : all_left pieces ++ statements_left left ≡ statements_left all
  pub room : HasRoom left
  pub shorter : length left.rest.now < length all.rest.now

-- what a draft and the lines read behind it declare, or the first fault of these lines
abbrev pub Declares : Reading → Result Draft Fault → Type 0
Declares reading (Ok draft) = (pieces : List Cursor) → ArePiecesParsed pieces reading.rows.items → JudgesAll (declared_of reading.draft) (all_left pieces) (Ok (declared_of draft))
Declares reading (Err fault) = (fault ≡ Fault.Memory) ⊎ ((pieces : List Cursor) → ArePiecesParsed pieces reading.rows.items → JudgesAll (declared_of reading.draft) (all_left pieces) (Err fault))

-- what comes of judging the lines that are read and those that are left, behind the draft, comes of judging all lines
pub record IsProgress (start : Declared) (lines : List Statement) (p : Progress) : Type 0 where
  pub pieces : List Cursor
  pub read : ArePiecesParsed pieces p.reading.rows.items
  pub so_far : (judged : Result Declared Fault) → JudgesAll (declared_of p.reading.draft) (all_left pieces ++ statements_left p.left) judged → JudgesAll start lines judged

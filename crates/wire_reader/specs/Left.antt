-- What a cursor still has before it.
use Rattle.std.specs.Prelude.{ℕ, ◌+◌, List, length}
use Rattle.wire_types.specs.Texts.{texts_of}
use Rattle.wire_lines.specs.Text.{lines_of}
use Rattle.wire_reader.specs.Statements.{Statement, statements_from}
use Rattle.wire_reader.specs.declared.lines.Cursor.{Cursor}
use Rattle.wire_reader.specs.declared.lines.Statement.{Statement as Shown}

abbrev pub statements_left : Cursor → List Statement
statements_left c = statements_from c.line (lines_of c.rest.now)

-- the number of the first line past the end
abbrev pub end_of : Cursor → ℕ
end_of c = c.line + length (lines_of c.rest.now)

-- what a line of the code states
abbrev pub stated : Shown → Statement
stated l = (l.number, texts_of l.words.items)

use Rattle.std.proofs.Common.{map}
use Rattle.wire_command.proofs.Came.{scripts_err, no_read_of_file}
use Rattle.wire_command.proofs.Placed.{placed_ok}
use Rattle.wire_command.proofs.reading.read_placed.Goals as goal

pub returns-clause-ok : goal.returns-clause-ok
returns-clause-ok g c =
    placed_ok c.args.size (g.R.Source.coming c.args.reader.now) c.in_ok-bytes.bytes.items c.as_slice.result.now (λ v. map (λ row. row.items) v.items) c.parse_located.result c.as_slice.ensures.value
    (rw c.file_bytes.ensures at c.in_ok-bytes.ensures.front) c.parse_located.ensures.ok c.parse_located.ensures.lines

pub returns-clause-err : goal.returns-clause-err
returns-clause-err g c =
    scripts_err c.args.size (g.R.Source.coming c.args.reader.now) c.in_ok-bytes.bytes.items c.as_slice.result.now c.parse_located.result c.as_slice.ensures.value
    (rw c.file_bytes.ensures at c.in_ok-bytes.ensures.front) c.parse_located.ensures.err

pub returns-clause-read : goal.returns-clause-read
returns-clause-read g c is = absurd (no_read_of_file c.args.size c.as_slice.result.now c.parse_located.result c.parse_located.ensures.err is)

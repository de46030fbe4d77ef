use Rattle.wire_command.proofs.Came.{scripts_ok, scripts_err, no_read_of_file}
use Rattle.wire_command.proofs.reading.read_scripts.Goals as goal

pub returns-clause-ok : goal.returns-clause-ok
returns-clause-ok g c =
    scripts_ok c.args.size (g.R.Source.coming c.args.reader.now) c.in_ok-bytes.bytes.items c.as_slice.result.now c.parse.result c.as_slice.ensures.value
    (rw c.file_bytes.ensures at c.in_ok-bytes.ensures.front) c.parse.ensures.ok

pub returns-clause-err : goal.returns-clause-err
returns-clause-err g c =
    scripts_err c.args.size (g.R.Source.coming c.args.reader.now) c.in_ok-bytes.bytes.items c.as_slice.result.now c.parse.result c.as_slice.ensures.value
    (rw c.file_bytes.ensures at c.in_ok-bytes.ensures.front) c.parse.ensures.err

pub returns-clause-read : goal.returns-clause-read
returns-clause-read g c is = absurd (no_read_of_file c.args.size c.as_slice.result.now c.parse.result c.parse.ensures.err is)

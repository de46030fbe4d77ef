use Rattle.std.proofs.Common.{Err}
use Rattle.wire_command.proofs.Came.{no_read_of_file}
use Rattle.wire_portable_commands.proofs.SpellingCame.{fault_came, read_came, spelling_came}
use Rattle.wire_portable_commands.proofs.reading.read_spelled.Goals as goal

pub returns-in-Ok-clause-ok : goal.returns-in-Ok-clause-ok
returns-in-Ok-clause-ok g c =
    read_came c.args.manner.form (g.R.Source.coming c.args.reader.now) c.in_ok-bytes.bytes.items c.as_slice-2.result.now c.in-Ok.read.0 _ c.as_slice-2.ensures.value
    (rw c.file_bytes.ensures at c.in_ok-bytes.ensures.front) c.in-Ok.ensures.ok c.in-Ok.ensures.lines

pub returns-in-Ok-clause-spelled : goal.returns-in-Ok-clause-spelled
returns-in-Ok-clause-spelled g c =
    spelling_came (g.R.Source.coming c.args.reader.now) c.in_ok-bytes.bytes.items c.as_slice-2.result.now c.as_slice.result.now c.in-Ok.read.0 _ c.as_slice-2.ensures.value
    c.as_slice.ensures.value (rw c.file_bytes.ensures at c.in_ok-bytes.ensures.front) c.in-Ok.ensures.ok c.in_ok-spelling.ensures.ok

pub returns-clause-err : goal.returns-clause-err
returns-clause-err g c =
    fault_came (g.R.Source.coming c.args.reader.now) c.in_ok-bytes.bytes.items c.as_slice-2.result.now c.in-Err.fault c.as_slice-2.ensures.value
    (rw c.file_bytes.ensures at c.in_ok-bytes.ensures.front) c.in-Err.ensures.err

pub returns-clause-read : goal.returns-clause-read
returns-clause-read g c is = absurd (no_read_of_file c.args.manner.size c.as_slice-2.result.now (Err c.in-Err.fault) c.in-Err.ensures.err is)

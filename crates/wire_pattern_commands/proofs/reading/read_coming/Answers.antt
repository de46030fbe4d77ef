use Rattle.wire_pattern_commands.proofs.PatternCame.{pattern_ok, pattern_err, no_read_of_pattern}
use Rattle.wire_pattern_commands.proofs.reading.read_coming.Goals as goal

pub returns-clause-ok : goal.returns-clause-ok
returns-clause-ok g c =
    pattern_ok (g.R.Source.coming c.args.reader.now) c.in_ok-bytes.bytes.items c.as_slice.result.now c.read_pattern.result c.as_slice.ensures.value
    (rw c.file_bytes.ensures at c.in_ok-bytes.ensures.front) c.read_pattern.ensures.ok

pub returns-clause-err : goal.returns-clause-err
returns-clause-err g c =
    pattern_err (g.R.Source.coming c.args.reader.now) c.in_ok-bytes.bytes.items c.as_slice.result.now c.read_pattern.result c.as_slice.ensures.value
    (rw c.file_bytes.ensures at c.in_ok-bytes.ensures.front) c.read_pattern.ensures.err

pub returns-clause-read : goal.returns-clause-read
returns-clause-read g c is = absurd (no_read_of_pattern c.as_slice.result.now c.read_pattern.result c.read_pattern.ensures.err is)

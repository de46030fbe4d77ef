use Rattle.std.proofs.Common.{rules}
use Rattle.wire_report.proofs.Room.{FitsWords, holds_any}
use Rattle.wire_report.proofs.streaming.room_for_lines.Goals as goal

pub returns-in-Some-checked_mul-clause-holds : goal.returns-in-Some-checked_mul-clause-holds
returns-in-Some-checked_mul-clause-holds c =
    let fits : FitsWords c.args.scripts.now c.in-Some-checked_add.room = search rules in
    holds_any c.args.scripts.now c.in-Some-checked_add.room fits

use Rattle.std.proofs.Common.{◌++◌, length, vec_capacity, refl, arith, length-append}
use Rattle.std.proofs.lemmas.Result.{IfErr-weaker}
use Rattle.std.specs.List.{flat_map}
use Rattle.wire_words.specs.Chunks.{IsOnItsWay}
use Rattle.wire_report.specs.Findings.{finding_line, count_line}
use Rattle.wire_report.proofs.Room.{count_short}
use Rattle.wire_report.proofs.Streams.{has_room, more_waits, counts, still_counted, all_sent, all_counted, breaks_within}
use Rattle.wire_report.proofs.streaming.write_chunks.Goals as goal

pub unwrap-requires : goal.unwrap-requires
unwrap-requires g c =
    has_room c.push_count.result (vec_capacity c.make_room.new.self.waiting) (length c.make_room.new.self.waiting.items) (length (count_line (length c.args.lines.findings.now))) c.args.lines.room
    (rw c.len.ensures at c.push_count.ensures.full) c.in_default-make_room.ensures.room
    (count_short c.args.lines.scripts.now c.args.lines.room (length c.args.lines.findings.now) c.requires.lines c.requires.counted)

pub flush-requires : goal.flush-requires
flush-requires g c =
    let lines = flat_map (finding_line c.args.lines.scripts.now) c.args.lines.findings.now in
    let last = count_line (length c.args.lines.findings.now) in
    let way : IsOnItsWay (g.S.Sink.written c.args.sink.now) (g.S.Sink.written c.make_room.new.sink) (record { waiting = c.push_count.new.out; gone = c.make_room.new.self.gone }) (lines ++ last) =
    more_waits _ _ c.make_room.new.self _ lines last (c.in_default-make_room.ensures.ok _ _ c.in_default.ensures.ok) refl (rw (c.unwrap.ensures, c.len.ensures) at c.push_count.ensures.ok) in
    let fits = still_counted c.args.lines.room (length c.args.lines.findings.now) (length lines) (length last) c.requires.counted c.in_default.ensures.short
    (count_short c.args.lines.scripts.now c.args.lines.room (length c.args.lines.findings.now) c.requires.lines c.requires.counted) in
    omega (arith, fits, counts _ _ _ _ way, length-append lines last)

pub returns-clause-ok : goal.returns-clause-ok
returns-clause-ok g c =
    let lines = flat_map (finding_line c.args.lines.scripts.now) c.args.lines.findings.now in
    let last = count_line (length c.args.lines.findings.now) in
    let way : IsOnItsWay (g.S.Sink.written c.args.sink.now) (g.S.Sink.written c.make_room.new.sink) (record { waiting = c.push_count.new.out; gone = c.make_room.new.self.gone }) (lines ++ last) =
    more_waits _ _ c.make_room.new.self _ lines last (c.in_default-make_room.ensures.ok _ _ c.in_default.ensures.ok) refl (rw (c.unwrap.ensures, c.len.ensures) at c.push_count.ensures.ok) in
    all_sent c.flush.result _ _ _ _ c.flush.new.self (lines ++ last) way c.flush.ensures.ok c.flush.ensures.nothing

pub make_room-requires-clause-counted : goal.make_room-requires-clause-counted
make_room-requires-clause-counted g c =
    all_counted _ _ _ _ c.args.lines.room (length c.args.lines.findings.now) c.in_default.ensures.ok c.requires.counted c.in_default.ensures.short

pub returns-in-Err-clause-err : goal.returns-in-Err-clause-err
returns-in-Err-clause-err g c =
    breaks_within _ _ (flat_map (finding_line c.args.lines.scripts.now) c.args.lines.findings.now) (count_line (length c.args.lines.findings.now)) c.in-Err.n c.in-Err.ensures.err

pub returns-in-Err-make_room-clause-err : goal.returns-in-Err-make_room-clause-err
returns-in-Err-make_room-clause-err g c =
    breaks_within _ _ (flat_map (finding_line c.args.lines.scripts.now) c.args.lines.findings.now) (count_line (length c.args.lines.findings.now)) c.in-Err-make_room.n
    (c.in-Err-make_room.ensures.err _ _ c.in_default.ensures.ok)

pub returns-clause-err : goal.returns-clause-err
returns-clause-err g c =
    let lines = flat_map (finding_line c.args.lines.scripts.now) c.args.lines.findings.now in
    let last = count_line (length c.args.lines.findings.now) in
    let way : IsOnItsWay (g.S.Sink.written c.args.sink.now) (g.S.Sink.written c.make_room.new.sink) (record { waiting = c.push_count.new.out; gone = c.make_room.new.self.gone }) (lines ++ last) =
    more_waits _ _ c.make_room.new.self _ lines last (c.in_default-make_room.ensures.ok _ _ c.in_default.ensures.ok) refl (rw (c.unwrap.ensures, c.len.ensures) at c.push_count.ensures.ok) in
    IfErr-weaker c.flush.result _ _ (λ n cut. cut _ _ way) c.flush.ensures.err

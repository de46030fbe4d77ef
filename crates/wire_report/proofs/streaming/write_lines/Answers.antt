use Rattle.std.proofs.Common.{◌≡◌, ◌∙◌, ◌++◌, Some, length, slice_get, take, ◌+◌, refl, sym, ap, subst, inl, inr, arith, length-append}
use Rattle.std.proofs.lemmas.Option.{slice_get_cases}
use Rattle.std.specs.List.{flat_map}
use Rattle.wire_types.specs.Counting.{one_more}
use Rattle.wire_words.specs.Chunks.{IsOnItsWay}
use Rattle.wire_words.specs.declared.Chunk.{Chunk}
use Rattle.wire_report.specs.Findings.{finding_line}
use Rattle.wire_report.specs.FindingLines.{AreWordsOf}
use Rattle.wire_report.proofs.Streams.{starts, nothing_yet, more_waits, breaks_early, one_more_line, one_more_short, counted_so_far, all_lines_of, all_short}
use Rattle.wire_report.proofs.streaming.write_lines.Goals as goal

pub returns-in-Err-clause-err : goal.returns-in-Err-clause-err
returns-in-Err-clause-err g c =
    breaks_early _ _ (finding_line c.args.lines.scripts.now) c.args.lines.findings.now c.loop-number.number c.in-Err.n (c.in-Err.ensures.err _ _ c.loop-number.invariant.way)

pub loop-number-preserved : goal.loop-number-preserved
loop-number-preserved g c =
    let line = finding_line c.args.lines.scripts.now in
    let before = flat_map line (take c.loop-number.number c.args.lines.findings.now) in
    let there : slice_get c.args.lines.findings.now c.loop-number.number ≡ Some c.in-Some.finding = sym c.get.ensures ∙ c.in-Some.is in
    let more = one_more_line line c.args.lines.findings.now c.loop-number.number c.in-Some.finding there in
    let after : Chunk = record { waiting = c.write_line.new.out; gone = c.make_room.new.self.gone } in
    let way : IsOnItsWay (g.S.Sink.written c.args.sink.now) (g.S.Sink.written c.make_room.new.sink) after (before ++ line c.in-Some.finding) =
    more_waits _ _ c.make_room.new.self after before (line c.in-Some.finding) (c.in_default-make_room.ensures.ok _ _ c.loop-number.invariant.way) refl c.write_line.ensures.appended in
    let short = one_more_short c.args.lines.room c.loop-number.number (length before) (length (line c.in-Some.finding)) c.loop-number.invariant.short c.write_line.ensures.short in
    let lengths : length (flat_map line (take (c.loop-number.number + 1) c.args.lines.findings.now)) ≡ length (before ++ line c.in-Some.finding) = ap length more in
    record {
      way = subst (λ text. IsOnItsWay (g.S.Sink.written c.args.sink.now) (g.S.Sink.written c.make_room.new.sink) after text) (sym more) way;
      short = omega (arith, short, length-append before (line c.in-Some.finding), lengths);
      room = omega (arith, c.loop-number.invariant.room, c.make_room.ensures.capacity, c.write_line.ensures.capacity);
      told = c.write_line.ensures.told.0;
      told_room = c.write_line.ensures.told.1;
      quiet = c.in_default-make_room.ensures.quiet ∙ c.loop-number.invariant.quiet;
    }

pub loop-number-init : goal.loop-number-init
loop-number-init g c = record {
  way = starts _ _ (nothing_yet _) c.requires.nothing.0 c.requires.nothing.1;
  short = omega arith;
  room = c.requires.room;
  told = subst (λ call. AreWordsOf c.args.lines.scripts.now call c.args.told.now.words.items) (sym c.requires.told.0) tt;
  told_room = c.requires.told.1;
  quiet = refl;
}

pub make_room-requires-clause-fits : goal.make_room-requires-clause-fits
make_room-requires-clause-fits g c = c.loop-number.invariant.room

pub make_room-requires-clause-counted : goal.make_room-requires-clause-counted
make_room-requires-clause-counted g c =
    counted_so_far _ _ _ _ c.args.lines.room (length c.args.lines.findings.now) c.loop-number.number c.loop-number.invariant.way c.requires.counted c.loop-number.invariant.short
    (omega (arith, c.loop-number-test.true, c.len-number-end.ensures))

pub write_line-requires-clause-room : goal.write_line-requires-clause-room
write_line-requires-clause-room g c = c.in_default-make_room.ensures.room

pub write_line-requires-clause-told : goal.write_line-requires-clause-told
write_line-requires-clause-told g c = (c.loop-number.invariant.told, c.loop-number.invariant.told_room)

pub returns-clause-ok : goal.returns-clause-ok
returns-clause-ok g c =
    subst (λ text. IsOnItsWay (g.S.Sink.written c.args.sink.now) (g.S.Sink.written c.loop-number.sink) c.loop-number.chunk text)
    (all_lines_of (finding_line c.args.lines.scripts.now) c.args.lines.findings.now c.loop-number.number (omega (arith, c.loop-number-test.false, c.len-number-end.ensures)))
    c.loop-number.invariant.way

pub returns-clause-short : goal.returns-clause-short
returns-clause-short g c =
    all_short (finding_line c.args.lines.scripts.now) c.args.lines.findings.now c.args.lines.room c.loop-number.number (omega (arith, c.loop-number-test.false, c.len-number-end.ensures))
    (omega (arith, c.loop-number.auto.number-end, c.len-number-end.ensures)) c.loop-number.invariant.short

pub returns-clause-room : goal.returns-clause-room
returns-clause-room g c = c.loop-number.invariant.room

pub returns-in-Err-clause-room : goal.returns-in-Err-clause-room
returns-in-Err-clause-room g c = omega (arith, c.loop-number.invariant.room, c.in-Err.ensures.capacity)

pub returns-in-Err-clause-failed : goal.returns-in-Err-clause-failed
returns-in-Err-clause-failed g c = c.in-Err.ensures.failed ∙ ap one_more c.loop-number.invariant.quiet

pub unreachable-requires : goal.unreachable-requires
unreachable-requires g c = elim (slice_get_cases c.args.lines.findings.now c.loop-number.number).1 [
  | inl there ↦ c.in_default.not-Some there.0 (c.get.ensures ∙ there.2)
  | inr past ↦ omega (arith, past.0, c.loop-number-test.true, c.len-number-end.ensures)
]

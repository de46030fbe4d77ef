use Rattle.std.proofs.Common.{refl, inl}
use Rattle.wire_report.proofs.streaming.write_findings.Goals as goal

pub write_chunks-requires-clause-nothing : goal.write_chunks-requires-clause-nothing
write_chunks-requires-clause-nothing g c = c.in_ok-chunk.ensures.nothing

pub write_chunks-requires-clause-told : goal.write_chunks-requires-clause-told
write_chunks-requires-clause-told g c = (c.in_ok-told.ensures.none, c.in_ok-told.ensures.room)

pub write_chunks-requires-clause-lines : goal.write_chunks-requires-clause-lines
write_chunks-requires-clause-lines g c = c.in-Some.ensures.holds

pub write_chunks-requires-clause-counted : goal.write_chunks-requires-clause-counted
write_chunks-requires-clause-counted g c = rw c.len.ensures at c.in-Some.ensures.counted

pub returns-in_default : goal.returns-in_default
returns-in_default g c = record { ok = tt; quiet = tt; memory = λ e. refl; err = inl refl; failed = λ other. absurd (other refl) }

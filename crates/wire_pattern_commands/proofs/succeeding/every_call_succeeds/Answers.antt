use Rattle.wire_pattern_commands.proofs.Succeeded.{fails_apart, succeed_apart, all_succeed_too}
use Rattle.wire_pattern_commands.proofs.succeeding.every_call_succeeds.Goals as goal

pub returns-then-waiting-clause-ok : goal.returns-then-waiting-clause-ok
returns-then-waiting-clause-ok c = fails_apart c.args.pattern.now (c.requires.failing.0 c.if-waiting.true)

pub returns-then-not-waiting-clause-ok : goal.returns-then-not-waiting-clause-ok
returns-then-not-waiting-clause-ok c =
    all_succeed_too c.args.pattern.now c.args.waiting.now.remote c.note_sound.ensures c.instances_read.ensures c.succeed_together.ensures c.requires.settled c.requires.few
    c.requires.read (succeed_apart c.args.pattern.now c.args.waiting.now.failing c.requires.failing c.if-waiting.false) c.requires.remote c.if-not-waiting.true

pub all_succeed_together-requires-clause-apart : goal.all_succeed_together-requires-clause-apart
all_succeed_together-requires-clause-apart c = succeed_apart c.args.pattern.now c.args.waiting.now.failing c.requires.failing c.if-waiting.false

use Rattle.std.proofs.Common.{◌∙◌, ◌==◌, ◌||◌, inl, inr, sym, ap, length}
use Rattle.wire_pattern_commands.proofs.Exactly.{suffices, either_known}
use Rattle.wire_pattern_commands.proofs.exact.are_exact.Goals as goal

pub returns-clause-suffices : goal.returns-clause-suffices
returns-clause-suffices c = λ exact.
    suffices c.args.pattern.now c.note_sound.ensures c.requires.settled c.requires.few c.requires.read c.answers_of_small.ensures
    c.args.waiting.now.lines.items c.as_slice.result.now c.is_empty.result c.args.waiting.now.for_one c.replied_stand_for_one.ensures c.as_slice.ensures.value
    c.requires.replied c.requires.for_one.0 c.is_empty.ensures (sym c.either.ensures ∙ exact)

pub returns-clause-known : goal.returns-clause-known
returns-clause-known c = λ one.
    c.either.ensures
    ∙ either_known c.args.pattern.now c.args.waiting.now.lines.items c.as_slice.result.now c.is_empty.result c.args.waiting.now.for_one
    c.as_slice.ensures.value c.is_empty.ensures c.requires.for_one.1 one

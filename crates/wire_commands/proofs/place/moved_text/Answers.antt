use Rattle.wire_commands.proofs.Moved.{all_placed}
use Rattle.wire_commands.proofs.place.moved_text.Goals as goal

pub returns-in-Ok-clause-ok : goal.returns-in-Ok-clause-ok
returns-in-Ok-clause-ok c =
    all_placed c.args.scripts c.args.word.now c.in-Ok.ranks.items c.as_slice.result.now c.text_with.result c.as_slice.ensures.value c.in-Ok.ensures.ok
    c.text_with.ensures.ok

use Rattle.std.proofs.Common.{refl, None}
use Rattle.std.proofs.lemmas.Slice.Zip.{either_empty_from_Zip}
use Rattle.wire_json.proofs.Left.{no_tried}
use Rattle.wire_json.proofs.witnesses.tried_trees.Goals as goal

pub returns : goal.returns
returns c =
    let h = rw c.in-None.is at c.next.ensures.steps in
    let ended = either_empty_from_Zip c.loop-words.words-iterator c.next.new.self None refl h in
    no_tried c.args.scripts.now (λ words. words.items) _ _ _ _ ended c.loop-words.invariant

use Rattle.wire_explain.proofs.Explanations.{worded}
use Rattle.wire_explain.proofs.order_faults.explained_word.Goals as goal

pub returns : goal.returns
returns c =
    worded c.args.what.now c.args.number c.args.word.now c.args.wanted.now c.as_bytes.result.now c.new-explanation.result.items c.push_word.new.out.items
    c.push_labelled.new.out.items c.new-explanation.ensures.items c.in_ok-push_word.ensures c.in_ok-push_labelled.ensures c.as_bytes.ensures.value

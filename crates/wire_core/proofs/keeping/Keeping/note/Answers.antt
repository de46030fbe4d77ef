use Rattle.std.proofs.Common.{◌∙◌, ap, sym}
use Rattle.wire_core.specs.Keeping.{count_in, count_after}
use Rattle.wire_core.proofs.keeping.Keeping.note.Goals as goal

pub returns-in-Some-clause-counts : goal.returns-in-Some-clause-counts
returns-in-Some-clause-counts c = λ p key node.
    (rw c.unwrap.ensures at c.insert-inserted.ensures.updates).0 (p, key, node)
    ∙ ap (λ o. count_after o p key node (count_in c.args.self.now p key node)) (sym c.in-Some.is)

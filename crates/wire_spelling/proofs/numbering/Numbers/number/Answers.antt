use Rattle.std.proofs.Common.{subst, map}
use Rattle.wire_spelling.specs.Numbering.{KeepsSets}
use Rattle.wire_spelling.proofs.NumberTable.{apart, keeps_inserted, stored_at, view}
use Rattle.wire_spelling.proofs.numbering.Numbers.number.Goals as goal

pub invariant_of-self-2 : goal.invariant_of-self-2
invariant_of-self-2 c = apart _ c.in_ok-added.ensures.unique

pub returns-clause-there : goal.returns-clause-there
returns-clause-there c =
    let stored = c.in_ok-added.ensures.stored in
    stored_at _ c.in_ok-added.added.0 stored.0 c.args.items stored.1 stored.2

pub returns-clause-kept : goal.returns-clause-kept
returns-clause-kept c = subst (λ old. KeepsSets old (map view c.insert_full.new.self.keys)) c.self.view_is (keeps_inserted c.self.inside.table.keys c.insert_full.new.self.keys c.args.items c.in_ok-added.ensures.keys)

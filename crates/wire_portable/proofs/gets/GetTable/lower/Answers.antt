use Rattle.wire_portable.specs.declared.gets.GetTable.{GetTable}
use Rattle.wire_portable.proofs.OpenGets.{lowered}
use Rattle.wire_portable.proofs.gets.GetTable.lower.Goals as goal

pub returns-in_ok-insert-clause-less : goal.returns-in_ok-insert-clause-less
returns-in_ok-insert-clause-less c = λ other.
    let new : GetTable = record { lists = c.args.self.now.lists; firsts = c.insert.new.self; lasts = c.args.self.now.lasts; phases = c.args.self.now.phases; together = c.args.self.now.together } in
    lowered c.args.listed other c.args.at c.args.self.now new (rw c.first.ensures at c.if-at-first.true) c.in_ok-insert.ensures.updates.0

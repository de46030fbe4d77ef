use Rattle.wire_fence.proofs.Keyed.{keyed_row, row_called}
use Rattle.wire_fence.proofs.register.Register.call_row.Goals as goal

pub returns-clause-keyed : goal.returns-clause-keyed
returns-clause-keyed c =
    keyed_row c.args.self.now.rows.items c.args.self.now.keys.keys c.args.number c.args.collect c.index-row.result.now c.with_call.result c.requires.keyed c.requires.there
    c.index-row.ensures c.with_call.ensures

pub returns-clause-called : goal.returns-clause-called
returns-clause-called c = λ k nth members has.
    row_called c.args.self.now.rows.items k nth members c.args.number c.args.collect c.index-row.result.now c.with_call.result has c.index-row.ensures c.with_call.ensures

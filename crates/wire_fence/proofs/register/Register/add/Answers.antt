use Rattle.std.proofs.lemmas.Option.{slice_get_within}
use Rattle.wire_fence.proofs.register.Register.add.Goals as goal

pub call_row-requires-clause-there : goal.call_row-requires-clause-there
call_row-requires-clause-there c =
    let has = c.is_row.ensures.0 c.if-is_row.true in
    slice_get_within c.args.self.now.rows.items c.args.self.now.next has.row has.there

pub returns-then-is_row-clause-called : goal.returns-then-is_row-clause-called
returns-then-is_row-clause-called c = c.call_row.ensures.called c.args.set c.args.nth c.args.members (c.is_row.ensures.0 c.if-is_row.true)

use Rattle.wire_fence.proofs.Keyed.{first_call, call_again, keyed_again}
use Rattle.wire_fence.proofs.register.Register.add_by_key.Goals as goal

pub returns-in_ok-push-clause-called : goal.returns-in_ok-push-clause-called
returns-in_ok-push-clause-called c =
    first_call c.args.self.now.rows.items c.push.new.self.items c.args.self.now.keys.keys c.args.set c.args.nth c.args.members c.in_ok-number.number c.args.collect c.in_ok-number.is_new
    c.with_call.result
    c.requires c.in_ok-number.ensures.added c.if-is_new.true c.in_ok-number.ensures.index c.in_ok-push.ensures.items c.with_call.ensures

pub returns-else-is_new-clause-called : goal.returns-else-is_new-clause-called
returns-else-is_new-clause-called c =
    call_again c.args.self.now.rows.items c.insert_full.new.self.keys c.args.self.now.keys.keys c.args.set c.args.nth c.args.members c.in_ok-number.number c.args.collect c.in_ok-number.is_new
    c.index-row.result.now c.with_call-else-is_new.result
    c.requires c.in_ok-number.ensures.added c.if-is_new.false c.in_ok-number.ensures.keys c.in_ok-number.ensures.stored c.index-row.ensures c.with_call-else-is_new.ensures

pub returns-else-is_new-clause-keyed : goal.returns-else-is_new-clause-keyed
returns-else-is_new-clause-keyed c =
    keyed_again c.args.self.now.rows.items c.insert_full.new.self.keys c.args.self.now.keys.keys c.args.set c.args.nth c.in_ok-number.number c.args.collect c.in_ok-number.is_new c.index-row.result.now
    c.with_call-else-is_new.result
    c.requires c.in_ok-number.ensures.added c.if-is_new.false c.in_ok-number.ensures.keys c.in_ok-number.ensures.stored c.index-row.ensures c.with_call-else-is_new.ensures

use Rattle.std.proofs.Common.{◌∙◌, option_map, nat_eq, ap, sym, arith}
use Rattle.std.specs.HashMap.{get}
use Rattle.wire_store.proofs.Found.{newest_within, own_put_in, own_nothing}
use Rattle.wire_store.proofs.Told.{own_told}
use Rattle.wire_store.proofs.store.RankStore.own.Goals as goal

pub index-requires : goal.index-requires
index-requires c =
    let within = newest_within c.self.inside.slots.items c.self.inside.committed (get nat_eq c.self.inside.newest) c.args.key c.in-Some.i.now c.self.invariant.0 c.in-Some.ensures.value in
    let len = c.self.inside.slots.ok.0 in
    omega (arith, within, len)

pub returns-in-Some-clause-kept : goal.returns-in-Some-clause-kept
returns-in-Some-clause-kept c =
    rw (← c.self.view_is)
    (sym (ap (option_map (λ put. put.call)) (own_put_in c.self.inside.slots.items c.self.inside.committed (get nat_eq c.self.inside.newest) c.args.key c.in-Some.i.now c.index.result.now
    c.self.invariant.0 c.in-Some.ensures.value c.index.ensures)))

pub returns-in-None-clause-kept : goal.returns-in-None-clause-kept
returns-in-None-clause-kept c =
    rw (← c.self.view_is)
    (sym (ap (option_map (λ put. put.call)) (own_nothing c.self.inside.slots.items c.self.inside.committed (get nat_eq c.self.inside.newest) c.args.key c.self.invariant.0 c.in-None.ensures.value)))

pub returns-in-Some-clause-told : goal.returns-in-Some-clause-told
returns-in-Some-clause-told c = λ kind_of call_of n told. returns-in-Some-clause-kept c ∙ own_told kind_of call_of c.args.key n c.args.self.now told

pub returns-in-None-clause-told : goal.returns-in-None-clause-told
returns-in-None-clause-told c = λ kind_of call_of n told. returns-in-None-clause-kept c ∙ own_told kind_of call_of c.args.key n c.args.self.now told

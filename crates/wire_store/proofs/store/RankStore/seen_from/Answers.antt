use Rattle.std.proofs.Common.{◌∙◌, length, nat_eq, ap, sym, arith}
use Rattle.std.specs.HashMap.{get}
use Rattle.wire_store.specs.Kept.{Kept, last_stored, seen}
use Rattle.wire_store.specs.Slots.{put_at}
use Rattle.wire_store.proofs.Found.{newest_within, last_is, stored_within, last_stored_in}
use Rattle.wire_store.proofs.Told.{seen_told}
use Rattle.wire_store.proofs.store.RankStore.seen_from.Goals as goal

pub last_stored-last-requires-clause-there : goal.last_stored-last-requires-clause-there
last_stored-last-requires-clause-there c = λ x is.
    let within = newest_within c.self.inside.slots.items c.self.inside.committed (get nat_eq c.self.inside.newest) c.args.key x c.self.invariant.0
    (sym is ∙ c.copied-newest.ensures ∙ c.get.ensures.value) in
    let same = ap length c.deref.ensures.value in
    omega (arith, within, same)

pub show_slot-requires : goal.show_slot-requires
show_slot-requires c = λ x is.
    let last = last_is c.self.inside.slots.items c.deref.result.now c.args.key c.self.inside.committed c.copied-newest.result c.last_stored-last.result (get nat_eq c.self.inside.newest)
    c.deref.ensures.value c.self.invariant.0
    (c.copied-newest.ensures ∙ c.get.ensures.value) c.last_stored-last.ensures
    in
    let within = stored_within c.self.inside.slots.items c.self.inside.committed (get nat_eq c.self.inside.newest) c.args.key x c.self.invariant.0 (sym is ∙ last) in
    let same = ap length c.deref-2.ensures.value in
    omega (arith, within, same)

pub returns-clause-kept : goal.returns-clause-kept
returns-clause-kept c =
    let last = last_is c.self.inside.slots.items c.deref.result.now c.args.key c.self.inside.committed c.copied-newest.result c.last_stored-last.result (get nat_eq c.self.inside.newest)
    c.deref.ensures.value c.self.invariant.0
    (c.copied-newest.ensures ∙ c.get.ensures.value) c.last_stored-last.ensures
    in
    c.show_slot.ensures
    ∙ ap (λ slots. seen c.args.same_node (put_at slots c.last_stored-last.result)) c.deref-2.ensures.value
    ∙ ap (λ number. seen c.args.same_node (put_at c.self.inside.slots.items number)) last
    ∙ ap (seen c.args.same_node) (sym (last_stored_in c.self.inside.slots.items c.args.key c.self.inside.committed c.self.invariant.0.stored c.self.invariant.0.within))
    ∙ ap (λ (k : Kept). seen c.args.same_node (last_stored c.args.key k.puts)) c.self.view_is

pub returns-clause-told : goal.returns-clause-told
returns-clause-told c = λ kind_of call_of n told. returns-clause-kept c ∙ seen_told kind_of call_of c.args.key n c.args.same_node c.args.self.now told

use Rattle.std.proofs.Common.{◌∙◌, length, nat_eq, false, ap, sym, arith}
use Rattle.std.specs.HashMap.{get}
use Rattle.wire_store.specs.Kept.{Kept, last_stored_before, seen}
use Rattle.wire_store.specs.Slots.{put_at}
use Rattle.wire_store.proofs.Found.{newest_within, last_is, stored_within}
use Rattle.wire_store.proofs.Chained.{found_stored, found_in_part}
use Rattle.wire_store.proofs.Told.{before_told}
use Rattle.wire_store.proofs.store.RankStore.as_of.Goals as goal

pub last_stored-stored-requires-clause-there : goal.last_stored-stored-requires-clause-there
last_stored-stored-requires-clause-there c = λ x is.
    let within = newest_within c.self.inside.slots.items c.self.inside.committed (get nat_eq c.self.inside.newest) c.args.key x c.self.invariant.0
    (sym is ∙ c.copied-newest.ensures ∙ c.get.ensures.value) in
    let same = ap length c.deref.ensures.value in
    omega (arith, within, same)

pub last_before-last-requires-clause-there : goal.last_before-last-requires-clause-there
last_before-last-requires-clause-there c = λ x is.
    let last = last_is c.self.inside.slots.items c.deref.result.now c.args.key c.self.inside.committed c.copied-newest.result c.last_stored-stored.result (get nat_eq c.self.inside.newest)
    c.deref.ensures.value c.self.invariant.0
    (c.copied-newest.ensures ∙ c.get.ensures.value) c.last_stored-stored.ensures
    in
    let within = stored_within c.self.inside.slots.items c.self.inside.committed (get nat_eq c.self.inside.newest) c.args.key x c.self.invariant.0 (sym is ∙ last) in
    let same = ap length c.deref-2.ensures.value in
    omega (arith, within, same)

pub returns-clause-kept : goal.returns-clause-kept
returns-clause-kept c =
    let slots = c.self.inside.slots.items in
    let last = last_is slots c.deref.result.now c.args.key c.self.inside.committed c.copied-newest.result c.last_stored-stored.result (get nat_eq c.self.inside.newest) c.deref.ensures.value
    c.self.invariant.0
    (c.copied-newest.ensures ∙ c.get.ensures.value) c.last_stored-stored.ensures
    in
    c.show_slot.ensures
    ∙ ap (λ xs. seen false (put_at xs c.last_before-last.result)) c.deref-3.ensures.value
    ∙ ap (seen false) (
    found_in_part slots c.deref-2.result.now c.args.key c.args.event c.self.inside.committed c.last_stored-stored.result c.last_before-last.result c.deref-2.ensures.value c.self.invariant.0.within
    last c.last_before-last.ensures.last
    ∙ found_stored slots c.args.key c.args.event c.self.inside.committed c.self.invariant.0.stored c.self.invariant.0.within
    )
    ∙ ap (λ (k : Kept). seen false (last_stored_before c.args.key c.args.event k.puts)) c.self.view_is

pub returns-clause-told : goal.returns-clause-told
returns-clause-told c = λ kind_of call_of n le told. returns-clause-kept c ∙ before_told kind_of call_of c.args.key n c.args.event c.args.self.now le told

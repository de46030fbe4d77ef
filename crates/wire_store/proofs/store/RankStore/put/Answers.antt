use Rattle.std.proofs.Common.{◌∙◌, ◌<◌, length, nat_eq, None, refl, sym, ap, subst, arith}
use Rattle.std.specs.HashMap.{get}
use Rattle.wire_store.specs.declared.chain.Slot.{Slot}
use Rattle.wire_store.specs.Kept.{Kept}
use Rattle.wire_store.proofs.Found.{newest_within, last_is}
use Rattle.wire_store.proofs.Pushed.{put_index}
use Rattle.wire_store.proofs.store.RankStore.put.Goals as goal

pub invariant_of-self : goal.invariant_of-self
invariant_of-self c =
    let slot : Slot = record { at = c.args.at; key = c.args.key; scope = c.args.scope; call = c.args.call; stored_by = None; stored_before = c.last_stored-stored_before.result } in
    let room : 0 < c.self.inside.room = subst (λ (k : Kept). 0 < k.room) (sym c.self.view_is) c.requires in
    let items = rw c.unwrap.ensures at c.push-pushed.ensures.items in
    let len = rw c.unwrap.ensures at c.push-pushed.ensures.len in
    let updates = rw c.unwrap-2.ensures at c.insert-inserted.ensures.updates in (
      put_index c.self.inside.slots.items c.push-pushed.new.self.items c.self.inside.committed c.len-number.result (get nat_eq c.self.inside.newest) (get nat_eq c.insert-inserted.new.self) slot
          items (c.len-number.ensures ∙ c.self.inside.slots.ok.0) c.self.invariant.0 refl
          (last_is c.self.inside.slots.items c.deref.result.now c.args.key c.self.inside.committed c.copied-newest.result c.last_stored-stored_before.result (get nat_eq c.self.inside.newest)
          c.deref.ensures.value c.self.invariant.0 (c.copied-newest.ensures ∙ c.get.ensures.value) c.last_stored-stored_before.ensures) updates.0,
      omega (arith, len, room, c.push-pushed.ensures.capacity, c.self.invariant.1),
      omega (arith, room, c.insert-inserted.ensures.spare, c.self.invariant.2),
    )

pub last_stored-stored_before-requires-clause-there : goal.last_stored-stored_before-requires-clause-there
last_stored-stored_before-requires-clause-there c = λ x is.
    let within = newest_within c.self.inside.slots.items c.self.inside.committed (get nat_eq c.self.inside.newest) c.args.key x c.self.invariant.0
    (sym is ∙ c.copied-newest.ensures ∙ c.get.ensures.value) in
    let same = ap length c.deref.ensures.value in
    omega (arith, within, same)

use Rattle.std.proofs.Common.{◌∙◌, map, nat_eq, ap}
use Rattle.std.specs.HashMap.{get}
use Rattle.wire_store.specs.Kept.{Kept, store_by}
use Rattle.wire_store.proofs.Committed.{committed_index, committed_puts}
use Rattle.wire_store.proofs.Told.{told_commit}
use Rattle.wire_store.proofs.store.RankStore.commit.Goals as goal

pub invariant_of-self : goal.invariant_of-self
invariant_of-self c = (
  committed_index c.args.at c.self.inside.slots.items c.deref_mut.result.now c.store_all.new.slots _ c.self.inside.committed c.self.inside.slots.len
      c.deref_mut.ensures.value c.self.inside.slots.ok.0 c.self.invariant.0.within c.store_all.ensures
      (get nat_eq c.self.inside.newest) c.len-self-inside.result c.self.invariant.0 c.len-self-inside.ensures,
  c.self.invariant.1,
  c.self.invariant.2,
)

pub returns-clause-puts : goal.returns-clause-puts
returns-clause-puts c =
    committed_puts c.args.at c.self.inside.slots.items c.deref_mut.result.now c.store_all.new.slots _ c.self.inside.committed c.self.inside.slots.len
    c.deref_mut.ensures.value c.self.inside.slots.ok.0 c.self.invariant.0.within c.store_all.ensures
    c.self.invariant.0.stored
    ∙ ap (λ (k : Kept). map (store_by c.args.at) k.puts) c.self.view_is

pub returns-clause-told : goal.returns-clause-told
returns-clause-told c = λ kind_of call_of kind told. told_commit kind_of call_of c.args.at c.args.self.now.puts _ kind told (returns-clause-puts c)

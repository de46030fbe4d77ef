use Rattle.std.proofs.Common.{ℕ, List, map, ap}
use Rattle.wire_store.specs.declared.chain.Slot.{Slot}
use Rattle.wire_store.specs.Kept.{Kept}
use Rattle.wire_store.specs.Slots.{put_in}
use Rattle.wire_store.proofs.store.RankStore.new.Goals as goal

abbrev kept_in : ℕ → List Slot → Kept
kept_in room slots = record { puts = map put_in slots; room = room }

pub returns-clause-ok : goal.returns-clause-ok
returns-clause-ok c = ap (kept_in c.args.puts) c.in_ok-with_capacity.ensures.items

use Rattle.std.proofs.Common.{◌≡◌, ℕ, [], length, map, get_or}
use Rattle.wire_happens_before.specs.Updates.{updates_at}
use Rattle.wire_happens_before.proofs.Lists.{items_in}
use Rattle.wire_happens_before.proofs.updates.UpdateLists.reach.Given as goal

abbrev pub invariant-loop : goal.invariant-loop
invariant-loop l = record {
  same : (n : ℕ) → get_or (map items_in l.self-inside.by_name.items) n [] ≡ updates_at l.fn.self n;
  count : length l.self-inside.by_name.items ≡ l.counter;
}

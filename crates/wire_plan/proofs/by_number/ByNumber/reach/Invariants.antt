use Rattle.std.proofs.Common.{◌≡◌, ℕ, [], length, map, get_or}
use Rattle.wire_plan.specs.Tables.{events_listed}
use Rattle.wire_plan.proofs.Tables.{places_in}
use Rattle.wire_plan.proofs.by_number.ByNumber.reach.Given as goal

abbrev pub invariant-loop : goal.invariant-loop
invariant-loop l = record {
  same : (n : ℕ) → get_or (map places_in l.self-inside.lists.items) n [] ≡ events_listed l.fn.self n;
  count : length l.self-inside.lists.items ≡ l.counter;
}

use Rattle.std.proofs.Common.{◌≤◌, vec_capacity}
use Rattle.wire_rounds.specs.Deques.{Made}
use Rattle.wire_rounds.proofs.deques.start_all.Given as goal

abbrev pub invariant-starts : goal.invariant-starts
invariant-starts l =
    Made l.round l.ranks l.workers l.passes.items l.thieves.items l.worker × (l.workers ≤ vec_capacity l.passes) × (l.workers ≤ vec_capacity l.thieves)

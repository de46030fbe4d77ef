use Rattle.std.proofs.Common.{◌≡◌, map, take}
use Rattle.wire_witness.specs.Tried.{AreTried}
use Rattle.wire_witness.proofs.tried.try_races.Given as goal

-- the races so far are tried
abbrev pub invariant-loop-race : goal.invariant-loop-race
invariant-loop-race l = record { races : map (λ t. t.race) l.tried.items ≡ take l.race-index l.races; shown : AreTried l.marked l.tried.items }

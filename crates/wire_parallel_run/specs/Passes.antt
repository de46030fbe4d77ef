-- The passes of a round while its workers are started. Only private contracts cite this.
use Rattle.std.specs.Prelude.{◌≡◌, ℕ, List}
use mathlib.Core.Option.{some}
use lib.ListN.{get_elem?}
use Rattle.wire_rounds.specs.declared.round.StealRound.{StealRound}
use Rattle.wire_rounds.specs.declared.round.Pass.{Pass}
use Rattle.wire_rounds.specs.Rounds.{IsPassOf, worker_of}

-- the passes of the first workers of the round, in order
abbrev pub AreFirstPasses : StealRound → List Pass → Type 0
AreFirstPasses r ps = (k : ℕ) (p : Pass) → get_elem? ps k ≡ some p → (worker_of p ≡ k) × IsPassOf r p

-- The orders of a witness are followed to the reports of its runs.
use Rattle.std.proofs.Common.{refl, ℕ, List, Ok}
use Rattle.wire_runs.specs.State.{start}
use Rattle.wire_runs.specs.Step.{IsInterleaving}
use Rattle.wire_scripts.specs.Scripts.{Scripts, numbers_of}
use Rattle.wire_scripts.specs.Planned.{plan_of}
use Rattle.wire_reader.specs.declared.Size.TheVariants.{OfVersion}
use Rattle.wire_reader.specs.Reads.{Reads}
use Rattle.wire_text_laws.specs.Again.{steps_text}
use Rattle.wire_text_laws.specs.Witnessed.{IsOrderOf, WitnessIsFollowed}
use Rattle.wire_text_laws.proofs.Steps.{order_reads_back}
use Rattle.wire_text_laws.proofs.Followed.{order_is_followed}

one_order : (bytes : List ℕ) (s : Scripts) (steps : List ℕ) → Reads OfVersion bytes (Ok s) → IsInterleaving (plan_of s) start steps → IsOrderOf bytes s (steps_text s steps) steps
one_order bytes s steps read legal = record { lines = refl; back = order_reads_back OfVersion bytes s steps read legal tt; followed = order_is_followed OfVersion bytes s steps read legal tt }

pub witness_is_followed : WitnessIsFollowed
witness_is_followed bytes s x y witness read is = record {
  first = one_order bytes s (numbers_of witness.first.items) read is.first.whole.legal;
  second = one_order bytes s (numbers_of witness.second.items) read is.second.whole.legal;
}

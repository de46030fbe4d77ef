-- What following the two orders of a witness writes.
use Rattle.std.specs.Prelude.{◌≡◌, ℕ, List, [], Ok}
use Rattle.wire_types.specs.declared.CallAt.{CallAt}
use Rattle.wire_scripts.specs.Scripts.{Scripts, numbers_of}
use Rattle.wire_reader.specs.declared.Size.TheVariants.{OfVersion}
use Rattle.wire_reader.specs.Reads.{Reads}
use Rattle.wire_witness.specs.declared.witness.Witness.{Witness}
use Rattle.wire_witness.specs.Witness.{IsWitness}
use Rattle.wire_types.specs.declared.OutputFormat.TheVariants.{Lines}
use Rattle.wire_types.specs.declared.Orders.TheVariants.{OfFirst, OfSecond}
use Rattle.wire_commands.specs.Witness.{witness_text}
use Rattle.wire_text_laws.specs.Again.{steps_text, ReadsAsOrder}
use Rattle.wire_text_laws.specs.Following.{IsFollowed}

-- what is written of one part of a witness is an order: it reads as these steps, and followed it gives the report of
-- their run
pub record IsOrderOf (bytes : List ℕ) (s : Scripts) (text steps : List ℕ) : Type 0 where
  pub lines : text ≡ steps_text s steps
  pub back : ReadsAsOrder OfVersion s text steps
  pub followed : IsFollowed OfVersion bytes s steps

-- and so are both orders of a witness, as they are written
pub record AreOrdersOf (bytes : List ℕ) (s : Scripts) (witness : Witness) : Type 0 where
  pub first : IsOrderOf bytes s (witness_text Lines [] [] OfFirst s witness) (numbers_of witness.first.items)
  pub second : IsOrderOf bytes s (witness_text Lines [] [] OfSecond s witness) (numbers_of witness.second.items)

-- of scripts that were read: the orders of each witness of two calls are followed to the reports of its runs
abbrev pub WitnessIsFollowed : Type 0
WitnessIsFollowed =
    (bytes : List ℕ) (s : Scripts) (x y : CallAt) (witness : Witness) → Reads OfVersion bytes (Ok s) →
    IsWitness s x y witness → AreOrdersOf bytes s witness

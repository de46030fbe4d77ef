-- The sets that were spelt before: for the contracts of private functions.
use Rattle.std.specs.Prelude.{◌≡◌, ℕ, List, Option, Some}
use Rattle.std.specs.Str.{bytes_eq}
use Rattle.std.specs.HashMap.{get_by}
use Rattle.wire_spelling.specs.Numbering.{IsSetNumbered}
use Rattle.wire_spelling.specs.declared.known.KnownSets.{KnownSets}
use Rattle.wire_spelling.specs.declared.spelling.Spelt.{Spelt}

-- how a set is spelt, if it is known
abbrev pub known_of : KnownSets → List ℕ → Option Spelt
known_of known text = get_by (λ k. bytes_eq text k.items) known.sets

-- what is known of sets of the job is as the table numbers them
abbrev pub AreKnown : List (List (List ℕ)) → KnownSets → Type 0
AreKnown table known =
    (text : List ℕ) (spelt : Spelt) → known_of known text ≡ Some spelt → IsSetNumbered table (record { job = known.job.now; set = text }) spelt

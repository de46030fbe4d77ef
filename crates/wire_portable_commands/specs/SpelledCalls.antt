-- The calls that a text spells are those of its scripts.
use Rattle.std.specs.Prelude.{◌≡◌, ℕ, List, Bool, Option, Some, None, Ok}
use Rattle.wire_types.specs.declared.Call.TheVariants.{Fence}
use Rattle.wire_scripts.specs.Map.{job_at}
use Rattle.wire_scripts.specs.Scripts.{Scripts, call_at, text_at}
use Rattle.wire_reader.specs.declared.limits.Size.{Size}
use Rattle.wire_reader.specs.Reads.{Reads}
use Rattle.wire_spelling.specs.Spelling.{SpelledSet, at_call, spelled_sets}

-- each call of a fence spells a set, being one of the caller's job, and no other call does
pub record AreSpelledIn (s : Scripts) (sets : List (List (Option SpelledSet))) : Type 0 where
  pub fences : (p c set : ℕ) (collect : Bool) → call_at s.processes p c ≡ Some (Fence set collect) →
      (spelled : SpelledSet) × (at_call sets p c ≡ Some spelled) × (spelled.job ≡ text_at s.jobs (job_at s.processes p))
  pub others : (p c : ℕ) → ((set : ℕ) (collect : Bool) → call_at s.processes p c ≡ Some (Fence set collect) → ⊥) → at_call sets p c ≡ None

-- so it is of the scripts that a text reads as
abbrev pub CallsAreSpelled : Type 0
CallsAreSpelled = (size : Size) (text : List ℕ) (s : Scripts) → Reads size text (Ok s) → AreSpelledIn s (spelled_sets text)

-- What `expand` writes: the plan of one instance of the pattern that was to come from the reader.
use Rattle.std.specs.Prelude.{◌≡◌, ◌≤◌, ◌⊎◌, ℕ, List, [], Option, Ok, Err, option_map}
use Rattle.std.specs.Io.KnownBytes.{Appends}
use Rattle.wire_types.specs.Front.{WritesFront}
use Rattle.wire_types.specs.declared.Fault.{Fault}
use Rattle.wire_types.specs.declared.Fault.TheVariants.{Memory, Read}
use Rattle.wire_types.specs.declared.Version.TheVariants.{Two}
use Rattle.wire_scripts.specs.Scripts.{Scripts}
use Rattle.wire_reader.specs.Limits.{limits_of}
use Rattle.wire_reader.specs.Reads.{Reads}
use Rattle.wire_pattern.specs.Pattern.{Pattern}
use Rattle.wire_pattern.specs.Instances.{Cast, IsCast, process_count, instance_lines, instance_text}
use Rattle.wire_instances.specs.Asked.{IsPassed}
use Rattle.wire_instances.specs.Faults.{fault_by}
use Rattle.wire_instance_laws.specs.Reading.{IsOfCast}
use Rattle.wire_pattern_commands.specs.Ranks.{AreSizesAsked, HasMisfit}
use Rattle.wire_pattern_commands.specs.Read.{ReadAsPattern, RefusesPattern}
use Rattle.wire_pattern_commands.specs.Spread.{AreSpread}
use Rattle.wire_pattern_commands.specs.declared.expand.Expansion.{Expansion}

-- the word of an expansion, which may be left out
abbrev pub word_of : Expansion → Option (List ℕ)
word_of asked = option_map (λ word. word.now) asked.ranks

-- the cast that is asked for, with no more processes than a plan may have: all turns of loops of `for some` are taken
pub record IsCastAsked (p : Pattern) (asked : Expansion) (cast : Cast) : Type 0 where
  pub is_cast : IsCast p cast
  pub within : process_count cast ≤ (limits_of asked.size Two).processes
  pub sized : AreSizesAsked p (word_of asked) cast.sizes
  pub chosen : cast.chosen ≡ []
  pub spread : AreSpread asked.size asked.spread cast

-- the text is that of the instance that is asked for. It reads as a plan, and this plan is the instance
pub record IsExpanded (p : Pattern) (asked : Expansion) (text : List ℕ) : Type 0 where
  pub cast : Cast
  pub is_asked : IsCastAsked p asked cast
  pub is : text ≡ instance_text p cast
  pub scripts : Scripts
  pub reads : Reads asked.size text (Ok scripts)
  pub instance : IsOfCast p cast scripts

-- more processes are asked for than a plan may have: the fault is on the role with which they are too many
pub record HasManyRanks (p : Pattern) (asked : Expansion) (fault : Fault) : Type 0 where
  pub sizes : List ℕ
  pub sized : AreSizesAsked p (word_of asked) sizes
  pub passed : IsPassed p.roles sizes (limits_of asked.size Two).processes fault

-- the fault of the text of the instance that is asked for, on the line of the pattern that it comes from
pub record IsNoPlan (p : Pattern) (asked : Expansion) (fault : Fault) : Type 0 where
  pub cast : Cast
  pub is_asked : IsCastAsked p asked cast
  pub told : Fault
  pub reads : Reads asked.size (instance_text p cast) (Err told)
  pub is : fault ≡ fault_by (instance_lines p cast) told

-- why a pattern isn't expanded
abbrev pub IsExpandFault : Pattern → Expansion → Fault → Type 0
IsExpandFault p asked fault =
    (fault ≡ Memory) ⊎ (HasMisfit p.roles (word_of asked) fault ⊎ (HasManyRanks p asked fault ⊎ IsNoPlan p asked fault))

-- all of the text went out
pub record WritesExpanded (asked : Expansion) (coming old new : Option (List ℕ)) : Type 0 where
  pub pattern : Pattern
  pub read : ReadAsPattern coming pattern
  pub text : List ℕ
  pub tells : IsExpanded pattern asked text
  pub wrote : Appends old new text

-- exactly as many bytes of it went out as the fault says, which aren't all of it
pub record BreaksOffExpanded (asked : Expansion) (coming old new : Option (List ℕ)) (fault : Fault) : Type 0 where
  pub pattern : Pattern
  pub read : ReadAsPattern coming pattern
  pub text : List ℕ
  pub tells : IsExpanded pattern asked text
  pub wrote : WritesFront old new text fault

-- the file reads as a pattern, which isn't expanded
pub record IsUnexpanded (asked : Expansion) (coming : Option (List ℕ)) (fault : Fault) : Type 0 where
  pub pattern : Pattern
  pub read : ReadAsPattern coming pattern
  pub why : IsExpandFault pattern asked fault

-- why nothing is written
abbrev pub StopsBeforeExpanded : Expansion → Option (List ℕ) → Fault → Type 0
StopsBeforeExpanded asked coming fault = (fault ≡ Memory) ⊎ ((fault ≡ Read) ⊎ (RefusesPattern coming fault ⊎ IsUnexpanded asked coming fault))

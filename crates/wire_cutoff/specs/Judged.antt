-- What is told of the instances that are judged.
use Rattle.std.specs.Prelude.{◌≡◌, ◌≢◌, ◌≤◌, ◌<◌, ◌^◌, ◌⊎◌, List, [], ℕ, Option, Some, Ok, Err, length, slice_get, slice_index_or}
use Rattle.wire_types.specs.declared.Fault.{Fault}
use Rattle.wire_types.specs.declared.Fault.TheVariants.{Memory, TooMany}
use Rattle.wire_scripts.specs.Scripts.{Scripts}
use Rattle.wire_findings.specs.declared.finding.Finding.{Finding}
use Rattle.wire_findings.specs.Findings.{AreFindings}
use Rattle.wire_reader.specs.declared.Size.TheVariants.{OfVersion}
use Rattle.wire_reader.specs.Reads.{Reads}
use Rattle.wire_pattern.specs.Pattern.{Step, Loop, Pattern}
use Rattle.wire_pattern.specs.Planned.{steps_in}
use Rattle.wire_pattern.specs.Instances.{Turn, Cast, IsCast, roles_from, number_in, instance_text, instance_lines}
use Rattle.wire_instances.specs.Faults.{fault_by}
use Rattle.wire_cutoff_laws.specs.Sizes.{AreFewSizes, numbers_from, total_of}
use Rattle.wire_cutoff_laws.specs.Choices.{optional_turns}
use Rattle.wire_cutoff.specs.Selections.{most_sizes, IsFirstFound}
use Rattle.wire_cutoff.specs.FirstNodes.{AreFirstNodes}

-- a cast with few processes of each role, in which no node is without a process
pub record IsFewCast (p : Pattern) (cast : Cast) : Type 0 where
  pub cast_is : IsCast p cast
  pub sizes : AreFewSizes p.roles cast.sizes
  pub used : (n : ℕ) → n < cast.node_count → (v : ℕ) × (slice_get cast.nodes v ≡ Some n)

-- all findings of scripts, of which there are some
abbrev pub IsFoundIn : Scripts → List Finding → Type 0
IsFoundIn scripts found = AreFindings scripts found × (found ≢ [])

-- an instance with few processes of each role, as the text of a plan, with all its findings, of which there are some
pub record IsUnsettled (p : Pattern) (cast : Cast) (text : List ℕ) (scripts : Scripts) (found : List Finding) : Type 0 where
  pub is_few : IsFewCast p cast
  pub is : text ≡ instance_text p cast
  pub reads : Reads OfVersion text (Ok scripts)
  pub found_in : IsFoundIn scripts found

-- the first instance that is judged in which something is found, on the first nodes on which it is
pub record IsCounterexample (p : Pattern) (cast : Cast) (text : List ℕ) (scripts : Scripts) (found : List Finding) : Type 0 where
  pub shows : IsUnsettled p cast text scripts found
  pub first : IsFirstFound p cast
  pub nodes : AreFirstNodes p cast cast.nodes

-- the same processes with the same turns, maybe on other nodes
abbrev pub AreMoved : Cast → Cast → Type 0
AreMoved cast moved = (moved.sizes ≡ cast.sizes) × (moved.chosen ≡ cast.chosen)

-- the fault of the text of this instance, on the line of the pattern that it comes from
pub record IsTextFault (p : Pattern) (cast : Cast) (fault : Fault) : Type 0 where
  pub told : Fault
  pub reads : Reads OfVersion (instance_text p cast) (Err told)
  pub is : fault ≡ fault_by (instance_lines p cast) told

-- that of an instance with few processes of each role
pub record IsInstanceFault (p : Pattern) (fault : Fault) : Type 0 where
  pub cast : Cast
  pub is_few : IsFewCast p cast
  pub of_text : IsTextFault p cast fault

-- of a loop the number of its line
abbrev pub loop_line : Option Step → ℕ
loop_line (Some (Loop number group turns lines)) = number
loop_line _ = 0

-- the line of the loop of a turn, where the processes have these roles
abbrev pub turn_line : Pattern → List ℕ → Turn → ℕ
turn_line p roles turn = loop_line (slice_get (steps_in (slice_get p.roles (slice_index_or roles turn.caller 0))) turn.step)

-- the instance with the most processes has 2^31 of them or more
abbrev pub HasManyProcesses : Pattern → Fault → Type 0
HasManyProcesses p fault = (2 ^ 31 ≤ total_of (most_sizes p.roles)) × (fault ≡ TooMany (number_in (slice_get p.roles 0)))

abbrev pub HasFewProcesses : Pattern → Type 0
HasFewProcesses p = total_of (most_sizes p.roles) < 2 ^ 31

-- in the instance with the most processes more than 20 turns may be taken or not; the fault is on the loop of the next
abbrev pub HasManyTurns : Pattern → Fault → Type 0
HasManyTurns p fault = (turn : Turn) × (slice_get (optional_turns p (most_sizes p.roles)) 20 ≡ Some turn)
    × (fault ≡ TooMany (turn_line p (roles_from 0 (most_sizes p.roles)) turn))

abbrev pub HasFewTurns : Pattern → Type 0
HasFewTurns p = length (optional_turns p (most_sizes p.roles)) ≤ 20

-- the largest instance that is judged: the most processes of each role, each on a node of its own, and all turns taken
abbrev pub largest_cast : Pattern → Cast
largest_cast p = record {
  sizes = most_sizes p.roles;
  chosen = [];
  node_count = total_of (most_sizes p.roles);
  nodes = numbers_from 0 (total_of (most_sizes p.roles));
}

-- its text reads as a plan
abbrev pub IsLargestRead : Pattern → Type 0
IsLargestRead p = (scripts : Scripts) × Reads OfVersion (instance_text p (largest_cast p)) (Ok scripts)

-- the pattern is past a limit, the first of these: it has too many processes, else too many turns, else the text of its
-- largest instance has a fault
abbrev pub IsLimitFault : Pattern → Fault → Type 0
IsLimitFault p fault =
    HasManyProcesses p fault ⊎ (HasFewProcesses p × (HasManyTurns p fault ⊎ (HasFewTurns p × IsTextFault p (largest_cast p) fault)))

-- the pattern is within the limits
pub record IsWithinPatternLimits (p : Pattern) : Type 0 where
  pub processes : HasFewProcesses p
  pub turns : HasFewTurns p
  pub largest : IsLargestRead p

-- why an instance isn't judged: there is too little memory, or the text of one with few processes has a fault
abbrev pub IsJudgeFault : Pattern → Fault → Type 0
IsJudgeFault p fault = (fault ≡ Memory) ⊎ IsInstanceFault p fault

-- why a pattern isn't judged: there is too little memory, or it is past a limit. That smaller instances are within the
-- limits where the largest is isn't proved: so where it is, the fault could be that of a smaller one
abbrev pub IsSweepFault : Pattern → Fault → Type 0
IsSweepFault p fault = (fault ≡ Memory) ⊎ (IsLimitFault p fault ⊎ (IsWithinPatternLimits p × IsInstanceFault p fault))

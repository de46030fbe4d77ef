-- The text of an instance of a pattern reads as this instance.
use Rattle.std.specs.Prelude.{◌≡◌, ℕ, ◌<◌, length, Some, Ok, slice_get}
use Rattle.wire_runs.specs.Plan.{Plan, process_count, node_of}
use Rattle.wire_runs.specs.Placings.{IsPlacing}
use Rattle.wire_runs.specs.Renamed.{IsRenumbered}
use Rattle.wire_runs.specs.Patterns.{Coding, instance_of}
use Rattle.wire_runs.specs.Restrictions.{on_nodes}
use Rattle.wire_scripts.specs.Scripts.{Scripts, calls_in}
use Rattle.wire_scripts.specs.Planned.{plan_of}
use Rattle.wire_reader.specs.declared.limits.Size.{Size}
use Rattle.wire_reader.specs.Reads.{Reads}
use Rattle.wire_pattern.specs.Pattern.{Pattern}
use Rattle.wire_pattern.specs.Planned.{pattern_of, steps_in}
use Rattle.wire_pattern.specs.Instances as text
use Rattle.wire_pattern.specs.Instances.{Cast, IsCast, cast_of, steps_said, instance_text}
use Rattle.wire_pattern.specs.Lawful.{IsSoundPattern}

-- the scripts' plan is, but for replies of reserved keys and names, the instance on these nodes, under other numbers of
-- keys and names
pub record IsInstance (p : Pattern) (cast : Cast) (s : Scripts) (coding : Coding) (nodes : ℕ → ℕ) : Type 0 where
  pub other : Plan
  pub key : ℕ → ℕ
  pub name : ℕ → ℕ
  pub placing : IsPlacing (plan_of s) other
  pub renumbered : IsRenumbered (instance_of (pattern_of p) coding (on_nodes nodes (cast_of cast))) other key name

-- the scripts have the processes of the cast, each on its node, with as many calls as its role says; and whatever the
-- nodes, and the numbers of words, they are the instance
pub record IsOfCast (p : Pattern) (cast : Cast) (s : Scripts) : Type 0 where
  pub count : process_count (plan_of s) ≡ text.process_count cast
  pub nodes : (v : ℕ) → v < text.process_count cast → node_of (plan_of s) v ≡ (cast_of cast).nodes v
  pub keeps : s.keeps ≡ p.keeps
  pub calls : (v role : ℕ) → slice_get (cast_of cast).roles v ≡ Some role
      → length (calls_in (slice_get s.processes v)) ≡ length (steps_said p cast v 0 (steps_in (slice_get p.roles role)))
  pub instances : (coding : Coding) (nodes : ℕ → ℕ) → IsInstance p cast s coding nodes

-- the text of an instance, if it reads as scripts at all, reads as these
abbrev pub InstancesRead : Type 0
InstancesRead = (p : Pattern) (cast : Cast) (size : Size) (s : Scripts) → IsSoundPattern p → IsCast p cast
    → Reads size (instance_text p cast) (Ok s) → IsOfCast p cast s

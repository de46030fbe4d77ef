-- What the instances that are judged show of their calls, each process on a node of its own: whether one doesn't succeed,
-- that is isn't answered PMIX_SUCCESS, and whether one puts a key for other nodes alone.
use Rattle.std.specs.Prelude.{◌≡◌, ℕ, Bool, true, false, Some, Ok, slice_get}
use Rattle.std.specs.List.{list_all, list_any}
use Rattle.wire_types.specs.declared.Call.{Call}
use Rattle.wire_types.specs.declared.Call.TheVariants.{Put}
use Rattle.wire_types.specs.declared.CallEnd.{CallEnd}
use Rattle.wire_types.specs.declared.CallEnd.TheVariants.{Replied}
use Rattle.wire_types.specs.declared.Scope.{Scope}
use Rattle.wire_types.specs.declared.Scope.TheVariants.{Remote}
use Rattle.wire_types.specs.declared.Status.{Status}
use Rattle.wire_types.specs.declared.Status.TheVariants.{Success}
use Rattle.wire_scripts.specs.Process.{Process}
use Rattle.wire_scripts.specs.Scripts.{Scripts}
use Rattle.wire_reader.specs.declared.Size.TheVariants.{OfVersion}
use Rattle.wire_reader.specs.Reads.{Reads}
use Rattle.wire_core.specs.EndsAfter.{plain_ends}
use Rattle.wire_pattern.specs.Pattern.{Pattern}
use Rattle.wire_pattern.specs.Instances.{instance_text}
use Rattle.wire_cutoff.specs.Selections.{Selection, selections}
use Rattle.wire_pattern_waits.specs.Waits.{alone}

-- PMIX_SUCCESS
abbrev pub is_success : Status → Bool
is_success Success = true
is_success _ = false

-- the call was answered PMIX_SUCCESS
abbrev pub succeeds : CallEnd → Bool
succeeds (Replied reply) = is_success reply.status
succeeds _ = false

-- every call of these scripts succeeds in their plain run
abbrev pub all_succeed : Scripts → Bool
all_succeed scripts = list_all (list_all succeeds) (plain_ends scripts).rows

abbrev pub is_remote : Scope → Bool
is_remote Remote = true
is_remote _ = false

-- whether a call puts a key for other nodes alone
abbrev pub puts_remote : Call → Bool
puts_remote (Put scope key value) = is_remote scope
puts_remote _ = false

abbrev pub process_puts_remote : Process → Bool
process_puts_remote process = list_any puts_remote process.calls

-- whether some call of these scripts does
abbrev pub some_puts_remote : Scripts → Bool
some_puts_remote scripts = list_any process_puts_remote scripts.processes

-- in the instance of this selection a call doesn't succeed
pub record FailsIn (p : Pattern) (selection : Selection) : Type 0 where
  pub scripts : Scripts
  pub reads : Reads OfVersion (instance_text p (alone p selection)) (Ok scripts)
  pub fails : all_succeed scripts ≡ false

-- so it is in the instance of some selection that is judged
pub record SomeFailsApart (p : Pattern) : Type 0 where
  pub number : ℕ
  pub selection : Selection
  pub is : slice_get (selections p) number ≡ Some selection
  pub fails : FailsIn p selection

-- in the instance of this selection a key is put for other nodes alone
pub record PutsRemoteIn (p : Pattern) (selection : Selection) : Type 0 where
  pub scripts : Scripts
  pub reads : Reads OfVersion (instance_text p (alone p selection)) (Ok scripts)
  pub puts : some_puts_remote scripts ≡ true

-- so it is in the instance of some selection that is judged
pub record SomePutsRemote (p : Pattern) : Type 0 where
  pub number : ℕ
  pub selection : Selection
  pub is : slice_get (selections p) number ≡ Some selection
  pub puts : PutsRemoteIn p selection

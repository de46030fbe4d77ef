-- What a pattern says: one script for each role, for any number of processes. Jobs and roles are numbered as declared.
use Rattle.std.specs.Prelude.{ℕ, Bool, List}
use Rattle.wire_types.specs.declared.Scope.{Scope}
use Rattle.wire_runs.specs.Patterns.{Who, Turns}

-- a key or a name as it stands in a line: a base, indexed by processes
pub record Indexed : Type 0 where
  pub base : List ℕ
  pub indices : List Who

-- an item of the set of a fence: one process, all of a role, or all of a job
pub data Item : Type 0 where
  One : Who → Item
  Group : (role : ℕ) → Item
  Job : (job : ℕ) → Item

-- a call, as its line says it
pub data Call : Type 0 where
  Put : Scope → Indexed → (value : List ℕ) → Call
  Commit : Call
  Fence : List Item → (collect : Bool) → Call
  Get : (owner : Who) → Indexed → Call
  GetNow : (owner : Who) → Indexed → Call
  Publish : Indexed → (value : List ℕ) → Call
  Lookup : Indexed → Call
  LookupWait : Indexed → Call
  Unpublish : Indexed → Call
  UnpublishAll : Call

-- a call line, with its number in the file
pub record Line : Type 0 where
  pub number : ℕ
  pub call : Call

-- one line, or a loop over a role, with the number of its own line
pub data Step : Type 0 where
  Once : Line → Step
  Loop : (number group : ℕ) → Turns → List Line → Step

-- single: whether it is one process. least: how many processes it has at least, 1 for a single one. number: of its line
pub record Role : Type 0 where
  pub job : ℕ
  pub name : List ℕ
  pub single : Bool
  pub least : ℕ
  pub number : ℕ
  pub steps : List Step

-- a job, with the number of its line
pub record JobLine : Type 0 where
  pub name : List ℕ
  pub number : ℕ

-- keeps: whether what a get brings to a node stays there
pub record Pattern : Type 0 where
  pub keeps : Bool
  pub jobs : List JobLine
  pub roles : List Role

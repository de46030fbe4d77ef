-- The script of one process.
use Rattle.std.specs.Prelude.{ℕ, List}
use Rattle.wire_types.specs.declared.Call.{Call}

-- a process: the number of its job, its rank there, the number of its node, and its calls
pub record Process : Type 0 where
  pub job : ℕ
  pub rank : ℕ
  pub node : ℕ
  pub calls : List Call

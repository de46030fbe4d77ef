-- How far an order of steps is followed.
use Rattle.std.specs.Prelude.{◌≡◌, ℕ, suc, List, ◌++◌, take, Some, false, slice_get}
use Rattle.wire_types.specs.declared.Fault.{Fault}
use Rattle.wire_types.specs.declared.Fault.TheVariants.{NotReady}
use Rattle.wire_runs.specs.Step.{is_enabled, IsInterleaving}
use Rattle.wire_core.specs.Course.{Course, plan_in, state_of}

-- each step of the order was enabled when it came, and all of them were taken
pub record Follows (old : Course) (order : List ℕ) (new : Course) : Type 0 where
  pub enabled : IsInterleaving (plan_in old) (state_of old) order
  pub taken : new ≡ record { scripts = old.scripts; history = old.history ++ order }

-- the first n steps were taken, and the next of the order isn't enabled after them
pub record NotEnabledAt (old : Course) (order : List ℕ) (new : Course) (fault : Fault) : Type 0 where
  pub n : ℕ
  pub is : fault ≡ NotReady (suc n)
  pub before : Follows old (take n order) new
  pub p : ℕ
  pub next : slice_get order n ≡ Some p
  pub not_enabled : is_enabled (plan_in new) (state_of new) p ≡ false

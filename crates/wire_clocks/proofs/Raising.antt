-- A clock that is being made: what it says at first.
use Rattle.std.proofs.Common.{◌≡◌, ℕ, max, refl, arith}
use Rattle.std.specs.Prelude.{Bool, true, false, if◌then◌else◌}

-- a block of zeros says nothing more
pub zeros_say : (here : Bool) (says least : ℕ) → least ≡ 0 → (if here then max says least else says) ≡ says
zeros_say true says least none = omega (arith, none)
zeros_say false says least none = refl

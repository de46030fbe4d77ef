-- The faults of building a plan.
use Rattle.std.proofs.Common.{◌≡◌, ◌∙◌, Result, Ok, Err, IfErr, IsErrAnd}
use Rattle.wire_types.specs.declared.Fault.{Fault}

-- a fault that is handed on
pub fault_is : {A : Type 0} (r : Result A Fault) (e f : Fault) → IsErrAnd r (λ d. d ≡ e) → e ≡ f → IfErr r (λ d. d ≡ f)
fault_is (Ok x) e f is same = absurd is
fault_is (Err d) e f is same = is ∙ same

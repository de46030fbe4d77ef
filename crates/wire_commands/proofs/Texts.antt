-- The texts of the plan of scripts are those of the scripts.
use Rattle.std.proofs.Common.{◌≡◌, ◌∙◌, subst, Bool, ℕ, ◌<◌, List, length, ◌⊎◌, Result, Ok, Err, IfOk, IfErr, Vec, Global}
use Rattle.wire_types.specs.declared.CallAt.{CallAt}
use Rattle.wire_types.specs.declared.Fault.{Fault}
use Rattle.wire_types.specs.declared.Fault.TheVariants.{Memory}
use Rattle.wire_types.specs.Outcome.{Ends}
use Rattle.wire_scripts.specs.Scripts.{Scripts}
use Rattle.wire_scripts.specs.Planned.{plan_of}
use Rattle.wire_runs.specs.State.{start}
use Rattle.wire_runs.specs.Step.{run, IsInterleaving}
use Rattle.wire_runs.specs.Ends.{outcome, calls_of}
use Rattle.wire_report.specs.Report.{report, report_form}
use Rattle.wire_core.specs.EndsAfter.{plain_ends}
use Rattle.wire_commands.specs.Plain.{plain_report}
use Rattle.wire_commands.specs.Follow.{StopsAfter, report_after}

-- the report of the plain run
pub plain_told : (plan shown : Scripts) (ends : Ends) (r : Result (Vec ℕ Global) Fault) → shown ≡ plan → ends ≡ plain_ends plan → IfOk r (λ text. text.items ≡ report shown ends) →
    IfOk r (λ text. text.items ≡ plain_report plan)
plain_told plan shown ends (Ok text) same at told =
    let step : report shown ends ≡ plain_report plan = λ i. report (same i) (at i) in told ∙ step
plain_told plan shown ends (Err e) same at told = tt

pub plain_too : (s plan : Scripts) (r : Result (Vec ℕ Global) Fault) → plan ≡ s → IfOk r (λ text. text.items ≡ plain_report plan) → IfOk r (λ text. text.items ≡ plain_report s)
plain_too s plan r is told = subst (λ t. IfOk r (λ text. text.items ≡ plain_report t)) is told

-- what an order leads to
abbrev pub LeadsTo : Bool → Scripts → List ℕ → List ℕ → Type 0
LeadsTo json s steps text = IsInterleaving (plan_of s) start steps × (text ≡ report_after json s steps)

pub followed_told : (json : Bool) (plan shown : Scripts) (steps : List ℕ) (ends : Ends) (r : Result (Vec ℕ Global) Fault) → shown ≡ plan → IsInterleaving (plan_of plan) start steps
    × (ends ≡ outcome (plan_of plan) (run (plan_of plan) steps))
    → IfOk r (λ text. text.items ≡ report_form json shown ends) → IfOk r (λ text. LeadsTo json plan steps text.items)
followed_told json plan shown steps ends (Ok text) same (enabled, at) told =
    let step : report_form json shown ends ≡ report_after json plan steps = λ i. report_form json (same i) (at i) in (enabled, told ∙ step)
followed_told json plan shown steps ends (Err e) same leads told = tt

pub leads_too : (json : Bool) (s plan : Scripts) (steps : List ℕ) (r : Result (Vec ℕ Global) Fault) → plan ≡ s →
    IfOk r (λ text. LeadsTo json plan steps text.items) → IfOk r (λ text. LeadsTo json s steps text.items)
leads_too json s plan steps r is told = subst (λ t. IfOk r (λ text. LeadsTo json t steps text.items)) is told

-- a step that isn't enabled
pub stops_too : (s plan : Scripts) (steps : List ℕ) (r : Result (Vec ℕ Global) Fault) → plan ≡ s → IfErr r (λ e. (e ≡ Memory) ⊎ StopsAfter plan steps e) →
    IfErr r (λ e. (e ≡ Memory) ⊎ StopsAfter s steps e)
stops_too s plan steps r is told = subst (λ t. IfErr r (λ e. (e ≡ Memory) ⊎ StopsAfter t steps e)) is told

-- a call of the scripts
pub there_too : (shown s : Scripts) (x : CallAt) → shown ≡ s → x.call < length (calls_of (plan_of shown) x.proc.number) → x.call < length (calls_of (plan_of s) x.proc.number)
there_too shown s x is there = subst (λ t. x.call < length (calls_of (plan_of t) x.proc.number)) is there

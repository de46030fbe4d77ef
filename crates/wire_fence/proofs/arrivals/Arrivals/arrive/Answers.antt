use Rattle.std.proofs.Common.{ℕ, suc, List, subst, sym}
use Rattle.wire_runs.specs.Plan.{update}
use Rattle.wire_fence.specs.Arrivals.{TellsMissing}
use Rattle.wire_fence.proofs.Missing.{arrival_counts}
use Rattle.wire_fence.proofs.arrivals.Arrivals.arrive.Goals as goal

pub returns-clause-arrived : goal.returns-clause-arrived
returns-clause-arrived c = λ s cut table fences arriving tells.
    subst (λ (xs : List ℕ). TellsMissing s (update cut c.args.proc.number (suc (cut c.args.proc.number))) table xs) (sym c.count_one.ensures)
    (arrival_counts s cut table c.args.self.now c.args.fence.number c.args.proc.number fences arriving tells)

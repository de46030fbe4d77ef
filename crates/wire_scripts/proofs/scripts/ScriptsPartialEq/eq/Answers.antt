use Rattle.std.proofs.Common.{◌≡◌, sym, subst}
use Rattle.std.specs.Bool.{Decides}
use Rattle.wire_scripts.proofs.Same.{scripts_decide}
use Rattle.wire_scripts.proofs.scripts.ScriptsPartialEq.eq.Goals as goal

pub returns-clause-same : goal.returns-clause-same
returns-clause-same c =
    subst (λ t. Decides t (c.args.self.now ≡ c.args.other.now)) (sym c.has_same_parts.ensures) (scripts_decide c.args.self.now c.args.other.now)

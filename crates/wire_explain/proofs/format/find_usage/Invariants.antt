use Rattle.std.proofs.Common.{◌≡◌, drop, map}
use Rattle.wire_explain.specs.Format.{usage_in}
use Rattle.wire_explain.proofs.format.find_usage.Given as goal

abbrev pub invariant-loop-usage : goal.invariant-loop-usage
invariant-loop-usage l = usage_in (map (λ u. (u.0.now, u.1.now)) (drop l.usage-index l.table)) l.word
    ≡ usage_in (map (λ u. (u.0.now, u.1.now)) l.table) l.word

use Rattle.std.proofs.Common.{rules}
use Rattle.std.proofs.lemmas.Fn.{always_returns_same}
use Rattle.std.specs.Ordering.{is_lt}
use Rattle.wire_findings.specs.Standings.{entry_cmp}
use Rattle.wire_findings.proofs.Packing.{seen_in_order}
use Rattle.wire_findings.proofs.found.are_in_order.Goals as goal

pub returns : goal.returns
returns c =
    seen_in_order c.args.names.now c.args.subjects.now c.args.entries.now c.is_sorted_by.result
    (c.is_sorted_by.ensures.cases (λ x y. is_lt (entry_cmp c.args.names.now c.args.subjects.now x y)) (always_returns_same _ _ _ (λ a r g h. search rules)))

use Rattle.std.proofs.Common.{◌∙◌, ap, sym, arith, rules, inl, inr, nat_lt}
use Rattle.std.proofs.lemmas.Bool.{cases_lt, lt-ltb, le-ltb}
use Rattle.std.proofs.lemmas.List.Sorted.{IsPartitionPoint-from_clause}
use Rattle.wire_runs.specs.Plan.{Event}
use Rattle.wire_types.specs.declared.Event.{Event as CodeEvent}
use Rattle.wire_plan.proofs.FirstBringing.{stands_at}
use Rattle.wire_portable.proofs.Gathered.{below_at}
use Rattle.wire_portable.proofs.commits.count_below.Goals as goal

pub returns-clause-exactly : goal.returns-clause-exactly
returns-clause-exactly c = λ p rising k x is.
    let xs = c.args.row.now in
    let n = c.args.end in
    let any : CodeEvent = record { proc = record { number = 0 }; at = 0 } in
    let point = IsPartitionPoint-from_clause (λ (y : CodeEvent). nat_lt y.at n) xs _ c.partition_point.ensures.partitioned (below_at xs p n rising) (λ a r q h. search rules) in
    let at = stands_at xs k x any is in
    let lt = at.0 in
    sym (ap (λ (y : Event). nat_lt y.at n) at.1)
    ∙ elim (cases_lt k c.partition_point.result) [
      | inl low ↦ point.0 k any (omega arith) low ∙ sym (lt-ltb k c.partition_point.result low)
      | inr high ↦ point.1 k any high lt ∙ sym (le-ltb k c.partition_point.result high)
    ]

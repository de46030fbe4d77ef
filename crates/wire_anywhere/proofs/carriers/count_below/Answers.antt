use Rattle.std.proofs.Common.{◌∙◌, ap, sym, arith, rules, nat_lt, inl, inr}
use Rattle.std.proofs.lemmas.Bool.{cases_lt, lt-ltb, le-ltb}
use Rattle.std.proofs.lemmas.List.Sorted.{IsPartitionPoint-from_clause}
use Rattle.wire_runs.specs.Plan.{Event}
use Rattle.wire_types.specs.declared.Event.{Event as CodeEvent}
use Rattle.wire_plan.proofs.FirstBringing.{stands_at}
use Rattle.wire_anywhere.proofs.Firsts.{below_first}
use Rattle.wire_anywhere.proofs.carriers.count_below.Goals as goal

pub returns : goal.returns
returns c = λ rising k x is.
    let xs = c.args.list.now in
    let m = c.args.proc.number in
    let none : CodeEvent = record { proc = c.args.proc; at = 0 } in
    let point = IsPartitionPoint-from_clause (λ (y : CodeEvent). nat_lt y.proc.number m) xs _ c.partition_point.ensures.partitioned (below_first xs m rising) (λ a r q h. search rules) in
    let at = stands_at xs k x none is in
    let lt = at.0 in
    sym (ap (λ (y : Event). nat_lt y.proc m) at.1)
    ∙ elim (cases_lt k c.partition_point.result) [
      | inl low ↦ point.0 k none (omega arith) low ∙ sym (lt-ltb k c.partition_point.result low)
      | inr high ↦ point.1 k none high lt ∙ sym (le-ltb k c.partition_point.result high)
    ]

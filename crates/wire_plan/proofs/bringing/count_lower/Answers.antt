use Rattle.std.proofs.Common.{◌∙◌, ap, sym, arith, rules, inl, inr}
use Rattle.std.proofs.lemmas.Bool.{cases_lt, lt-ltb, le-ltb}
use Rattle.std.proofs.lemmas.List.Sorted.{IsPartitionPoint-from_clause}
use Rattle.wire_runs.specs.Plan.{Event, event_of}
use Rattle.wire_types.specs.declared.Event.{Event as CodeEvent}
use Rattle.wire_plan.specs.Bringing.{is_below}
use Rattle.wire_plan.proofs.FirstBringing.{less_below, lower_first, stands_at}
use Rattle.wire_plan.proofs.bringing.count_lower.Goals as goal

pub returns-clause-exactly : goal.returns-clause-exactly
returns-clause-exactly c = λ rising k x is.
    let xs = c.args.list.now in
    let point = IsPartitionPoint-from_clause (λ (y : CodeEvent). is_below (event_of y) (event_of c.args.event)) xs _ c.partition_point.ensures.partitioned
    (lower_first xs (event_of c.args.event) rising) (λ a r q h. search (rules, less_below)) in
    let at = stands_at xs k x c.args.event is in
    let lt = at.0 in
    sym (ap (λ (y : Event). is_below y (event_of c.args.event)) at.1)
    ∙ elim (cases_lt k c.partition_point.result) [
      | inl low ↦ point.0 k c.args.event (omega arith) low ∙ sym (lt-ltb k c.partition_point.result low)
      | inr high ↦ point.1 k c.args.event high lt ∙ sym (le-ltb k c.partition_point.result high)
    ]

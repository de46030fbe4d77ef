use Rattle.std.proofs.Common.{◌∙◌, ap, sym, ◌-◌, Some, arith}
use Rattle.std.proofs.lemmas.Option.{slice_get-get_or}
use Rattle.wire_explain.proofs.Texts.{told_stop, stops_within}
use Rattle.wire_explain.proofs.stop.text_by.Goals as goal

pub returns-in_ok-explanation_of-in-Err-NotReady-clause-tells : goal.returns-in_ok-explanation_of-in-Err-NotReady-clause-tells
returns-in_ok-explanation_of-in-Err-NotReady-clause-tells c =
    let stops = rw c.in-Err-NotReady.field-0-is at c.in-Err-NotReady.ensures.err in
    let there = c.in-Some.ensures.lookup.3 in
    let told = c.in_ok-explanation_of-in-Err-NotReady.ensures.explanation in
    told_stop c.args.core.now.scripts c.args.core.now c.follow.new.self c.args.order.now c.args.order_bytes.now _ c.in-Err-NotReady.number c.in-Some.proc.now
    (ap (λ history. record { scripts = c.args.core.now.scripts; history = history }) c.requires) stops
    (slice_get-get_or c.args.order.now (c.in-Err-NotReady.number - 1) c.in-Some.proc.now there.0 ∙ ap Some (sym (there.1 c.in-Some.proc.now))) told

pub unreachable-requires : goal.unreachable-requires
unreachable-requires c =
    let stops = rw c.in-Err-NotReady.field-0-is at c.in-Err-NotReady.ensures.err in
    let there = stops_within c.args.core.now c.follow.new.self c.args.order.now c.in-Err-NotReady.number stops in
    omega (arith, there, c.in_default-get.ensures.lookup.3)

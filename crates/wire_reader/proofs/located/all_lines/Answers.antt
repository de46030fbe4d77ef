use Rattle.std.proofs.Common.{◌≡◌, ◌∙◌, ◌<◌, ◌≤◌, ap, ℕ, List, length, get_or}
use Rattle.std.specs.Prelude.{Vec}
use Rattle.std.specs.declared.alloc.Global.{Global}
use Rattle.std.proofs.lemmas.List.{map_push}
use Rattle.wire_types.specs.Texts.{lists_of}
use Rattle.wire_reader.specs.Drafted.{started_of}
use Rattle.wire_reader.specs.Located.{lines_of_calls}
use Rattle.wire_reader.proofs.Steps.{made_on, made_all}
use Rattle.wire_reader.proofs.located.all_lines.Goals as goal

abbrev shown : List (Vec ℕ Global) → List (List ℕ)
shown rows = lists_of rows

pub loop-process-init : goal.loop-process-init
loop-process-init c = ap shown c.in_ok-rows.ensures.items

pub loop-process-preserved : goal.loop-process-preserved
loop-process-preserved c =
    let ps = c.args.draft.now.processes.items in
    let i = c.loop-process.process-index in
    let x = c.process-item.result in
    let rows = c.loop-process.rows.items in
    let row = c.in_ok-call_lines.field-0 in
    let lt : i < length ps = rw c.deref-process-items.ensures.value at c.loop-process-test.true in
    let is : x ≡ get_or ps i x = rw c.deref-process-items.ensures.value at c.process-item.is in
    made_on lines_of_calls started_of (shown rows) (shown c.push.new.self.items) ps i x row.items lt is (ap shown c.in_ok-push.ensures.items ∙ map_push (λ r. r.items) rows row)
    c.loop-process.invariant c.in_ok-call_lines.ensures

pub returns : goal.returns
returns c =
    let ps = c.args.draft.now.processes.items in
    let past : length ps ≤ c.loop-process.process-index = rw c.deref-process-items.ensures.value at c.loop-process-test.false in
    made_all lines_of_calls started_of (shown c.loop-process.rows.items) ps c.loop-process.process-index past c.loop-process.invariant

use Rattle.std.proofs.Common.{◌≡◌, ◌<◌, ◌≤◌, length, get_or, refl, ℕ}
use Rattle.wire_lines.specs.Said.{Call}
use Rattle.wire_reader.specs.Drafted.{placed_of}
use Rattle.wire_reader.proofs.Steps.{made_on, made_all}
use Rattle.wire_reader.proofs.located.call_lines.Goals as goal

pub loop-placed-init : goal.loop-placed-init
loop-placed-init c = c.in_ok-lines.ensures.items

pub loop-placed-preserved : goal.loop-placed-preserved
loop-placed-preserved c =
    let cs = c.args.process.now.calls.items in
    let i = c.loop-placed.placed-index in
    let x = c.placed-item.result in
    let lt : i < length cs = rw c.deref-placed-items.ensures.value at c.loop-placed-test.true in
    let is : x ≡ get_or cs i x = rw c.deref-placed-items.ensures.value at c.placed-item.is in
    made_on (λ (p : ℕ × Call). p.0) placed_of c.loop-placed.lines.items c.push.new.self.items cs i x x.line lt is c.in_ok-push.ensures.items c.loop-placed.invariant refl

pub returns : goal.returns
returns c =
    let cs = c.args.process.now.calls.items in
    let past : length cs ≤ c.loop-placed.placed-index = rw c.deref-placed-items.ensures.value at c.loop-placed-test.false in
    made_all (λ (p : ℕ × Call). p.0) placed_of c.loop-placed.lines.items cs c.loop-placed.placed-index past c.loop-placed.invariant

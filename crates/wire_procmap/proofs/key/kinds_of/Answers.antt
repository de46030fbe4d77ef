use Rattle.std.proofs.Common.{◌≡◌, ◌∙◌, ◌<◌, ap, map, take, length, arith}
use Rattle.std.proofs.Math.Seq.{take-length}
use Rattle.wire_procmap.specs.Keys.{key_kind}
use Rattle.wire_procmap.proofs.Keys.{one_kind}
use Rattle.wire_procmap.proofs.key.kinds_of.Goals as goal

pub loop-number-init : goal.loop-number-init
loop-number-init c = c.in_ok-kinds.ensures.items

pub loop-number-preserved : goal.loop-number-preserved
loop-number-preserved c =
    let texts = c.args.texts.now in
    let n = c.loop-number.number in
    let there : n < length texts = omega (arith, c.len-count.ensures) in
    one_kind texts n c.loop-number.kinds.items c.push.new.self.items c.kind_of.result c.text.result.now there c.text.ensures c.kind_of.ensures c.in_ok-push.ensures.items c.loop-number.invariant

pub returns : goal.returns
returns c =
    let texts = c.args.texts.now in
    let over : c.loop-number.number ≡ length texts = omega (arith, c.len-count.ensures) in
    c.loop-number.invariant ∙ ap (map key_kind) (ap (λ n. take n texts) over ∙ take-length texts)

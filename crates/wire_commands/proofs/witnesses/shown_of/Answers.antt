use Rattle.std.proofs.Common.{◌∙◌, ap, sym, ◌+◌, [], ◌∷◌, ◌++◌, append_assoc, map, drop}
use Rattle.std.proofs.lemmas.List.{at_drop_more, drop_all}
use Rattle.wire_report.proofs.Appended.{none_left}
use Rattle.wire_commands.proofs.witnesses.shown_of.Goals as goal

pub loop-one-init : goal.loop-one-init
loop-one-init c = ap (λ calls. calls ++ map (λ one. one.shown) c.args.tried.now) c.new-calls.ensures.items

pub loop-one-preserved : goal.loop-one-preserved
loop-one-preserved c =
    let calls = c.loop-one.calls.items in
    let tried = c.args.tried.now in
    let next = c.loop-one.one-index + 1 in
    ap (λ more. more ++ map (λ one. one.shown) (drop next tried)) c.in_ok-push.ensures.items ∙ append_assoc calls (_ ∷ []) (map (λ one. one.shown) (drop next tried))
    ∙ sym (at_drop_more (λ left. calls ++ map (λ one. one.shown) left) tried c.loop-one.one-index _ c.loop-one-test.true)
    ∙ c.loop-one.invariant

pub returns : goal.returns
returns c = none_left _ _ _ (ap (map (λ one. one.shown)) (drop_all c.loop-one.one-index c.args.tried.now c.loop-one-test.false)) c.loop-one.invariant

use Rattle.std.proofs.Common.{◌∙◌, ◌++◌, ap, get_or}
use Rattle.wire_pattern.specs.declared.call.Who.{Who}
use Rattle.wire_pattern.specs.declared.call.Who.TheVariants.{Only}
use Rattle.wire_runs.specs.Patterns as plan
use Rattle.wire_pattern.specs.Instances.{cast_of, process_text}
use Rattle.wire_pattern.specs.Views.{who_by}
use Rattle.wire_instances.proofs.Loops.{index_step}
use Rattle.wire_instances.proofs.Texts.{get_or_same}
use Rattle.wire_instances.proofs.words.write_others.Goals as goal

-- what a read past the end would give
abbrev nobody : Who
nobody = Only 0

pub loop-who-preserved : goal.loop-who-preserved
loop-who-preserved c =
    let f = c.args.frame.now in
    let others = c.args.others.now in
    let i = c.loop-who.who-index in
    index_step who_by (λ w. process_text f.pattern f.cast (plan.who (cast_of f.cast) c.args.calling.caller c.args.calling.each w)) others i (get_or others i nobody) 44 93
    c.loop-who.out.items c.write_who.new.out.items _ c.loop-who-test.true (get_or_same others i nobody c.loop-who-test.true)
    (c.in_ok-write_who.ensures ∙ ap (λ t. t ++ process_text f.pattern f.cast (plan.who (cast_of f.cast) c.args.calling.caller c.args.calling.each (who_by (get_or others i nobody)))) c.in_ok-push.ensures.items)
    c.loop-who.invariant

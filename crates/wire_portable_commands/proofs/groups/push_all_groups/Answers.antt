use Rattle.std.proofs.Common.{ap, sym, flat_map}
use Rattle.std.proofs.lemmas.List.{drop_all}
use Rattle.wire_types.specs.Texts.{lists_of}
use Rattle.wire_report.proofs.Appended.{next_text, none_left}
use Rattle.wire_portable_commands.specs.Lines.{group_of_rule}
use Rattle.wire_portable_commands.proofs.groups.push_all_groups.Goals as goal

pub loop-rule-preserved : goal.loop-rule-preserved
loop-rule-preserved c =
    next_text (group_of_rule c.args.places.name.now (lists_of c.args.places.rows.now) c.args.scripts.now c.args.lines.now) _ c.loop-rule.rule-index _ _ _ _
    c.loop-rule-test.true c.loop-rule.invariant c.in_ok-push_rule.ensures

pub returns : goal.returns
returns c =
    none_left _ _ _ (ap (flat_map (group_of_rule c.args.places.name.now (lists_of c.args.places.rows.now) c.args.scripts.now c.args.lines.now))
    (drop_all c.loop-rule.rule-index _ c.loop-rule-test.false)) (sym c.loop-rule.invariant)

use Rattle.std.proofs.Common.{◌∙◌, ap, sym, ◌+◌, List, ◌++◌, drop, append-nil, append_assoc}
use Rattle.std.proofs.lemmas.List.{at_drop_more, at_drop_all}
use Rattle.std.specs.List.{flat_map}
use Rattle.wire_types.specs.Texts.{lists_of}
use Rattle.wire_report.specs.declared.tally.Group.{Group}
use Rattle.wire_report.specs.GroupedText.{group_text}
use Rattle.wire_report.proofs.grouped_text.push_all_groups.Goals as goal

pub loop-group-preserved : goal.loop-group-preserved
loop-group-preserved c =
    let out = c.loop-group.out.items in
    let line = group_text c.args.places.name.now c.args.scripts.now (lists_of c.args.places.rows.now) c.args.findings.now in
    let rest = flat_map line (drop (c.loop-group.group-index + 1) c.args.groups.now) in
    c.loop-group.invariant
    ∙ at_drop_more (λ (groups : List Group). out ++ flat_map line groups) c.args.groups.now c.loop-group.group-index _ c.loop-group-test.true
    ∙ sym (append_assoc out _ rest)
    ∙ ap (λ written. written ++ rest) (sym c.in_ok-push_group.ensures)

pub returns : goal.returns
returns c =
    let line = group_text c.args.places.name.now c.args.scripts.now (lists_of c.args.places.rows.now) c.args.findings.now in
    sym (
    c.loop-group.invariant
    ∙ at_drop_all (λ (groups : List Group). c.loop-group.out.items ++ flat_map line groups) c.args.groups.now c.loop-group.group-index c.loop-group-test.false
    ∙ append-nil c.loop-group.out.items
    )

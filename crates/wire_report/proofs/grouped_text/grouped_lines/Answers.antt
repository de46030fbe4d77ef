use Rattle.std.proofs.Common.{◌∙◌}
use Rattle.wire_types.specs.Texts.{lists_of}
use Rattle.wire_report.specs.GroupedText.{groups_report}
use Rattle.wire_report.proofs.grouped_text.grouped_lines.Goals as goal

pub returns : goal.returns
returns c = record {
  ok = record {
    groups = c.in_ok-groups.groups.items;
    grouped = c.in_ok-groups.ensures;
    tells = c.in_ok-text.ensures ∙ (λ i. groups_report c.args.places.name.now c.args.scripts.now (lists_of c.args.places.rows.now) c.args.findings.now (c.as_slice.ensures.value i));
  };
  err = tt;
}

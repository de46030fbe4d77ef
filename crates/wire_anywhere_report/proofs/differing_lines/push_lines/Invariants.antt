use Rattle.std.proofs.Common.{◌≡◌, ◌++◌, drop}
use Rattle.std.specs.List.{flat_map}
use Rattle.wire_types.specs.Forms.{has_places}
use Rattle.wire_types.specs.Texts.{lists_of}
use Rattle.wire_anywhere_report.specs.Differing.{differs_line}
use Rattle.wire_anywhere_report.proofs.differing_lines.push_lines.Given as goal

-- what is written, and the lines of the calls that are left, are all lines
abbrev pub invariant-loop-one : goal.invariant-loop-one
invariant-loop-one l =
    l.fn.out.items ++ flat_map (differs_line (has_places l.form) l.places.name.now (lists_of l.places.rows.now) l.scripts) l.differing
    ≡ l.out.items ++ flat_map (differs_line (has_places l.form) l.places.name.now (lists_of l.places.rows.now) l.scripts) (drop l.one-index l.differing)

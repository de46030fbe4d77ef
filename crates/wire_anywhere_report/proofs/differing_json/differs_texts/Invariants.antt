use Rattle.std.proofs.Common.{◌≡◌, ◌++◌, map, drop}
use Rattle.wire_types.specs.Forms.{has_places}
use Rattle.wire_types.specs.Texts.{lists_of}
use Rattle.wire_anywhere_report.specs.Differing.{json_differs}
use Rattle.wire_anywhere_report.proofs.differing_json.differs_texts.Given as goal

-- the texts that are made, and those that are left, are all of them
abbrev pub invariant-loop-one : goal.invariant-loop-one
invariant-loop-one l =
    lists_of l.texts.items ++ map (json_differs (has_places l.form) (lists_of l.rows) l.scripts) (drop l.one-index l.differing)
    ≡ map (json_differs (has_places l.form) (lists_of l.rows) l.scripts) l.differing

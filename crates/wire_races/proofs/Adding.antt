-- Pieces that are added to a list of findings.
use Rattle.std.proofs.Common.{◌≡◌, List, ◌++◌, ⊎_elim}
use Rattle.wire_runs.specs.Plan.{Plan}
use Rattle.wire_findings.specs.declared.finding.Finding.{Finding as Told}
use Rattle.wire_findings.specs.Collected.{TellsFinding, AreFound}
use Rattle.wire_findings.proofs.Adding.{tells_old, tells_piece, tells_either}
use Rattle.wire_races.specs.Adding.{AddsFindings}

pub appended : (plan : Plan) (old new piece : List Told) → new ≡ old ++ piece → AreFound plan old → AreFound plan piece → AddsFindings plan old new (TellsFinding plan piece)
appended plan old new piece is old_found piece_found = record {
  found = λ f h. ⊎_elim (λ a. old_found f a) (λ b. piece_found f b) (tells_either plan old new piece is f h);
  kept = tells_old plan old new piece is;
  all = tells_piece plan old new piece is;
  only = tells_either plan old new piece is;
}

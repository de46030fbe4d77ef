use Rattle.std.proofs.Common.{refl}
use Rattle.std.proofs.lemmas.Result.{on_ok_weaker}
use Rattle.wire_runs.specs.Plan.{process_count}
use Rattle.wire_scripts.specs.Planned.{plan_of}
use Rattle.wire_anywhere.specs.Races.{IsShownOf, IsShown}
use Rattle.wire_anywhere.proofs.Pieces.{pieces_added}
use Rattle.wire_anywhere.proofs.Races.{shown_within, shown_below}
use Rattle.wire_anywhere.proofs.key_races.add_key_races.Goals as goal

pub returns : goal.returns
returns g c =
    let plan = plan_of c.args.marked.now in
    on_ok_weaker c.add_pieces.result (λ h. pieces_added plan (process_count plan) (IsShownOf plan) (IsShown plan) c.in_ok-pieces.pieces.items c.args.found.now c.add_pieces.new.found
    (λ k f t. (t.0, t.1))
    (λ f s. (s.0.proc, shown_below plan s.0 f s.1, (s.0, s.1, refl, shown_within plan s.0 f s.1)))
    c.in_ok-pieces.ensures (h plan)) c.add_pieces.ensures

use Rattle.wire_runs.proofs.PlacingReplies.{replies_anywhere}
use Rattle.wire_runs.proofs.placing_laws.replies_anywhere.Goals as goal

pub returns : goal.returns
returns c = replies_anywhere

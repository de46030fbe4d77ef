use Rattle.wire_runs.proofs.OneMore.{cuts_tell_steps}
use Rattle.wire_runs.proofs.laws.cuts_tell_steps.Goals as goal

pub returns : goal.returns
returns c = cuts_tell_steps

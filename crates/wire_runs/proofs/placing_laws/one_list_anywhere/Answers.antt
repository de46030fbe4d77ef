use Rattle.wire_runs.proofs.FindingsAnywhere.{one_list_anywhere}
use Rattle.wire_runs.proofs.placing_laws.one_list_anywhere.Goals as goal

pub returns : goal.returns
returns c = one_list_anywhere

use Rattle.wire_library_laws.proofs.Stuck.{ends_by_rules}
use Rattle.wire_library_laws.proofs.laws.ends_by_rules.Goals as goal

pub returns : goal.returns
returns c = ends_by_rules

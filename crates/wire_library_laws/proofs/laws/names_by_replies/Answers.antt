use Rattle.wire_library_laws.proofs.Names.{names_by_replies}
use Rattle.wire_library_laws.proofs.laws.names_by_replies.Goals as goal

pub returns : goal.returns
returns c = names_by_replies

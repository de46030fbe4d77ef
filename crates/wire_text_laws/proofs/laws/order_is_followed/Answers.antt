use Rattle.wire_text_laws.proofs.Followed.{order_is_followed}
use Rattle.wire_text_laws.proofs.laws.order_is_followed.Goals as goal

pub returns : goal.returns
returns c = order_is_followed

use Rattle.std.proofs.Common.{◌≡◌, false, subst}
use Rattle.std.proofs.lemmas.Result.{on_ok_weaker}
use Rattle.wire_portable.specs.Libraries.{has}
use Rattle.wire_portable.proofs.Sets.{not_all}
use Rattle.wire_portable.proofs.fences.add_apart.Goals as goal

pub returns : goal.returns
returns c = on_ok_weaker c.blame.result (λ h library free. not_all library (subst (λ s. has s library ≡ false) c.all.ensures (h library free).1)) c.blame.ensures

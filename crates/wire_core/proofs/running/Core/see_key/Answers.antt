use Rattle.std.proofs.Common.{◌≡◌, ◌==◌, sym, false}
use Rattle.wire_core.proofs.running.Core.see_key.Goals as goal

pub returns : goal.returns
returns c =
    let other : (c.args.reader.number == c.args.owner.number) ≡ false = sym c.if-eq.ensures in
    rw other c.see_other.ensures

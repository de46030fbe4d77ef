use Rattle.std.proofs.lemmas.Result.{on_ok_weaker}
use Rattle.wire_portable.proofs.Added.{adds_all}
use Rattle.wire_portable.proofs.search.Search.add_sweep.Goals as goal

pub returns : goal.returns
returns c = on_ok_weaker c.blame.result (λ h. adds_all c.args.found.now c.blame.new.self _ h) (rw c.all.ensures at c.blame.ensures)

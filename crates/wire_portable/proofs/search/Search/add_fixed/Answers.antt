use Rattle.std.proofs.lemmas.Result.{on_ok_weaker}
use Rattle.wire_portable.proofs.Added.{adds_both}
use Rattle.wire_portable.proofs.search.Search.add_fixed.Goals as goal

pub returns : goal.returns
returns c = on_ok_weaker c.blame.result (λ h. adds_both c.args.found.now c.add_untold.new.found c.blame.new.self _ _ _ (λ library known blamed. known) c.in_ok-add_untold.ensures h) c.blame.ensures

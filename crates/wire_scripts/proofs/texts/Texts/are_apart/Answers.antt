use Rattle.std.proofs.Common.{subst}
use Rattle.wire_scripts.specs.Apart.{AreDistinct}
use Rattle.wire_scripts.proofs.texts.Texts.are_apart.Goals as goal

pub returns : goal.returns
returns c = subst AreDistinct c.self.view_is c.self.invariant.1

use Rattle.std.proofs.Common.{refl}
use Rattle.std.specs.Str.{bytes_eq}
use Rattle.wire_scripts.proofs.Same.{compared}
use Rattle.wire_scripts.proofs.texts.TextsPartialEq.eq.Goals as goal

pub returns : goal.returns
returns c = compared (λ v. v.items) _ bytes_eq (λ v w. refl) c.eq.ensures c.as_slice.ensures.value c.as_slice-2.ensures.value c.self.view_is c.other.view_is

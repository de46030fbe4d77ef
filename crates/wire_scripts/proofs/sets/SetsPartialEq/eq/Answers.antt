use Rattle.std.specs.Str.{bytes_eq}
use Rattle.wire_scripts.specs.Scripts.{numbers_of}
use Rattle.wire_scripts.proofs.SetTable.{same_numbers}
use Rattle.wire_scripts.proofs.Same.{compared}
use Rattle.wire_scripts.proofs.sets.SetsPartialEq.eq.Goals as goal

pub returns : goal.returns
returns c =
    compared (λ v. numbers_of v.items) _ bytes_eq (λ v w. same_numbers v.items w.items) c.eq.ensures c.as_slice.ensures.value c.as_slice-2.ensures.value
    c.self.view_is c.other.view_is

use Rattle.std.proofs.Common.{◌∙◌, ap}
use Rattle.std.specs.List.{list_all}
use Rattle.std.specs.Borrow.{Bor}
use Rattle.std.specs.Prelude.{List, ℕ}
use Rattle.wire_reader.specs.FirstPass.{is_short_name}
use Rattle.wire_pattern_script.proofs.Mapped.{all_of}
use Rattle.wire_pattern_script.proofs.first_pass.is_short.Goals as goal

pub returns-in-Begin : goal.returns-in-Begin
returns-in-Begin c =
    rw c.in-Begin.is (c.are_short_names.ensures ∙ ap (list_all (λ n. is_short_name n.now)) c.deref.ensures.value
    ∙ all_of (λ (w : Bor (List ℕ)). w.now) is_short_name c.in-Begin.roles.items)

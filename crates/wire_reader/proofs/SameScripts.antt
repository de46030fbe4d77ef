-- Scripts of the same parts are the same.
use Rattle.std.proofs.Common.{◌≡◌, ◌∙◌, ap, ℕ, List, Bool}
use Rattle.wire_types.specs.declared.Version.{Version}
use Rattle.wire_scripts.specs.Scripts.{Process}
use Rattle.wire_reader.specs.Reads.{Seen}
use Rattle.wire_reader.specs.Tabled.{scripts_said}

pub same_scripts : (version : Version) (keeps : Bool) (n nodes j jobs : List (List ℕ)) (t seen : Seen) (ps : List Process) → n ≡ nodes → j ≡ jobs → t ≡ seen
    → scripts_said version keeps n j t ps ≡ scripts_said version keeps nodes jobs seen ps
same_scripts version keeps n nodes j jobs t seen ps a b c =
    ap (λ x. scripts_said version keeps x j t ps) a ∙ ap (λ x. scripts_said version keeps nodes x t ps) b ∙ ap (λ x. scripts_said version keeps nodes jobs x ps) c

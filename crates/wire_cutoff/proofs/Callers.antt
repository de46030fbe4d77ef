-- A process whose role isn't there has no turns.
use Rattle.std.proofs.Common.{◌≡◌, ◌∙◌, ap, sym, ℕ, ◌≤◌, List, ◌++◌, map, length, None, append-nil, arith}
use Rattle.std.specs.Prelude.{slice_get}
use Rattle.std.proofs.lemmas.List.{length-map}
use Rattle.std.proofs.lemmas.Option.{slice_get_past}
use Rattle.wire_pattern.specs.declared.pattern.Role.{Role}
use Rattle.wire_pattern.specs.Pattern as spec
use Rattle.wire_pattern.specs.Pattern.{Pattern}
use Rattle.wire_pattern.specs.Planned.{steps_in}
use Rattle.wire_pattern.specs.Views.{role_by}
use Rattle.wire_pattern.specs.Instances.{Turn}
use Rattle.wire_cutoff_laws.specs.Choices.{steps_turns}

pub no_role : (p : Pattern) (roles : List Role) (n : ℕ) (all : List ℕ) (v : ℕ) (turns : List Turn) → map role_by roles ≡ p.roles → length roles ≤ n
    → turns ≡ turns ++ steps_turns all v 0 (steps_in (slice_get p.roles n))
no_role p roles n all v turns is past = sym (ap (λ o. turns ++ steps_turns all v 0 (steps_in o)) none ∙ append-nil turns)
  where
    none : slice_get p.roles n ≡ None
    none = slice_get_past p.roles n (omega (arith, past, ap length is, length-map {A = Role} {B = spec.Role}))

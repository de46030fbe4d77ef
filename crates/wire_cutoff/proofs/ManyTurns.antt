-- The turns of the largest instance that may be taken or not.
use Rattle.std.proofs.Common.{◌≡◌, ◌∙◌, ap, sym, refl, ℕ, ◌<◌, ◌≤◌, List, map, length, get_or, arith}
use Rattle.std.specs.Prelude.{slice_get, option_map}
use Rattle.std.proofs.lemmas.List.{length-map}
use Rattle.std.proofs.lemmas.Option.{slice_get-map, slice_get_read}
use Rattle.wire_types.specs.declared.Fault.TheVariants.{TooMany}
use Rattle.wire_pattern.specs.Pattern.{Pattern}
use Rattle.wire_pattern.specs.Instances.{roles_from}
use Rattle.wire_instances.specs.declared.cast.Turn.{Turn}
use Rattle.wire_instances.specs.Views.{turn_by}
use Rattle.wire_cutoff_laws.specs.Choices.{callers_turns, optional_turns}
use Rattle.wire_cutoff.specs.Selections.{most_sizes}
use Rattle.wire_cutoff.specs.Judged.{turn_line, HasManyTurns, HasFewTurns}

-- more turns than may be open
pub many_turns : (p : Pattern) (sizes roles : List ℕ) (turns : List Turn) (t : Turn) (line : ℕ) → sizes ≡ most_sizes p.roles → roles ≡ roles_from 0 sizes
    → map turn_by turns ≡ callers_turns p roles 0 roles → 20 < length turns → t ≡ get_or turns 20 t → line ≡ turn_line p roles (turn_by t)
    → HasManyTurns p (TooMany line)
many_turns p sizes roles turns t line most is are more at line_is = (
  turn_by t,
  ap (λ rs. slice_get (callers_turns p rs 0 rs) 20) (sym roles_are) ∙ ap (λ ts. slice_get ts 20) (sym are) ∙ slice_get-map turn_by turns 20
      ∙ ap (option_map turn_by) (slice_get_read turns (length turns) 20 t refl more at),
  ap TooMany (line_is ∙ ap (λ rs. turn_line p rs (turn_by t)) roles_are),
)
  where
    roles_are : roles ≡ roles_from 0 (most_sizes p.roles)
    roles_are = is ∙ ap (roles_from 0) most

-- or no more
pub few_turns : (p : Pattern) (sizes roles : List ℕ) (turns : List Turn) → sizes ≡ most_sizes p.roles → roles ≡ roles_from 0 sizes
    → map turn_by turns ≡ callers_turns p roles 0 roles → length turns ≤ 20 → HasFewTurns p
few_turns p sizes roles turns most is are few =
    let count : length (map turn_by turns) ≡ length turns = length-map turns turn_by in
    let own : length (map turn_by turns) ≡ length (optional_turns p (most_sizes p.roles)) =
    ap length (are ∙ ap (λ rs. callers_turns p rs 0 rs) (is ∙ ap (roles_from 0) most)) in
    omega (arith, count, own, few)

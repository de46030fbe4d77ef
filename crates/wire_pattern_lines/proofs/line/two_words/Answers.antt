use Rattle.std.proofs.Common.{◌≡◌, ◌≢◌, ◌∷◌, [], List, ℕ, true, false}
use Rattle.wire_runs.specs.Patterns.{Turns}
use Rattle.wire_pattern_lines.specs.Said.{is_role_name, are_loop_roles, turn_words}
use Rattle.wire_pattern_lines.proofs.RoleLists.{no_round}
use Rattle.wire_pattern_lines.proofs.Through.{none_through}
use Rattle.wire_pattern_lines.proofs.line.two_words.Goals as goal

pub returns-then-is_text-clause-none : goal.returns-then-is_text-clause-none
returns-then-is_text-clause-none c =
    none_through (is_role_name c.args.first.now ≡ false)
    ((turns : Turns) (roles : List (List ℕ)) → are_loop_roles turns roles ≡ true → c.args.first.now ∷ c.args.second.now ∷ [] ≢ turn_words turns roles)
    c.round_loop.result
    (no_round c.args.first.now c.args.second.now (c.is_text.ensures.0 c.if-is_text.true))
    c.round_loop.ensures.none

-- The turns of loops of `for some` that may be taken or not, and what is taken of them.
use Rattle.std.specs.Prelude.{ℕ, ◌+◌, ◌==◌, ◌&&◌, Bool, false, not, List, [], ◌∷◌, ◌++◌, slice_get, if◌then◌else◌}
use Rattle.std.specs.List.{list_all}
use Rattle.wire_types.specs.Said.{is_reserved}
use Rattle.wire_runs.specs.Patterns.{InOrder, Round, Chosen, Cast}
use Rattle.wire_pattern.specs.Pattern.{Call, GetNow, Lookup, Line, Step, Once, Loop, Pattern}
use Rattle.wire_pattern.specs.Planned.{steps_in}
use Rattle.wire_pattern.specs.Instances.{Turn, is_taken, roles_from}

-- a call that only reads: more of these take no finding away
abbrev pub is_read_call : Call → Bool
is_read_call (GetNow owner key) = not (is_reserved key.base)
is_read_call (Lookup name) = not (is_reserved name.base)
is_read_call _ = false

-- a loop of reads is taken whole
abbrev pub are_reads : List Line → Bool
are_reads lines = list_all (λ l. is_read_call l.call) lines

-- the turns of a step of the caller v for the processes of a role but v, where the first of these roles is of process e
abbrev pub turns_for : ℕ → ℕ → ℕ → ℕ → List ℕ → List Turn
turns_for v i role e [] = []
turns_for v i role e (r ∷ roles) =
    if (r == role) && not (e == v) then record { caller = v; step = i; each = e } ∷ turns_for v i role (e + 1) roles
    else turns_for v i role (e + 1) roles

-- those of a step that may be left out, where the processes have these roles
abbrev pub step_turns : List ℕ → ℕ → ℕ → Step → List Turn
step_turns roles v i (Once line) = []
step_turns roles v i (Loop number role InOrder lines) = []
step_turns roles v i (Loop number role Round lines) = []
step_turns roles v i (Loop number role Chosen lines) = if are_reads lines then [] else turns_for v i role 0 roles

abbrev pub steps_turns : List ℕ → ℕ → ℕ → List Step → List Turn
steps_turns roles v i [] = []
steps_turns roles v i (step ∷ steps) = step_turns roles v i step ++ steps_turns roles v (i + 1) steps

-- those of these processes, of which the first is v
abbrev pub callers_turns : Pattern → List ℕ → ℕ → List ℕ → List Turn
callers_turns p all v [] = []
callers_turns p all v (role ∷ roles) = steps_turns all v 0 (steps_in (slice_get p.roles role)) ++ callers_turns p all (v + 1) roles

-- those of all processes
abbrev pub optional_turns : Pattern → List ℕ → List Turn
optional_turns p sizes = callers_turns p (roles_from 0 sizes) 0 (roles_from 0 sizes)

-- whether each of these turns is taken
abbrev pub chosen_by : List Turn → List Bool → List (Turn × Bool)
chosen_by [] bits = []
chosen_by (turn ∷ turns) [] = []
chosen_by (turn ∷ turns) (bit ∷ bits) = (turn, bit) ∷ chosen_by turns bits

-- so many processes of each role, with these turns taken, on these nodes
abbrev pub cast_on : List ℕ → List (Turn × Bool) → (ℕ → ℕ) → Cast
cast_on sizes chosen nodes = record {
  roles = roles_from 0 sizes;
  chosen = λ p i e. is_taken chosen (record { caller = p; step = i; each = e });
  nodes = nodes;
}

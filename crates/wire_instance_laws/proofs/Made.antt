-- The calls of a process of an instance, each a line in a turn: what the text says of them, and what they are in the plan.
use Rattle.std.proofs.Common.{◌≡◌, ◌∙◌, ap, sym, refl, ℕ, suc, ◌<◌, List, [], ◌∷◌, ◌++◌, map, flat_map, length, Bool, true, slice_get}
use Rattle.std.specs.Prelude.{◌&&◌, nat_lt}
use Rattle.std.specs.List.{list_all}
use Rattle.std.proofs.lemmas.List.{map-append}
use Rattle.wire_types.specs.Said as said
use Rattle.wire_runs.specs.Plan as runs
use Rattle.wire_runs.specs.Patterns as plan
use Rattle.wire_runs.specs.Patterns.{Coding, Turns, turns, call_in, loop_calls, calls_from}
use Rattle.wire_lines.proofs.Colon.{and_left, and_right}
use Rattle.wire_pattern.specs.Pattern.{Line, Step, Once, Loop, Role, Pattern}
use Rattle.wire_pattern.specs.Planned.{line_of, step_of}
use Rattle.wire_pattern.specs.Instances.{Cast, cast_of, call_said, turns_said, step_said, steps_said, step_lines, steps_lines}
use Rattle.wire_pattern.specs.Lawful.{is_sound_call, is_loop_call, waits_after_step, is_sound_step, are_sound_steps}
use Rattle.wire_instance_laws.proofs.Roles.{EachOf, each_both, turns_low}

-- a line, in the turn for a process
abbrev pub Turned : Type 0
Turned = ℕ × Line

abbrev pub in_turn : ℕ → Line → Turned
in_turn e line = (e, line)

abbrev pub in_turns : List Line → List ℕ → List Turned
in_turns lines [] = []
in_turns lines (e ∷ es) = map (in_turn e) lines ++ in_turns lines es

abbrev pub in_step : plan.Cast → ℕ → ℕ → Step → List Turned
in_step cast v i (Once line) = in_turn v line ∷ []
in_step cast v i (Loop number role mode lines) = in_turns lines (turns cast v i role mode)

-- the calls of v, from step number i on
abbrev pub in_steps : plan.Cast → ℕ → ℕ → List Step → List Turned
in_steps cast v i [] = []
in_steps cast v i (step ∷ steps) = in_step cast v i step ++ in_steps cast v (suc i) steps

module _ (p : Pattern) (cast : Cast) (v : ℕ) where
  abbrev pub said_by : Turned → said.Call
  said_by t = call_said p cast v t.0 t.1.call

  lines_said : (e : ℕ) (lines : List Line) → map (λ l. call_said p cast v e l.call) lines ≡ map said_by (map (in_turn e) lines)
  lines_said e [] = refl
  lines_said e (line ∷ lines) = ap (λ cs. call_said p cast v e line.call ∷ cs) (lines_said e lines)

  turns_are_said : (lines : List Line) (es : List ℕ) → turns_said p cast v lines es ≡ map said_by (in_turns lines es)
  turns_are_said lines [] = refl
  turns_are_said lines (e ∷ es) =
      (λ i. lines_said e lines i ++ turns_are_said lines es i) ∙ sym (map-append said_by (map (in_turn e) lines) (in_turns lines es))

  step_is_said : (i : ℕ) (step : Step) → step_said p cast v i step ≡ map said_by (in_step (cast_of cast) v i step)
  step_is_said i (Once line) = refl
  step_is_said i (Loop number role mode lines) = turns_are_said lines (turns (cast_of cast) v i role mode)

  pub steps_are_said : (i : ℕ) (steps : List Step) → steps_said p cast v i steps ≡ map said_by (in_steps (cast_of cast) v i steps)
  steps_are_said i [] = refl
  steps_are_said i (step ∷ steps) =
      (λ j. step_is_said i step j ++ steps_are_said (suc i) steps j) ∙ sym (map-append said_by (in_step (cast_of cast) v i step) (in_steps (cast_of cast) v (suc i) steps))

-- the numbers of their lines
abbrev pub number_by : Turned → ℕ
number_by t = t.1.number

lines_numbered : (e : ℕ) (lines : List Line) → map (λ (l : Line). l.number) lines ≡ map number_by (map (in_turn e) lines)
lines_numbered e [] = refl
lines_numbered e (line ∷ lines) = ap (λ ns. line.number ∷ ns) (lines_numbered e lines)

turns_are_numbered : (lines : List Line) (es : List ℕ) → flat_map (λ (e : ℕ). map (λ (l : Line). l.number) lines) es ≡ map number_by (in_turns lines es)
turns_are_numbered lines [] = refl
turns_are_numbered lines (e ∷ es) =
    (λ i. lines_numbered e lines i ++ turns_are_numbered lines es i) ∙ sym (map-append number_by (map (in_turn e) lines) (in_turns lines es))

step_is_numbered : (cast : Cast) (v i : ℕ) (step : Step) → step_lines cast v i step ≡ map number_by (in_step (cast_of cast) v i step)
step_is_numbered cast v i (Once line) = refl
step_is_numbered cast v i (Loop number role mode lines) = turns_are_numbered lines (turns (cast_of cast) v i role mode)

pub steps_are_numbered : (cast : Cast) (v i : ℕ) (steps : List Step) → steps_lines cast v i steps ≡ map number_by (in_steps (cast_of cast) v i steps)
steps_are_numbered cast v i [] = refl
steps_are_numbered cast v i (step ∷ steps) =
    (λ j. step_is_numbered cast v i step j ++ steps_are_numbered cast v (suc i) steps j)
    ∙ sym (map-append number_by (in_step (cast_of cast) v i step) (in_steps (cast_of cast) v (suc i) steps))

module _ (roles : List Role) (coding : Coding) (cast : plan.Cast) (v : ℕ) where
  abbrev pub call_by : Turned → runs.Call
  call_by t = call_in coding cast v t.0 (line_of roles t.1.call)

  lines_called : (e : ℕ) (lines : List Line) → map (call_in coding cast v e) (map (λ l. line_of roles l.call) lines) ≡ map call_by (map (in_turn e) lines)
  lines_called e [] = refl
  lines_called e (line ∷ lines) = ap (λ cs. call_in coding cast v e (line_of roles line.call) ∷ cs) (lines_called e lines)

  turns_are_called : (lines : List Line) (es : List ℕ) → loop_calls coding cast v (map (λ l. line_of roles l.call) lines) es ≡ map call_by (in_turns lines es)
  turns_are_called lines [] = refl
  turns_are_called lines (e ∷ es) =
      (λ i. lines_called e lines i ++ turns_are_called lines es i) ∙ sym (map-append call_by (map (in_turn e) lines) (in_turns lines es))

  step_is_called : (i : ℕ) (step : Step) → plan.step_calls coding cast v i (step_of roles step) ≡ map call_by (in_step cast v i step)
  step_is_called i (Once line) = refl
  step_is_called i (Loop number role mode lines) = turns_are_called lines (turns cast v i role mode)

  pub steps_are_called : (i : ℕ) (steps : List Step) → calls_from coding cast v i (map (step_of roles) steps) ≡ map call_by (in_steps cast v i steps)
  steps_are_called i [] = refl
  steps_are_called i (step ∷ steps) =
      (λ j. step_is_called i step j ++ steps_are_called (suc i) steps j) ∙ sym (map-append call_by (in_step cast v i step) (in_steps cast v (suc i) steps))

-- a sound call of a process of the role, in a turn for one of so many processes
pub record IsGoodCall (p : Pattern) (count role : ℕ) (t : Turned) : Type 0 where
  pub each : t.0 < count
  pub sound : is_sound_call (length p.jobs) p.roles role t.1.call ≡ true

module _ (p : Pattern) (role : ℕ) (cast : plan.Cast) (v : ℕ) (low : v < length cast.roles) where
  abbrev Good : Turned → Type 0
  Good t = IsGoodCall p (length cast.roles) role t

  lines_good : (turns : Turns) (group e : ℕ) (lines : List Line) → e < length cast.roles
      → list_all (λ l. is_sound_call (length p.jobs) p.roles role l.call && is_loop_call p.roles group turns l.call) lines ≡ true → EachOf Good (map (in_turn e) lines)
  lines_good turns group e [] low_e h = tt
  lines_good turns group e (line ∷ lines) low_e h =
      (record { each = low_e; sound = and_left _ _ (and_left _ _ h) }, lines_good turns group e lines low_e (and_right _ _ h))

  turns_good : (turns : Turns) (group : ℕ) (lines : List Line) (es : List ℕ) → EachOf (λ e. e < length cast.roles) es
      → list_all (λ l. is_sound_call (length p.jobs) p.roles role l.call && is_loop_call p.roles group turns l.call) lines ≡ true → EachOf Good (in_turns lines es)
  turns_good turns group lines [] lows h = tt
  turns_good turns group lines (e ∷ es) lows h = each_both Good (map (in_turn e) lines) (in_turns lines es) (lines_good turns group e lines lows.0 h) (turns_good turns group lines es lows.1 h)

  step_good : (i : ℕ) (waits : Bool) (step : Step) → is_sound_step (length p.jobs) p.roles role waits step ≡ true → EachOf Good (in_step cast v i step)
  step_good i waits (Once line) h = (record { each = low; sound = and_left _ _ h }, tt)
  step_good i waits (Loop number group turns lines) h =
      turns_good turns group lines (plan.turns cast v i group turns) (turns_low cast v i group turns)
      (and_left _ _ (and_right (nat_lt group (length p.roles)) _ h))

  pub steps_good : (i : ℕ) (waits : Bool) (steps : List Step) → are_sound_steps (length p.jobs) p.roles role waits steps ≡ true → EachOf Good (in_steps cast v i steps)
  steps_good i waits [] h = tt
  steps_good i waits (step ∷ steps) h =
      each_both Good (in_step cast v i step) (in_steps cast v (suc i) steps) (step_good i waits step (and_left _ _ h))
      (steps_good (suc i) (waits_after_step waits step) steps (and_right (is_sound_step (length p.jobs) p.roles role waits step) _ h))

-- A plan whose events are right, by tables of the instance, keeps the stages.
use Rattle.std.proofs.Common.{◌≡◌, ◌∙◌, ap, sym, subst, refl, ℕ, zero, suc, ◌<◌, List, [], ◌∷◌, ◌++◌, map, Bool, true, false, Option, Some, None, ◌+◌, ◌⊎◌, inr, arith}
use Rattle.std.specs.Prelude.{slice_get, Vec}
use Rattle.std.specs.declared.alloc.Global.{Global}
use Rattle.std.proofs.lemmas.List.{append-nil}
use Rattle.std.specs.Prelude.{if◌then◌else◌}
use Rattle.wire_types.specs.Said.{is_reserved}
use Rattle.wire_types.specs.declared.Reply.{Reply}
use Rattle.wire_runs.specs.Plan.{Plan, Event, Kind, LookupWait, kind, process_count, event_count}
use Rattle.wire_runs.specs.Order.{Edge, Follows, Meets, Feeds, Announces}
use Rattle.wire_runs.specs.Patterns as plan
use Rattle.wire_runs.specs.Patterns.{turns}
use Rattle.wire_runs.specs.Restrictions.{script_in}
use Rattle.wire_runs.proofs.Basics.{event_within, process_within}
use Rattle.wire_pattern.specs.Pattern.{Call, Put, Commit, Fence, Get, GetNow, Publish, Lookup, LookupWait as CallLookupWait, Unpublish, UnpublishAll, Line, Step, Once, Loop, Role, Pattern, Indexed}
use Rattle.wire_pattern.specs.Planned.{pattern_of, line_of, step_of, steps_in, unless_reserved}
use Rattle.wire_pattern.specs.Instances.{Cast, cast_of}
use Rattle.wire_size_laws.specs.Stages as laws
use Rattle.wire_size_laws.specs.Stages.{Label, StageKey, is_leave, key_in, labels_from, labels_of}
use Rattle.wire_reply_laws.specs.Kept.{plan_key, next_of, KeepsStages}
use Rattle.wire_pattern_stages.specs.declared.labels.Label.{Label as CodeLabel}
use Rattle.wire_pattern_stages.specs.Lines.{call_labels, turn_labels, loop_labels, steps_labels, rows_labels}
use Rattle.wire_pattern_stages.specs.Rising.{IsRight, AreRight}
use Rattle.wire_pattern_stages.specs.Tables.{label_in, key_seen, rows_by}

-- a call of a key or a name is one event, whether it is reserved or not
one_label : (i l e : ℕ) (word : Indexed) (reply : Reply) (line : plan.Line) (lines : List plan.Line)
    → laws.turn_labels i l e (line ∷ lines) ≡ record { step = i; line = l; each = e } ∷ laws.turn_labels i (suc l) e lines
    → laws.turn_labels i l e (unless_reserved word reply line ∷ lines) ≡ record { step = i; line = l; each = e } ∷ laws.turn_labels i (suc l) e lines
one_label i l e word reply line lines plainly = go (is_reserved word.base)
  where
    go : (b : Bool) → laws.turn_labels i l e ((if b then plan.LineFixed reply else line) ∷ lines) ≡ record { step = i; line = l; each = e } ∷ laws.turn_labels i (suc l) e lines
    go true = refl
    go false = plainly

call_same : (roles : List Role) (i l e : ℕ) (call : Call) (lines : List plan.Line)
    → laws.turn_labels i l e (line_of roles call ∷ lines) ≡ call_labels i l e call ++ laws.turn_labels i (suc l) e lines
call_same roles i l e (Put scope key value) lines = one_label i l e key _ _ lines refl
call_same roles i l e Commit lines = refl
call_same roles i l e (Fence items collect) lines = refl
call_same roles i l e (Get owner key) lines = one_label i l e key _ _ lines refl
call_same roles i l e (GetNow owner key) lines = one_label i l e key _ _ lines refl
call_same roles i l e (Publish name value) lines = one_label i l e name _ _ lines refl
call_same roles i l e (Lookup name) lines = one_label i l e name _ _ lines refl
call_same roles i l e (CallLookupWait name) lines = one_label i l e name _ _ lines refl
call_same roles i l e (Unpublish name) lines = one_label i l e name _ _ lines refl
call_same roles i l e UnpublishAll lines = refl

turn_same : (roles : List Role) (i l e : ℕ) (lines : List Line) → laws.turn_labels i l e (map (λ line. line_of roles line.call) lines) ≡ turn_labels i l e lines
turn_same roles i l e [] = refl
turn_same roles i l e (line ∷ lines) =
    call_same roles i l e line.call (map (λ m. line_of roles m.call) lines) ∙ ap (λ ls. call_labels i l e line.call ++ ls) (turn_same roles i (suc l) e lines)

loop_same : (roles : List Role) (i : ℕ) (lines : List Line) (es : List ℕ) → laws.loop_labels i (map (λ line. line_of roles line.call) lines) es ≡ loop_labels i lines es
loop_same roles i lines [] = refl
loop_same roles i lines (e ∷ es) =
    ap (λ ls. ls ++ laws.loop_labels i (map (λ line. line_of roles line.call) lines) es) (turn_same roles i 0 e lines) ∙ ap (λ ls. turn_labels i 0 e lines ++ ls) (loop_same roles i lines es)

steps_same : (roles : List Role) (cast : Cast) (v i : ℕ) (steps : List Step) → labels_from (cast_of cast) v i (map (step_of roles) steps) ≡ steps_labels cast v i steps
steps_same roles cast v i [] = refl
steps_same roles cast v i (Once line ∷ steps) =
    ap (λ ls. ls ++ labels_from (cast_of cast) v (suc i) (map (step_of roles) steps)) (call_same roles i 0 v line.call [] ∙ append-nil (call_labels i 0 v line.call))
    ∙ ap (λ ls. call_labels i 0 v line.call ++ ls) (steps_same roles cast v (suc i) steps)
steps_same roles cast v i (Loop number role mode lines ∷ steps) =
    ap (λ ls. ls ++ labels_from (cast_of cast) v (suc i) (map (step_of roles) steps)) (loop_same roles i lines (turns (cast_of cast) v i role mode))
    ∙ ap (λ ls. loop_labels i lines (turns (cast_of cast) v i role mode) ++ ls) (steps_same roles cast v (suc i) steps)

-- the labels of a process, in rows
abbrev in_row : ℕ → Option (List Label) → Option Label
in_row at None = None
in_row at (Some row) = slice_get row at

row_in : (rows : List (Vec CodeLabel Global)) (v at : ℕ) → label_in at (slice_get rows v) ≡ in_row at (slice_get (rows_by rows) v)
row_in [] v at = refl
row_in (row ∷ rows) zero at = refl
row_in (row ∷ rows) (suc v) at = row_in rows v at

row_is : (p : Pattern) (cast : Cast) (k n at : ℕ) (roles : List ℕ)
    → in_row at (slice_get (rows_labels p cast k roles) n) ≡ slice_get (labels_from (cast_of cast) (k + n) 0 (script_in (pattern_of p) (slice_get roles n))) at
row_is p cast k n at [] = refl
row_is p cast k zero at (role ∷ roles) =
    let here : k ≡ k + 0 = omega arith in
    ap (λ ls. slice_get ls at) (sym (steps_same p.roles cast k 0 (steps_in (slice_get p.roles role))))
    ∙ ap (λ v. slice_get (labels_from (cast_of cast) v 0 (map (step_of p.roles) (steps_in (slice_get p.roles role)))) at) here
row_is p cast k (suc n) at (role ∷ roles) =
    let next : suc k + n ≡ k + suc n = omega arith in
    row_is p cast (suc k) n at roles ∙ ap (λ v. slice_get (labels_from (cast_of cast) v 0 (script_in (pattern_of p) (slice_get roles n))) at) next

module _ (p : Pattern) (cast : Cast) (stages : laws.Stages) (roles : List ℕ) (rows : List (Vec CodeLabel Global)) (the_plan : Plan)
    (roles_are : roles ≡ (cast_of cast).roles) (rows_are : rows_by rows ≡ rows_labels p cast 0 roles)
    (right : (q : ℕ) → q < process_count the_plan → AreRight (key_seen stages roles rows the_plan) the_plan q (event_count the_plan q)) where
  label_is : (v at : ℕ) → label_in at (slice_get rows v) ≡ slice_get (labels_of (pattern_of p) (cast_of cast) v) at
  label_is v at =
      let none : 0 + v ≡ v = omega arith in
      row_in rows v at ∙ ap (λ rs. in_row at (slice_get rs v)) rows_are ∙ row_is p cast 0 v at roles
      ∙ ap (λ w. slice_get (labels_from (cast_of cast) w 0 (script_in (pattern_of p) (slice_get roles v))) at) none
      ∙ ap (λ rs. slice_get (labels_from (cast_of cast) v 0 (script_in (pattern_of p) (slice_get rs v))) at) roles_are

  abbrev key : Event → StageKey
  key = plan_key stages (pattern_of p) (cast_of cast) the_plan

  key_is : (x : Event) → key_seen stages roles rows the_plan x ≡ key x
  key_is x =
      ap (λ l. key_in stages (slice_get roles x.proc) l (is_leave (kind the_plan x)) x.proc) (label_is x.proc x.at)
      ∙ ap (λ rs. key_in stages (slice_get rs x.proc) (slice_get (labels_of (pattern_of p) (cast_of cast) x.proc) x.at) (is_leave (kind the_plan x)) x.proc) roles_are

  keys_are : key_seen stages roles rows the_plan ≡ key
  keys_are = λ t x. key_is x t

  all_right : (y : Event) (k : Kind) → kind the_plan y ≡ Some k → IsRight key the_plan y
  all_right y k is =
      subst (λ f. IsRight f the_plan y) keys_are (right y.proc (process_within the_plan y.proc y.at k is) y.at (event_within the_plan y.proc y.at k is))

  pub keeps : KeepsStages stages (pattern_of p) (cast_of cast) the_plan
  keeps = record {
    one = λ y name is. (all_right y (LookupWait name) is).one name is;
    along = λ x k is. (all_right (next_of x) k is).along x refl;
    across = λ x y edge. across x y edge;
  }
    where
      across : (x y : Event) → Edge the_plan x y → laws.IsLess (key x) (key y) ⊎ ((x.proc ≡ y.proc) × (x.at < y.at))
      across x y (Follows same next) = inr (same, omega (arith, next))
      across x y (Meets members is a) = (all_right y _ is).across x (Meets members is a)
      across x y (Feeds k is other once stores) = (all_right y _ is).across x (Feeds k is other once stores)
      across x y (Announces name is once) = (all_right y _ is).across x (Announces name is once)

-- The text of an instance reads as this instance.
use Rattle.std.proofs.Common.{◌≡◌, ◌∙◌, ap, sym, subst, refl, ℕ, suc, ◌<◌, ◌≤◌, List, [], ◌∷◌, ◌++◌, map, length, Option, Some, slice_get, inl, inr, arith, zero-add}
use Rattle.std.proofs.lemmas.Bool.{cases_lt}
use Rattle.std.proofs.lemmas.List.{length-map}
use Rattle.std.proofs.lemmas.Option.{none-some, slice_get_past}
use Rattle.wire_types.specs.Said as said
use Rattle.wire_runs.specs.Plan as runs
use Rattle.wire_runs.specs.Plan.{Plan, Process, process_node, node_of}
use Rattle.wire_runs.specs.Ends.{process_calls, calls_of}
use Rattle.wire_runs.specs.Embeddings.{IsKeyOf, IsNameOf}
use Rattle.wire_runs.specs.Patterns as plan
use Rattle.wire_runs.specs.Patterns.{Coding, Turns, InOrder, Round, Chosen, turns, calls_from, instance_of}
use Rattle.wire_runs.specs.Placings.{IsPlacing}
use Rattle.wire_runs.specs.Renamed.{IsRenumbered}
use Rattle.wire_runs.specs.Restrictions.{on_nodes}
use Rattle.wire_runs.proofs.Lists.{slice_get-map_back, slice_get-map_kept}
use Rattle.wire_runs.proofs.PlacingCalls.{without_said, placing_by_calls}
use Rattle.wire_scripts.specs.Scripts.{Scripts, calls_in}
use Rattle.wire_scripts.specs.Planned.{planned_call, planned_process, plan_of}
use Rattle.wire_scripts.proofs.PlannedCalls.{calls_are}
use Rattle.wire_reader.specs.FirstPass.{Started}
use Rattle.wire_reader.specs.Reads.{seen_in, numbered, process_of, scripts_of}
use Rattle.wire_pattern.specs.Pattern.{Step, Once, Loop, Pattern}
use Rattle.wire_pattern.specs.Planned.{pattern_of, step_of, steps_in}
use Rattle.wire_pattern.specs.Instances.{Cast, IsCast, process_count, cast_of, steps_said}
use Rattle.wire_pattern.specs.Lawful.{IsSoundPattern}
use Rattle.wire_instance_laws.specs.Reading.{IsInstance, IsOfCast, InstancesRead}
use Rattle.wire_instance_laws.proofs.Roles.{each_at, count_is}
use Rattle.wire_instance_laws.proofs.Made.{Turned, in_turns, in_step, in_steps, said_by, steps_are_said, call_by, steps_are_called}
use Rattle.wire_instance_laws.proofs.Facts.{role_at}
use Rattle.wire_instance_laws.proofs.Lawful.{made_good}
use Rattle.wire_instance_laws.proofs.Declared.{IsDeclaredAs, declared_as, IsStarted, keeps_are, as_many, started, node_is}
use Rattle.wire_instance_laws.proofs.Calls.{moved_call, moved_process, moved_plan, moved_kinds, moved_nodes, moved_calls, processes_length, instance_calls, HasOne, key_in, name_in, key_used, name_used}
use Rattle.wire_instance_laws.proofs.Matched.{new_number, HasWords, words_there, calls_match}
use Rattle.wire_instance_laws.proofs.Apart.{IsUsed, used_once, key_of_call, name_of_call}

map_twice : {A B C : Type 0} (f : B → C) (g : A → B) (xs : List A) → map (λ x. f (g x)) xs ≡ map f (map g xs)
map_twice f g [] = refl
map_twice f g (x ∷ xs) = ap (λ ys. f (g x) ∷ ys) (map_twice f g xs)

none_past : (plan : Plan) (v : ℕ) → length plan.processes ≤ v → calls_of plan v ≡ []
none_past plan v past = ap process_calls (slice_get_past plan.processes v past)

none_in : (f : runs.Call → Option ℕ) (n : ℕ) → HasOne f [] n → ⊥
none_in f n h = none-some h.call h.is

module _ (p : Pattern) (cast : Cast) (sound : IsSoundPattern p) (is_cast : IsCast p cast) (a : IsDeclaredAs p cast) where
  abbrev roles : List ℕ
  roles = (cast_of cast).roles

  abbrev read : Scripts
  read = scripts_of a.d

  abbrev made : ℕ → ℕ → List Turned
  made v role = in_steps (cast_of cast) v 0 (steps_in (slice_get p.roles role))

  few : (v : ℕ) → v < length roles → v < process_count cast
  few v low = subst (λ n. v < n) (count_is cast) low

  -- what a process is
  process_is : (v role : ℕ) (st : Started) → IsStarted p cast sound is_cast a v role st → slice_get read.processes v ≡ Some (process_of a.d (seen_in a.d) st)
  process_is v role st i = slice_get-map_kept (process_of a.d (seen_in a.d)) a.d.processes v st i.at

  calls_in_are : (v role : ℕ) (st : Started) → IsStarted p cast sound is_cast a v role st
      → calls_in (slice_get read.processes v) ≡ map (numbered a.d (seen_in a.d) st.job) (steps_said p cast v 0 (steps_in (slice_get p.roles role)))
  calls_in_are v role st i =
      ap calls_in (process_is v role st i)
      ∙ map_twice (numbered a.d (seen_in a.d) st.job) (λ (c : ℕ × said.Call). c.1) st.calls
      ∙ ap (map (numbered a.d (seen_in a.d) st.job)) i.calls

  read_calls : (v role : ℕ) (st : Started) → IsStarted p cast sound is_cast a v role st
      → calls_of (plan_of read) v ≡ map (planned_call read) (map (numbered a.d (seen_in a.d) st.job) (map (said_by p cast v) (made v role)))
  read_calls v role st i =
      calls_are read v
      ∙ ap (map (planned_call read)) (calls_in_are v role st i ∙ ap (map (numbered a.d (seen_in a.d) st.job)) (steps_are_said p cast v 0 (steps_in (slice_get p.roles role))))

  planned_length : length (plan_of read).processes ≡ process_count cast
  planned_length =
      length-map read.processes (planned_process read) ∙ length-map a.d.processes (process_of a.d (seen_in a.d)) ∙ as_many p cast sound is_cast a

  module _ (coding : Coding) (nodes : ℕ → ℕ) where
    abbrev on : plan.Cast
    on = on_nodes nodes (cast_of cast)

    abbrev own : Plan
    own = instance_of (pattern_of p) coding on

    abbrev key : ℕ → ℕ
    key = new_number p cast coding (seen_in a.d).keys

    abbrev name : ℕ → ℕ
    name = new_number p cast coding (seen_in a.d).names

    turns_same : (v i role : ℕ) (mode : Turns) → turns on v i role mode ≡ turns (cast_of cast) v i role mode
    turns_same v i role InOrder = refl
    turns_same v i role Round = refl
    turns_same v i role Chosen = refl

    made_same : (v i : ℕ) (steps : List Step) → in_steps on v i steps ≡ in_steps (cast_of cast) v i steps
    made_same v i [] = refl
    made_same v i (Once line ∷ steps) = ap (λ ts. in_step on v i (Once line) ++ ts) (made_same v (suc i) steps)
    made_same v i (Loop number role mode lines ∷ steps) = λ j. in_turns lines (turns_same v i role mode j) ++ made_same v (suc i) steps j

    own_length : length own.processes ≡ length roles
    own_length = processes_length (pattern_of p) coding on 0 roles

    own_calls : (v role : ℕ) → slice_get roles v ≡ Some role → calls_of own v ≡ map (call_by p.roles coding on v) (made v role)
    own_calls v role at =
        instance_calls (pattern_of p) coding on 0 roles v role at
        ∙ ap (λ k. calls_from coding on k 0 (map (step_of p.roles) (steps_in (slice_get p.roles role)))) (zero-add v)
        ∙ steps_are_called p.roles coding on v 0 (steps_in (slice_get p.roles role))
        ∙ ap (map (call_by p.roles coding on v)) (made_same v 0 (steps_in (slice_get p.roles role)))

    same_calls : (v : ℕ) → map without_said (calls_of (plan_of read) v) ≡ map without_said (calls_of (moved_plan key name own) v)
    same_calls v = elim (cases_lt v (length roles)) [
      | inl low ↦
          let r = role_at p cast sound is_cast v (few v low) in
          let st = started p cast sound is_cast a v r.0 r.1 in
          ap (map without_said) (read_calls v r.0 st.0 st.1)
          ∙ calls_match p cast sound is_cast a coding nodes v r.0 st.0.job low (made v r.0) (made_good p cast sound is_cast a.few v r.0 r.1) (words_there p cast sound is_cast a coding nodes v r.0 st.0 st.1)
          ∙ ap (map without_said) (sym (moved_calls key name own v ∙ ap (map (moved_call key name)) (own_calls v r.0 r.1)))
      | inr past ↦
          let count = count_is cast in
          let long = planned_length in
          let own_long = own_length in
          ap (map without_said) (none_past (plan_of read) v (omega (arith, past, count, long)))
          ∙ sym (ap (map without_said) (moved_calls key name own v ∙ ap (map (moved_call key name)) (none_past own v (omega (arith, past, own_long)))))
    ]

    as_placing : IsPlacing (plan_of read) (moved_plan key name own)
    as_placing =
        placing_by_calls (plan_of read) (moved_plan key name own) (keeps_are p cast sound is_cast a)
        (planned_length ∙ sym (count_is cast) ∙ sym own_length ∙ sym (length-map own.processes (moved_process key name))) same_calls

    -- the keys and names that are used
    key_is_used : (n : ℕ) → IsKeyOf own n → IsUsed p cast coding (seen_in a.d).keys n
    key_is_used n is = from (key_used own n is).0 (key_used own n is).1
      where
        from : (v : ℕ) → HasOne key_in (calls_of own v) n → IsUsed p cast coding (seen_in a.d).keys n
        from v h = elim (cases_lt v (length roles)) [
          | inl low ↦
              let r = role_at p cast sound is_cast v (few v low) in
              let st = started p cast sound is_cast a v r.0 r.1 in
              let t = slice_get-map_back (call_by p.roles coding on v) (made v r.0) h.at h.call (ap (λ cs. slice_get cs h.at) (sym (own_calls v r.0 r.1)) ∙ h.is) in
              let good = each_at _ (made v r.0) h.at t.0 (made_good p cast sound is_cast a.few v r.0 r.1) t.1 in
              let has = each_at (λ x. HasWords a.d st.0.job (said_by p cast v x)) (made v r.0) h.at t.0 (words_there p cast sound is_cast a coding nodes v r.0 st.0 st.1) t.1 in
              key_of_call p cast sound is_cast a coding nodes v t.0.0 low good.each r.0 st.0.job n t.0.1.call good.sound has (ap key_in t.2 ∙ h.has)
          | inr past ↦ absurd (let own_long = own_length in none_in key_in n (subst (λ cs. HasOne key_in cs n) (none_past own v (omega (arith, past, own_long))) h))
        ]

    name_is_used : (n : ℕ) → IsNameOf own n → IsUsed p cast coding (seen_in a.d).names n
    name_is_used n is = from (name_used own n is).0 (name_used own n is).1
      where
        from : (v : ℕ) → HasOne name_in (calls_of own v) n → IsUsed p cast coding (seen_in a.d).names n
        from v h = elim (cases_lt v (length roles)) [
          | inl low ↦
              let r = role_at p cast sound is_cast v (few v low) in
              let st = started p cast sound is_cast a v r.0 r.1 in
              let t = slice_get-map_back (call_by p.roles coding on v) (made v r.0) h.at h.call (ap (λ cs. slice_get cs h.at) (sym (own_calls v r.0 r.1)) ∙ h.is) in
              let good = each_at _ (made v r.0) h.at t.0 (made_good p cast sound is_cast a.few v r.0 r.1) t.1 in
              let has = each_at (λ x. HasWords a.d st.0.job (said_by p cast v x)) (made v r.0) h.at t.0 (words_there p cast sound is_cast a coding nodes v r.0 st.0 st.1) t.1 in
              name_of_call p cast sound is_cast a coding nodes v t.0.0 low good.each r.0 st.0.job n t.0.1.call good.sound has (ap name_in t.2 ∙ h.has)
          | inr past ↦ absurd (let own_long = own_length in none_in name_in n (subst (λ cs. HasOne name_in cs n) (none_past own v (omega (arith, past, own_long))) h))
        ]

    as_renumbered : IsRenumbered own (moved_plan key name own) key name
    as_renumbered = record {
      calls = moved_kinds key name own;
      one_key = λ m n u w e. used_once p cast sound is_cast a coding (seen_in a.d).keys m n (key_is_used m u) (key_is_used n w) e;
      one_name = λ m n u w e. used_once p cast sound is_cast a coding (seen_in a.d).names m n (name_is_used m u) (name_is_used n w) e;
      nodes = moved_nodes key name own;
      keeps = refl;
    }

    as_instance : IsInstance p cast read coding nodes
    as_instance = record { other = moved_plan key name own; key = key; name = name; placing = as_placing; renumbered = as_renumbered }

  read_node : (v role : ℕ) (st : Started) → IsStarted p cast sound is_cast a v role st → node_of (plan_of read) v ≡ st.node
  unfolding node_of
  read_node v role st i = ap process_node (slice_get-map_kept (planned_process read) read.processes v (process_of a.d (seen_in a.d) st) (process_is v role st i))

  of_cast : IsOfCast p cast read
  of_cast = record {
    count = planned_length;
    nodes = λ v low.
        let r = role_at p cast sound is_cast v low in
        let st = started p cast sound is_cast a v r.0 r.1 in
        read_node v r.0 st.0 st.1 ∙ node_is p cast sound is_cast a v r.0 st.0 st.1 low;
    keeps = keeps_are p cast sound is_cast a;
    calls = λ v role at.
        let st = started p cast sound is_cast a v role at in
        ap length (calls_in_are v role st.0 st.1) ∙ length-map (steps_said p cast v 0 (steps_in (slice_get p.roles role))) (numbered a.d (seen_in a.d) st.0.job);
    instances = as_instance;
  }

pub instances_read : InstancesRead
instances_read p cast size s sound is_cast reads =
    let a = declared_as p cast sound is_cast size s reads in
    subst (IsOfCast p cast) (sym a.1) (of_cast p cast sound is_cast a.0)

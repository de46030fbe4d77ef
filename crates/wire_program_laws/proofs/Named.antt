-- What an answer names has happened before it.
use Rattle.std.proofs.Common.{◌≡◌, ℕ, ◌<◌, List, [], ◌∷◌, ◌++◌, Bool, true, false, Option, Some, None, is_some, ◌⊎◌, inl, inr, refl, sym, ap, ◌∙◌, subst, arith, eq-eqb, ne_eqb, length}
use Rattle.std.specs.Prelude.{slice_get, if◌then◌else◌}
use Rattle.std.proofs.lemmas.List.{length_push}
use Rattle.std.proofs.lemmas.Option.{none-some}
use Rattle.std.proofs.lemmas.Bool.{cond-true, cond-false, cond_both, cases_eq}
use Rattle.wire_runs.specs.Plan.{Plan, Event, Kind, Put, Commit, Arrive, Leave, Get, GetNow, Publish, Lookup, LookupWait, Unpublish, UnpublishAll, Fixed}
use Rattle.wire_runs.specs.Plan.{kind, event_count, node_of, same_node, admits}
use Rattle.wire_runs.specs.State.{Answer, Success, NotFound, Duplicate, Value, Published, Reserved, State, start, next_event, next_kind, IsDone}
use Rattle.wire_types.specs.declared.Reply.{Reply}
use Rattle.wire_runs.specs.Puts.{stored, scope_of}
use Rattle.wire_runs.specs.Sight.{Sight, Nothing, Outside, Shown, held, served, for_others, get_sees, brought, get_now_sees}
use Rattle.wire_runs.specs.Step.{sight_reply, lookup_reply, reply, is_enabled, step, IsInterleaving, run_from, IsReachable, is_publisher}
use Rattle.wire_runs.proofs.Brought.{bringer}
use Rattle.wire_runs.proofs.Getters.{greater_from, getter}
use Rattle.wire_runs.proofs.Due.{Sound, sound_start, sound_step, done_same, done_other, done_kept, place_path}
use Rattle.wire_runs.proofs.Known.{replies_same, replies_other}
use Rattle.wire_runs.proofs.Lists.{slice_get_push_cases}
use Rattle.wire_program_laws.proofs.Ahead.{own_below, stored_below, delivered_on}

-- the answers so far name what has happened, and a get names a put of the process whose key it gets
pub record Named (plan : Plan) (s : State) : Type 0 where
  pub sound : Sound plan s
  pub lengths : (p : ℕ) → length (s.replies p) ≡ s.done p
  pub puts : (y put : Event) → slice_get (s.replies y.proc) y.at ≡ Some (Value put) → IsDone s put
  pub got : (y put : Event) (owner key : ℕ) → slice_get (s.replies y.proc) y.at ≡ Some (Value put) → kind plan y ≡ Some (Get owner key) → put.proc ≡ owner
  pub publishes : (y z : Event) → slice_get (s.replies y.proc) y.at ≡ Some (Published z) → IsDone s z
  pub fixed : (y : Event) (a : Answer) (r : Reply) → slice_get (s.replies y.proc) y.at ≡ Some a → kind plan y ≡ Some (Fixed r) → a ≡ Reserved r

shown_by : (owner : ℕ) (sight : Sight) (put : Event) → sight_reply owner sight ≡ Value put → (sight ≡ Shown put.at) × (put.proc ≡ owner)
shown_by owner Nothing put h = cc
shown_by owner Outside put h = cc
shown_by owner (Shown u) put h = (cc, cc)

held_is : (o : Option ℕ) (u : ℕ) → held o ≡ Shown u → o ≡ Some u
held_is None u h = cc
held_is (Some v) u h = cc

served_is : (plan : Plan) (p : ℕ) (near : Bool) (o : Option ℕ) (u : ℕ) → served plan p near o ≡ Shown u → o ≡ Some u
served_is plan p near None u = λ h. cc
served_is plan p near (Some v) u =
    cond_both (admits (scope_of plan p v) near) (Shown v) Outside (λ (z : Sight). z ≡ Shown u → Some v ≡ Some u) (λ _ h. cc) (λ _ h. cc)

others_is : (plan : Plan) (p : ℕ) (o : Option ℕ) (u : ℕ) → for_others plan p o ≡ Some u → o ≡ Some u
others_is plan p None u = λ h. h
others_is plan p (Some v) u =
    cond_both (admits (scope_of plan p v) false) (Some v) None (λ (z : Option ℕ). z ≡ Some u → Some v ≡ Some u) (λ _ h. h) (λ _ h. absurd (none-some u h))

module _ (plan : Plan) (s : State) (n : Named plan s) where
  -- what a get sees was put
  get_saw : (q owner key u : ℕ) → get_sees plan s.done q (s.done q) owner key ≡ Shown u → u < s.done owner
  get_saw q owner key u h = elim (cases_eq q owner) [
    | inl e ↦
        (let o = held_is _ u (sym (cond-true _ _ _ (eq-eqb q owner e)) ∙ h) in
        subst (λ r. u < s.done r) e (own_below plan owner key (s.done q) u o))
    | inr ne ↦
        (let o = served_is plan owner _ _ u (sym (cond-false _ _ _ (ne_eqb q owner ne)) ∙ h) in
        stored_below plan owner key (s.done owner) u o)
  ]

  brought_was : (owner key node u : ℕ) → brought plan s owner key node ≡ Some u → u < s.done owner
  brought_was owner key node u h = elim (greater_from _ _ u h) [
    | inl fence ↦
        (let all = others_is plan owner _ u fence in
        let here = sym (delivered_on plan s.done owner node key (event_count plan owner) (n.sound.within owner)) ∙ all in
        let by = bringer plan s.done owner node key (s.done owner) u here in
        let low = stored_below plan owner key by.at u by.stored_is in
        let below = by.below in
        omega (arith, low, below))
    | inr get ↦
        (let g = (getter plan s owner key node u get).1 in
        let happened = n.puts g.get g.put g.said in
        let whose = n.got g.get g.put owner key g.said g.is in
        let number = g.put_is in
        let there : s.done g.put.proc ≡ s.done owner = ap s.done whose in
        omega (arith, happened, number, there))
  ]

  get_now_saw : (q owner key u : ℕ) → get_now_sees plan s q (s.done q) owner key ≡ Shown u → u < s.done owner
  get_now_saw q owner key u h = elim (cases_eq q owner) [
    | inl e ↦
        (let o = held_is _ u (sym (cond-true _ _ _ (eq-eqb q owner e)) ∙ h) in
        subst (λ r. u < s.done r) e (own_below plan owner key (s.done q) u o))
    | inr ne ↦ elsewhere (sym (cond-false _ _ _ (ne_eqb q owner ne)) ∙ h)
  ]
    where
      elsewhere : (if same_node plan owner q then served plan owner true (stored plan owner key (s.done owner)) else held (brought plan s owner key (node_of plan q))) ≡ Shown u
          → u < s.done owner
      elsewhere = cond_both (same_node plan owner q) _ _ (λ (z : Sight). z ≡ Shown u → u < s.done owner)
          (λ _ e. stored_below plan owner key (s.done owner) u (served_is plan owner true _ u e))
          (λ _ e. brought_was owner key (node_of plan q) u (held_is _ u e))

  -- the value that an answer names was put
  pub value_was : (q : ℕ) (o : Option Kind) (put : Event) → reply plan s (next_event s q) o ≡ Value put → IsDone s put
  value_was q None put = λ h. cc
  value_was q (Some (Put key scope)) put = λ h. cc
  value_was q (Some Commit) put = λ h. cc
  value_was q (Some (Arrive members collect)) put = λ h. cc
  value_was q (Some (Leave members)) put = λ h. cc
  value_was q (Some (Get owner key)) put = λ h.
      let shown = shown_by owner _ put h in
      subst (λ r. put.at < s.done r) (sym shown.1) (get_saw q owner key put.at shown.0)
  value_was q (Some (GetNow owner key)) put = λ h.
      let shown = shown_by owner _ put h in
      subst (λ r. put.at < s.done r) (sym shown.1) (get_now_saw q owner key put.at shown.0)
  value_was q (Some (Publish name)) put =
      cond_both (is_some (s.names name)) Duplicate Success (λ (z : Answer). z ≡ Value put → IsDone s put) (λ _ h. cc) (λ _ h. cc)
  value_was q (Some (Lookup name)) put = no_value (s.names name)
    where
      no_value : (o : Option Event) → lookup_reply o ≡ Value put → IsDone s put
      no_value None h = cc
      no_value (Some z) h = cc
  value_was q (Some (LookupWait name)) put = no_value (s.names name)
    where
      no_value : (o : Option Event) → lookup_reply o ≡ Value put → IsDone s put
      no_value None h = cc
      no_value (Some z) h = cc
  value_was q (Some (Unpublish name)) put =
      cond_both (is_publisher q (s.names name)) Success NotFound (λ (z : Answer). z ≡ Value put → IsDone s put) (λ _ h. cc) (λ _ h. cc)
  value_was q (Some UnpublishAll) put = λ h. cc
  value_was q (Some (Fixed r)) put = λ h. cc

  looked_up : (name : ℕ) (z : Event) (o : Option Event) → s.names name ≡ o → lookup_reply o ≡ Published z → IsDone s z
  looked_up name z None e h = cc
  looked_up name z (Some y) e h = let same : y ≡ z = cc in (n.sound.named name z (e ∙ ap Some same)).1

  -- and the publish that it names has happened
  pub publish_was : (q : ℕ) (o : Option Kind) (z : Event) → reply plan s (next_event s q) o ≡ Published z → IsDone s z
  publish_was q None z = λ h. cc
  publish_was q (Some (Put key scope)) z = λ h. cc
  publish_was q (Some Commit) z = λ h. cc
  publish_was q (Some (Arrive members collect)) z = λ h. cc
  publish_was q (Some (Leave members)) z = λ h. cc
  publish_was q (Some (Get owner key)) z = no_publish (get_sees plan s.done q (s.done q) owner key)
    where
      no_publish : (sight : Sight) → sight_reply owner sight ≡ Published z → IsDone s z
      no_publish Nothing h = cc
      no_publish Outside h = cc
      no_publish (Shown u) h = cc
  publish_was q (Some (GetNow owner key)) z = no_publish (get_now_sees plan s q (s.done q) owner key)
    where
      no_publish : (sight : Sight) → sight_reply owner sight ≡ Published z → IsDone s z
      no_publish Nothing h = cc
      no_publish Outside h = cc
      no_publish (Shown u) h = cc
  publish_was q (Some (Publish name)) z =
      cond_both (is_some (s.names name)) Duplicate Success (λ (o : Answer). o ≡ Published z → IsDone s z) (λ _ h. cc) (λ _ h. cc)
  publish_was q (Some (Lookup name)) z = λ h. looked_up name z (s.names name) refl h
  publish_was q (Some (LookupWait name)) z = λ h. looked_up name z (s.names name) refl h
  publish_was q (Some (Unpublish name)) z =
      cond_both (is_publisher q (s.names name)) Success NotFound (λ (o : Answer). o ≡ Published z → IsDone s z) (λ _ h. cc) (λ _ h. cc)
  publish_was q (Some UnpublishAll) z = λ h. cc
  publish_was q (Some (Fixed r)) z = λ h. cc

-- an answer after a step was there before, or is that of the step
answer_was : (plan : Plan) (s : State) (q : ℕ) (y : Event) (a : Answer) → length (s.replies q) ≡ s.done q → slice_get ((step plan s q).replies y.proc) y.at ≡ Some a →
    (slice_get (s.replies y.proc) y.at ≡ Some a) ⊎ ((y ≡ next_event s q) × (reply plan s (next_event s q) (next_kind plan s q) ≡ a))
answer_was plan s q y a len h = elim (cases_eq y.proc q) [
  | inl e ↦
      (let here : slice_get (s.replies q ++ reply plan s (next_event s q) (next_kind plan s q) ∷ []) y.at ≡ Some a =
      sym (ap (λ xs. slice_get xs y.at) (replies_same plan s q)) ∙ subst (λ r. slice_get ((step plan s q).replies r) y.at ≡ Some a) e h in
      elim (slice_get_push_cases (s.replies q) _ y.at a here) [
        | inl old ↦ inl (subst (λ r. slice_get (s.replies r) y.at ≡ Some a) (sym e) old)
        | inr new ↦ inr (place_path y q (s.done q) e (new.0 ∙ len), new.1)
      ])
  | inr ne ↦ inl (sym (ap (λ xs. slice_get xs y.at) (replies_other plan s q y.proc ne)) ∙ h)
]

named_start : (plan : Plan) → Named plan start
named_start plan = record {
  sound = sound_start plan;
  lengths = λ p. refl;
  puts = λ y put h. absurd (none-some (Value put) h);
  got = λ y put owner key h. absurd (none-some (Value put) h);
  publishes = λ y z h. absurd (none-some (Published z) h);
  fixed = λ y a r h. absurd (none-some a h);
}

get_names : (plan : Plan) (s : State) (q owner key : ℕ) (o : Option Kind) (put : Event) → o ≡ Some (Get owner key) → reply plan s (next_event s q) o ≡ Value put → put.proc ≡ owner
get_names plan s q owner key o put is h = (shown_by owner _ put (sym (ap (reply plan s (next_event s q)) is) ∙ h)).1

named_step : (plan : Plan) (s : State) (q : ℕ) → Named plan s → is_enabled plan s q ≡ true → Named plan (step plan s q)
named_step plan s q n may = record {
  sound = sound_step plan s q n.sound may;
  lengths = λ p. elim (cases_eq p q) [
    | inl e ↦ subst (λ r. length ((step plan s q).replies r) ≡ (step plan s q).done r) (sym e)
        (ap length (replies_same plan s q) ∙ (let l = length_push (s.replies q) (reply plan s (next_event s q) (kind plan (next_event s q))) in let m = n.lengths q in let d = done_same plan s q in
        omega (arith, l, m, d)))
    | inr ne ↦ ap length (replies_other plan s q p ne) ∙ n.lengths p ∙ sym (done_other plan s q p ne)
  ];
  puts = λ y put h. elim (answer_was plan s q y (Value put) (n.lengths q) h) [
    | inl old ↦ done_kept plan s q put (n.puts y put old)
    | inr new ↦ done_kept plan s q put (value_was plan s n q (next_kind plan s q) put new.1)
  ];
  got = λ y put owner key h is. elim (answer_was plan s q y (Value put) (n.lengths q) h) [
    | inl old ↦ n.got y put owner key old is
    | inr new ↦ get_names plan s q owner key (next_kind plan s q) put (subst (λ z. kind plan z ≡ Some (Get owner key)) new.0 is) new.1
  ];
  publishes = λ y z h. elim (answer_was plan s q y (Published z) (n.lengths q) h) [
    | inl old ↦ done_kept plan s q z (n.publishes y z old)
    | inr new ↦ done_kept plan s q z (publish_was plan s n q (next_kind plan s q) z new.1)
  ];
  fixed = λ y a r h is. elim (answer_was plan s q y a (n.lengths q) h) [
    | inl old ↦ n.fixed y a r old is
    | inr new ↦
        (let now : next_kind plan s q ≡ Some (Fixed r) = subst (λ z. kind plan z ≡ Some (Fixed r)) new.0 is in
        sym new.1 ∙ ap (reply plan s (next_event s q)) now)
  ];
}

named_run : (plan : Plan) (w : List ℕ) (s : State) → Named plan s → IsInterleaving plan s w → Named plan (run_from plan s w)
named_run plan [] s n h = n
named_run plan (q ∷ w) s n h = named_run plan w (step plan s q) (named_step plan s q n h.0) h.1

pub reachable_named : (plan : Plan) (s : State) → IsReachable plan s → Named plan s
reachable_named plan s r = subst (λ t. Named plan t) r.2 (named_run plan r.0 start (named_start plan) r.1)

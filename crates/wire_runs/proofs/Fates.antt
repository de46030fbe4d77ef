-- In a settled plan each answer is told by what is before the call.
use Rattle.std.proofs.Common.{◌≢◌, ◌≡◌, ℕ, ◌<◌, ◌≤◌, List, [], ◌∷◌, ◌++◌, Bool, true, cond, Option, Some, None, is_some, inl, inr, refl, sym, ap, ◌∙◌, subst, arith, eq-eqb, ne_eqb}
use Rattle.std.specs.Prelude.{slice_get}
use Rattle.std.proofs.lemmas.Option.{slice_get-get_or}
use Rattle.std.proofs.lemmas.Bool.{cond-true, cond-false, cond_both, cases_eq, cases_lt, cases_Bool}
use Rattle.wire_runs.specs.Plan.{Plan, Kind, Leave, Get, GetNow, Publish, Lookup, LookupWait, Unpublish, kind, event_count, same_node, admits, Event}
use Rattle.wire_runs.specs.State.{Answer, Duplicate, Success, NotFound, State, start, next_event, IsDone}
use Rattle.wire_runs.specs.Names.{calls_name}
use Rattle.wire_runs.specs.Puts.{stored, scope_of}
use Rattle.wire_runs.specs.Fences.{arrivals, is_complete}
use Rattle.wire_runs.specs.Sight.{Sight, Outside, Shown, served}
use Rattle.wire_runs.specs.Step.{is_seen, may_do, is_enabled, sight_reply, lookup_reply, reply, is_publisher, step, IsInterleaving, run_from, IsReachable}
use Rattle.wire_runs.specs.Order.{Edge, Meets, Live, Before, edge}
use Rattle.wire_runs.specs.Races.{IsSettled}
use Rattle.wire_runs.specs.Fate.{IsPast, Fate, Waits, Says, fate_in, HasFate, dead, told, left_by}
use Rattle.wire_runs.specs.Laws.{FatesTell, OneFate, RunsAreSound}
use Rattle.wire_runs.proofs.Basics.{event_within}
use Rattle.wire_runs.proofs.Due.{ClosedCut, closed_cut, due, chain_to_next, live_may, live_source, place_path, coming_event}
use Rattle.wire_runs.proofs.Brought.{complete_if_arrived, get_same, get_ready}
use Rattle.wire_runs.proofs.Getters.{last_answer, Answered}
use Rattle.wire_runs.proofs.Came.{now_same}
use Rattle.wire_runs.proofs.Known.{Known, known_start, known_step, replies_same, replies_other, get_answer}
use Rattle.wire_runs.proofs.Histories.{Written, written_start, written_step, name_is_past, one_history, no_cycle, before_live, prepend}
use Rattle.wire_runs.proofs.Lists.{slice_get_push_cases}

-- Two states that both have all that is before y, and not y, with the same under the names that y asks for: y does the same in both
module _ (plan : Plan) (settled : IsSettled plan) (s r : State) (y : Event) (up : (m : ℕ) → s.done m ≤ r.done m) (known : (z : Event) → Before plan z y → IsDone s z) (closed : ClosedCut plan r.done)
    (not_yet : r.done y.proc ≤ y.at) (live_y : Live plan y) (answered_s : Answered plan s) (answered_r : Answered plan r)
    (names_same : (n : ℕ) → calls_name plan n y (kind plan y) ≡ true → r.names n ≡ s.names n) where
  known_later : (z : Event) → Before plan z y → IsDone r z
  known_later z b = let d = known z b in let u = up z.proc in omega (arith, d, u)

  fence_done : (members : List ℕ) (cut : ℕ → ℕ) → kind plan y ≡ Some (Leave members) → ((z : Event) → Before plan z y → z.at < cut z.proc) →
      is_complete plan cut members (arrivals plan y.proc members y.at) ≡ true
  fence_done members cut is all =
      complete_if_arrived plan cut members (arrivals plan y.proc members y.at) (rw is at (live_may live_y))
      (λ z a. let e : Edge plan z y = Meets members is a in all z (edge (live_source live_y e) e live_y))

  pub may_same : (o : Option Kind) → kind plan y ≡ o → may_do plan r y o ≡ may_do plan s y o
  may_same None e = refl
  may_same (Some (Get t key)) e = ap is_seen (get_same plan settled s.done r.done y up known closed not_yet live_y t key e)
  may_same (Some (Leave members)) e = fence_done members r.done e known_later ∙ sym (fence_done members s.done e known)
  may_same (Some (LookupWait n)) e = ap is_some (names_same n (rw e (eq-eqb n n refl)))
  may_same (Some _) e = refl

  said_same : (o : Option Kind) → kind plan y ≡ o → reply plan r y o ≡ reply plan s y o
  said_same (Some (Get t key)) e = ap (sight_reply t) (get_same plan settled s.done r.done y up known closed not_yet live_y t key e)
  said_same (Some (GetNow t key)) e = ap (sight_reply t) (now_same plan settled s r y up known closed not_yet live_y answered_s answered_r t key e)
  said_same (Some (Publish n)) e = ap (λ v. cond (is_some v) Duplicate Success) (names_same n (rw e (eq-eqb n n refl)))
  said_same (Some (Lookup n)) e = ap lookup_reply (names_same n (rw e (eq-eqb n n refl)))
  said_same (Some (LookupWait n)) e = ap lookup_reply (names_same n (rw e (eq-eqb n n refl)))
  said_same (Some (Unpublish n)) e = ap (λ v. cond (is_publisher y.proc v) Success NotFound) (names_same n (rw e (eq-eqb n n refl)))
  said_same (Some _) e = refl
  said_same None e = refl

  fate_same : fate_in plan r y ≡ fate_in plan s y
  fate_same =
      ap (λ b. cond b (Says (reply plan r y (kind plan y))) Waits) (may_same (kind plan y) refl)
      ∙ ap (λ a. cond (may_do plan s y (kind plan y)) (Says a) Waits) (said_same (kind plan y) refl)

-- a live event is one of the plan
pub live_event : (plan : Plan) (y : Event) → Live plan y → (e : Kind) × (kind plan y ≡ Some e)
live_event plan y l = coming_event plan y (kind plan y) (live_may l)

pub live_within : (plan : Plan) (y : Event) → Live plan y → y.at < event_count plan y.proc
live_within plan y l = let v = live_event plan y l in event_within plan y.proc y.at v.0 v.1

pub served_is_seen : (plan : Plan) (t : ℕ) (same : Bool) (o : Option ℕ) → is_some o ≡ true → is_seen (served plan t same o) ≡ true
served_is_seen plan t same None h = h
served_is_seen plan t same (Some v) h = cond_both (admits (scope_of plan t v) same) (Shown v) Outside (λ (x : Sight). is_seen x ≡ true) (λ _. refl) (λ _. refl)

-- the state of y's past
module _ (plan : Plan) (settled : IsSettled plan) (y : Event) (live_y : Live plan y) (fate_of : Event → Fate) (past : State) (is_past : IsPast plan y fate_of past) where
  pub past_closed : ClosedCut plan past.done
  past_closed = record {
    within = λ p. elim (cases_lt (event_count plan p) (past.done p)) [
      | inr le ↦ le
      | inl lt ↦ absurd (
          let x : Event = record { proc = p; at = event_count plan p } in
          let v = live_event plan x (before_live ((is_past.cut x).0 lt)) in
          let w = event_within plan p (event_count plan p) v.0 v.1 in
          omega (arith, w))
    ];
    all_live = λ x d. before_live ((is_past.cut x).0 d);
    closed = λ x z e d. (let b = (is_past.cut z).0 d in (is_past.cut x).1 (prepend (live_source (before_live b) e) e b));
  }

  pub past_known : (z : Event) → Before plan z y → IsDone past z
  past_known z = (is_past.cut z).1

  pub past_not_yet : past.done y.proc ≤ y.at
  past_not_yet = elim (cases_lt y.at (past.done y.proc)) [
    | inr le ↦ le
    | inl lt ↦ absurd (no_cycle live_y ((is_past.cut y).0 lt))
  ]

  -- a get of another's key may come once its past is there, and what it says doesn't depend on more
  get_says : (t key : ℕ) → kind plan y ≡ Some (Get t key) → (y.proc ≡ t → ⊥) → fate_in plan past y ≡ Says (last_answer plan t key y.proc)
  get_says t key is other =
      let ready = get_ready plan settled past.done past.done y (λ m. omega arith) past_known past_closed past_not_yet live_y t key is other in
      let may : may_do plan past y (kind plan y) ≡ true =
      ap (may_do plan past y) is ∙ ap is_seen (cond-false _ _ _ (ne_eqb y.proc t other)) ∙ served_is_seen plan t (same_node plan t y.proc) (stored plan t key (past.done t)) ready in
      cond-true _ _ _ may ∙ ap Says (get_answer plan settled past past_closed.within y t key is other may)

pub get_fate : (plan : Plan) → IsSettled plan → (z : Event) (fate : Fate) → Live plan z → (t key : ℕ) → kind plan z ≡ Some (Get t key) → (z.proc ≡ t → ⊥) → HasFate plan z fate →
    fate ≡ Says (last_answer plan t key z.proc)
get_fate plan settled z fate l t key is other (dead no_ e) = absurd (no_ l)
get_fate plan settled z fate l t key is other (told m fate_of all past is_past e) = e ∙ get_says plan settled z m fate_of past is_past t key is other

past_answered : (plan : Plan) → IsSettled plan → (y : Event) (fate_of : Event → Fate) → ((z : Event) → Before plan z y → HasFate plan z (fate_of z)) → (past : State) → IsPast plan y fate_of past →
    Answered plan past
past_answered plan settled y fate_of all past is_past z t key d is other =
    let b = (is_past.cut z).0 d in
    is_past.replies z _ b (get_fate plan settled z (fate_of z) (before_live b) t key is other (all z b))

-- the fate of an event whose past is done
pub told_in : (plan : Plan) → IsSettled plan → (s : State) → Known plan s → ((n : ℕ) → Written plan s n) → (y : Event) → s.done y.proc ≤ y.at → (fate : Fate) → Live plan y →
    ((z : Event) → Before plan z y → IsDone s z) → HasFate plan y fate → fate ≡ fate_in plan s y
told_in plan settled s k w y not_yet fate l known (dead no_ e) = absurd (no_ l)
told_in plan settled s k w y not_yet fate l known (told m fate_of all past is_past e) =
    e ∙ sym (fate_same plan settled past s y up (past_known plan settled y l fate_of past is_past) (closed_cut k.sound) not_yet l (past_answered plan settled y fate_of all past is_past) k.answered
    (λ n c. let h = is_past.names n in name_is_past plan settled s k.sound y l known not_yet n h.0 c (w n) h.1 ∙ sym h.2))
  where
    up : (p : ℕ) → past.done p ≤ s.done p
    up p = elim (cases_lt (s.done p) (past.done p)) [
      | inr ge ↦ ge
      | inl lt ↦ absurd (let d = known (record { proc = p; at = s.done p }) ((is_past.cut (record { proc = p; at = s.done p })).0 lt) in omega (arith, d))
    ]

-- the fate of an event is one
pub one_fate : OneFate
one_fate plan y a b settled (dead no_ e) (dead _ f) = e ∙ sym f
one_fate plan y a b settled (dead no_ e) (told l _ _ _ _ _) = absurd (no_ l)
one_fate plan y a b settled (told l _ _ _ _ _) (dead no_ f) = absurd (no_ l)
one_fate plan y a b settled (told l fate_of all past is_past e) (told m other all' past' is_past' f) =
    e ∙ sym (f ∙ fate_same plan settled past past' y up (past_known plan settled y l fate_of past is_past) (past_closed plan settled y l other past' is_past')
    (past_not_yet plan settled y l other past' is_past') l
    (past_answered plan settled y fate_of all past is_past) (past_answered plan settled y other all' past' is_past')
    (λ n c. let h = is_past.names n in let i = is_past'.names n in i.2 ∙ sym (h.2 ∙ ap (left_by plan n) (one_history plan y n h.0 i.0 h.1 i.1))))
  where
    up : (p : ℕ) → past.done p ≤ past'.done p
    up p = elim (cases_lt (past'.done p) (past.done p)) [
      | inr ge ↦ ge
      | inl lt ↦ absurd (let x : Event = record { proc = p; at = past'.done p } in let d = (is_past'.cut x).1 ((is_past.cut x).0 lt) in omega (arith, d))
    ]

-- what a run keeps, of names and replies
pub record Kept (plan : Plan) (s : State) : Type 0 where
  pub known : Known plan s
  pub written : (n : ℕ) → Written plan s n
  pub answers : (z : Event) (a : Answer) (fate : Fate) → slice_get (s.replies z.proc) z.at ≡ Some a → HasFate plan z fate → fate ≡ Says a

pub kept_start : (plan : Plan) → Kept plan start
kept_start plan = record { known = known_start plan; written = written_start plan; answers = λ z a f h. cc }

pub kept_step : (plan : Plan) → IsSettled plan → (s : State) (p : ℕ) → Kept plan s → is_enabled plan s p ≡ true → Kept plan (step plan s p)
kept_step plan settled s p k h = record {
  known = known_step plan settled s p k.known h;
  written = λ n. written_step plan s p n k.known.sound (k.written n);
  answers = λ z a fate r f. elim (cases_eq z.proc p) [
    | inr ne ↦ k.answers z a fate (ap (λ xs. slice_get xs z.at) (sym (replies_other plan s p z.proc ne)) ∙ r) f
    | inl e ↦
        (let there : slice_get (s.replies p ++ reply plan s (next_event s p) (kind plan (next_event s p)) ∷ []) z.at ≡ Some a =
        ap (λ xs. slice_get xs z.at) (sym (ap (step plan s p).replies e ∙ replies_same plan s p)) ∙ r in
        elim (slice_get_push_cases (s.replies p) (reply plan s (next_event s p) (kind plan (next_event s p))) z.at a there) [
          | inl old ↦ k.answers z a fate (ap (λ q. slice_get (s.replies q) z.at) e ∙ old) f
          | inr now ↦
              (let is : z ≡ next_event s p = place_path z p (s.done p) e (now.0 ∙ k.known.lengths p) in
              let d = due plan s p k.known.sound h in
              told_in plan settled s k.known k.written (next_event s p) (omega arith) fate d.is_live d.earlier_done (subst (λ v. HasFate plan v fate) is f)
              ∙ cond-true _ _ _ h ∙ ap Says now.1)
        ])
  ];
}

kept_run : (plan : Plan) → IsSettled plan → (w : List ℕ) (s : State) → Kept plan s → IsInterleaving plan s w → Kept plan (run_from plan s w)
kept_run plan settled [] s k h = k
kept_run plan settled (p ∷ w) s k h = kept_run plan settled w (step plan s p) (kept_step plan settled s p k h.0) h.1

pub reachable_kept : (plan : Plan) → IsSettled plan → (s : State) → IsReachable plan s → Kept plan s
reachable_kept plan settled s r = subst (λ t. Kept plan t) r.2 (kept_run plan settled r.0 start (kept_start plan) r.1)

pub says_not_waits : (a : Answer) → Says a ≡ Waits → ⊥
says_not_waits a e = cc

-- what doesn't wait for ever is live
may_live : {plan : Plan} {y : Event} {fate : Fate} → HasFate plan y fate → fate ≢ Waits → Live plan y
may_live (dead not_live waits) ne = absurd (ne waits)
may_live (told l fate_of before past is_past is) ne = l

pub fates_tell : FatesTell
fates_tell plan s settled r =
    let k = reachable_kept plan settled s r in
    record {
      answers = k.answers;
      enabled = λ p fate f. (
        (λ h. let d = due plan s p k.known.sound h in
            (d.sources_done, λ w. says_not_waits _ (sym (told_in plan settled s k.known k.written (next_event s p) (omega arith) fate d.is_live d.earlier_done f ∙ cond-true _ _ _ h) ∙ w))),
        (λ c. elim (cases_Bool (is_enabled plan s p)) [
          | inl t ↦ t
          | inr no_ ↦ absurd (c.1 (told_in plan settled s k.known k.written (next_event s p) (omega arith) fate (may_live f c.1) (λ z b. chain_to_next plan s k.known.sound c.0 b) f
              ∙ cond-false _ _ _ no_))
        ]),
      );
    }

-- what a run has come to is a sound cut
pub runs_are_sound : RunsAreSound
runs_are_sound plan s settled r =
    let k = reachable_kept plan settled s r in
    record {
      within = k.known.sound.within;
      closed = k.known.sound.closed;
      comes = λ x d f. (
          let some = slice_get-get_or (s.replies x.proc) x.at Success (let l = k.known.lengths x.proc in omega (arith, d, l)) in
          says_not_waits _ (sym (k.answers x _ Waits some f)));
    }

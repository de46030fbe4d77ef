-- In a settled plan two processes that may both go on don't disturb each other.
use Rattle.std.proofs.Common.{◌≡◌, ℕ, suc, ◌≤◌, List, [], ◌∷◌, ◌++◌, true, false, nat_eq, cond, Option, Some, None, is_some, inl, inr, refl, sym, ap, ◌∙◌, subst, arith, eq-eqb, ne_eqb, zero}
use Rattle.std.proofs.Common.{◌<◌, leb-true, le-leb}
use Rattle.std.proofs.Math.Path.{fun_ext}
use Rattle.std.proofs.lemmas.Bool.{cond-false, cond_both, cases_eq, cases_Bool, or_left, or_right, true≢false}
use Rattle.wire_runs.specs.Plan.{Plan, Kind, Leave, Get, GetNow, Publish, Lookup, LookupWait, Unpublish, UnpublishAll, kind, kind_at, event_count, Event}
use Rattle.wire_runs.specs.State.{State, Duplicate, Success, NotFound, next_event}
use Rattle.wire_runs.specs.Fences.{is_complete}
use Rattle.wire_runs.specs.Sight.{get_sees, get_now_sees}
use Rattle.wire_runs.specs.Step.{is_seen, may_do, is_enabled, sight_reply, lookup_reply, reply, name_after, is_publisher, step}
use Rattle.wire_runs.specs.Order.{Live}
use Rattle.wire_runs.specs.Names.{is_publish, publishes, calls_name, writes_name}
use Rattle.wire_runs.specs.Races.{IsSettled}
use Rattle.wire_runs.specs.Laws.{Commute}
use Rattle.wire_runs.proofs.Basics.{event_within, arrivals_rise}
use Rattle.wire_runs.proofs.Due.{named_after, sound_step, closed_cut, due, done_same, done_other, done_up, place_path, unordered}
use Rattle.wire_runs.proofs.Brought.{get_same}
use Rattle.wire_runs.proofs.Came.{now_same}
use Rattle.wire_runs.proofs.Known.{replies_same, replies_other, Known, known_step}
use Rattle.wire_runs.proofs.Lists.{list_all_weaker}

-- what a script publishes, it publishes somewhere
pub publishes_from : (plan : Plan) (p name i n : ℕ) → i < n → kind_at plan p i ≡ Some (Publish name) → publishes plan p name n ≡ true
publishes_from plan p name i zero lt e = absurd (omega (arith, lt))
publishes_from plan p name i (suc n) lt e = elim (cases_eq i n) [
  | inl same ↦
      (let here : kind_at plan p n ≡ Some (Publish name) = subst (λ k. kind_at plan p k ≡ Some (Publish name)) same e in
      or_left (is_publish name (kind_at plan p n)) (publishes plan p name n) (ap (is_publish name) here ∙ eq-eqb name name refl))
  | inr ne ↦ or_right _ _ (publishes_from plan p name i n (omega (arith, lt, ne)) e)
]

-- a call leaves alone a name that it doesn't write
pub name_kept : (plan : Plan) (o : Option Kind) (x : Event) (before : Option Event) (n : ℕ) → ((z : Event) → before ≡ Some z → kind plan z ≡ Some (Publish n)) → writes_name plan n x o ≡ false →
    name_after before x o n ≡ before
name_kept plan (Some (Publish m)) x before n named w = cond-false _ _ _ w
name_kept plan (Some (Unpublish m)) x before n named w = cond-false _ _ _ w
name_kept plan (Some UnpublishAll) x before n named w = go before named
  where
    go : (o : Option Event) → ((z : Event) → o ≡ Some z → kind plan z ≡ Some (Publish n)) → cond (is_publisher x.proc o) None o ≡ o
    go None all = refl
    go (Some z) all = elim (cases_eq z.proc x.proc) [
      | inr ne ↦ cond-false _ _ _ (ne_eqb _ _ ne)
      | inl e ↦ (let is = all z refl in absurd (true≢false (sym (publishes_from plan x.proc n z.at (event_count plan x.proc)
          (subst (λ p. z.at < event_count plan p) e (event_within plan z.proc z.at _ is)) (subst (λ p. kind_at plan p z.at ≡ Some (Publish n)) e is)) ∙ w)))
    ]
name_kept plan _ x before n named w = refl

pub writes_calls : (plan : Plan) (n : ℕ) (x : Event) (o : Option Kind) → writes_name plan n x o ≡ true → calls_name plan n x o ≡ true
writes_calls plan n x (Some (Lookup m)) w = absurd (true≢false (sym w))
writes_calls plan n x (Some (LookupWait m)) w = absurd (true≢false (sym w))
writes_calls plan n x None w = w
writes_calls plan n x (Some _) w = w

pub writes_no_lookup : (plan : Plan) (n m : ℕ) (x : Event) (o : Option Kind) → writes_name plan n x o ≡ true → o ≡ Some (LookupWait m) → ⊥
writes_no_lookup plan n m x o w e = true≢false (sym w ∙ ap (writes_name plan n x) e)

-- what q's event sees and does is the same after p's
module _ (plan : Plan) (settled : IsSettled plan) (s : State) (p q : ℕ) (k : Known plan s) (ne : q ≡ p → ⊥) (hp : is_enabled plan s p ≡ true) (hq : is_enabled plan s q ≡ true) where
  live_y : Live plan (next_event s q)
  live_y = (due plan s q k.sound hq).is_live

  not_yet : (step plan s p).done q ≤ s.done q
  not_yet = let d = done_other plan s p q ne in omega (arith, d)

  seen_after : (t key : ℕ) → kind plan (next_event s q) ≡ Some (Get t key) → get_sees plan (step plan s p).done q (s.done q) t key ≡ get_sees plan s.done q (s.done q) t key
  seen_after = get_same plan settled s.done (step plan s p).done (next_event s q) (done_up plan s p) (due plan s q k.sound hq).earlier_done (closed_cut (sound_step plan s p k.sound hp)) not_yet live_y

  now_after : (t key : ℕ) → kind plan (next_event s q) ≡ Some (GetNow t key) → get_now_sees plan (step plan s p) q (s.done q) t key ≡ get_now_sees plan s q (s.done q) t key
  now_after = now_same plan settled s (step plan s p) (next_event s q) (done_up plan s p) (due plan s q k.sound hq).earlier_done (closed_cut (sound_step plan s p k.sound hp)) not_yet live_y k.answered
      (known_step plan settled s p k hp).answered

  -- p's event changes no name that q's event reads, but one that q waits for and that is there
  name_same : (n : ℕ) (o : Option Kind) → kind plan (next_event s p) ≡ o → calls_name plan n (next_event s q) (kind plan (next_event s q)) ≡ true →
      (kind plan (next_event s q) ≡ Some (LookupWait n) → is_some (s.names n) ≡ true) → name_after (s.names n) (next_event s p) o n ≡ s.names n
  name_same n (Some (Publish m)) e c waits =
      cond_both (nat_eq m n) _ _ (λ v. v ≡ s.names n)
      (λ t. cond_both (is_some (s.names n)) _ _ (λ v. v ≡ s.names n) (λ _. refl)
      (λ f. absurd (settled.no_name_race (next_event s p) (next_event s q) n (record {
        x_writes = rw e t;
        y_calls = c;
        others = λ eq. ne (sym eq);
        not_once = λ _ wait. true≢false (sym (waits wait) ∙ f);
        unordered = unordered plan s p q k.sound hp hq;
      }))))
      (λ f. refl)
  name_same n (Some (Unpublish m)) e c waits =
      cond_both (nat_eq m n) _ _ (λ v. v ≡ s.names n)
      (λ t. absurd (settled.no_name_race (next_event s p) (next_event s q) n (record {
        x_writes = rw e t;
        y_calls = c;
        others = λ eq. ne (sym eq);
        not_once = λ once wait. (let i = once.is in cc);
        unordered = unordered plan s p q k.sound hp hq;
      })))
      (λ f. refl)
  name_same n (Some UnpublishAll) e c waits = elim (cases_Bool (writes_name plan n (next_event s p) (Some UnpublishAll))) [
    | inr f ↦ name_kept plan (Some UnpublishAll) (next_event s p) (s.names n) n (λ z i. (k.sound.named n z i).0) f
    | inl t ↦ absurd (settled.no_name_race (next_event s p) (next_event s q) n (record {
      x_writes = rw e t;
      y_calls = c;
      others = λ eq. ne (sym eq);
      not_once = λ once wait. (let i = once.is in cc);
      unordered = unordered plan s p q k.sound hp hq;
    }))
  ]
  name_same n _ e c waits = refl

  names_same : (n : ℕ) → calls_name plan n (next_event s q) (kind plan (next_event s q)) ≡ true → (kind plan (next_event s q) ≡ Some (LookupWait n) → is_some (s.names n) ≡ true) →
      (step plan s p).names n ≡ s.names n
  names_same n = name_same n (kind plan (next_event s p)) refl

  complete_after : (members : List ℕ) (j : ℕ) → is_complete plan s.done members j ≡ true → is_complete plan (step plan s p).done members j ≡ true
  complete_after members j =
      list_all_weaker _ _ members (λ m t. le-leb _ _ (let a = leb-true _ _ t in let b = arrivals_rise plan m members (s.done m) ((step plan s p).done m) (done_up plan s p m) in omega (arith, a, b)))

  still : (o : Option Kind) → kind plan (next_event s q) ≡ o → may_do plan s (next_event s q) o ≡ true → may_do plan (step plan s p) (next_event s q) o ≡ true
  still None e h = h
  still (Some (Get t key)) e h = ap is_seen (seen_after t key e) ∙ h
  still (Some (Leave members)) e h = complete_after members _ h
  still (Some (LookupWait n)) e h = ap is_some (names_same n (rw e (eq-eqb n n refl)) (λ _. h)) ∙ h
  still (Some _) e h = refl

  reply_same : (o : Option Kind) → kind plan (next_event s q) ≡ o → may_do plan s (next_event s q) o ≡ true → reply plan (step plan s p) (next_event s q) o ≡ reply plan s (next_event s q) o
  reply_same (Some (Get t key)) e h = ap (sight_reply t) (seen_after t key e)
  reply_same (Some (GetNow t key)) e h = ap (sight_reply t) (now_after t key e)
  reply_same (Some (Publish n)) e h = ap (λ v. cond (is_some v) Duplicate Success) (names_same n (rw e (eq-eqb n n refl)) (λ w. (let i = e in cc)))
  reply_same (Some (Lookup n)) e h = ap lookup_reply (names_same n (rw e (eq-eqb n n refl)) (λ w. (let i = e in cc)))
  reply_same (Some (LookupWait n)) e h = ap lookup_reply (names_same n (rw e (eq-eqb n n refl)) (λ _. h))
  reply_same (Some (Unpublish n)) e h = ap (λ v. cond (is_publisher q v) Success NotFound) (names_same n (rw e (eq-eqb n n refl)) (λ w. (let i = e in cc)))
  reply_same (Some _) e h = refl
  reply_same None e h = refl

  next_same : next_event (step plan s p) q ≡ next_event s q
  next_same = place_path (next_event (step plan s p) q) q (s.done q) refl (done_other plan s p q ne)

  stays : is_enabled plan (step plan s p) q ≡ true
  stays = subst (λ y. may_do plan (step plan s p) y (kind plan y) ≡ true) (sym next_same) (still (kind plan (next_event s q)) refl hq)

  said : reply plan (step plan s p) (next_event (step plan s p) q) (kind plan (next_event (step plan s p) q)) ≡ reply plan s (next_event s q) (kind plan (next_event s q))
  said = ap (λ y. reply plan (step plan s p) y (kind plan y)) next_same ∙ reply_same (kind plan (next_event s q)) refl hq

  -- two steps, field by field
  done_first : (step plan (step plan s p) q).done p ≡ suc (s.done p)
  done_first = done_other plan (step plan s p) q p (λ e. ne (sym e)) ∙ done_same plan s p

  done_second : (step plan (step plan s p) q).done q ≡ suc (s.done q)
  done_second = done_same plan (step plan s p) q ∙ ap suc (done_other plan s p q ne)

  replies_first : (step plan (step plan s p) q).replies p ≡ s.replies p ++ reply plan s (next_event s p) (kind plan (next_event s p)) ∷ []
  replies_first = replies_other plan (step plan s p) q p (λ e. ne (sym e)) ∙ replies_same plan s p

  replies_second : (step plan (step plan s p) q).replies q ≡ s.replies q ++ reply plan s (next_event s q) (kind plan (next_event s q)) ∷ []
  replies_second =
      replies_same plan (step plan s p) q
      ∙ ap (λ rs. rs ++ reply plan (step plan s p) (next_event (step plan s p) q) (kind plan (next_event (step plan s p) q)) ∷ []) (replies_other plan s p q ne)
      ∙ ap (λ a. s.replies q ++ a ∷ []) said

  names_second : (n : ℕ) → (step plan (step plan s p) q).names n ≡ name_after (name_after (s.names n) (next_event s p) (kind plan (next_event s p)) n) (next_event s q) (kind plan (next_event s q)) n
  names_second n = ap (λ y. name_after ((step plan s p).names n) y (kind plan y) n) next_same

-- at a name, the two events in both orders
names_swap : (plan : Plan) (settled : IsSettled plan) (s : State) (p q : ℕ) → Known plan s → (q ≡ p → ⊥) → is_enabled plan s p ≡ true → is_enabled plan s q ≡ true → (n : ℕ) →
    name_after (name_after (s.names n) (next_event s p) (kind plan (next_event s p)) n) (next_event s q) (kind plan (next_event s q)) n ≡ name_after
    (name_after (s.names n) (next_event s q) (kind plan (next_event s q)) n) (next_event s p) (kind plan (next_event s p)) n
names_swap plan settled s p q k ne hp hq n =
    let x = next_event s p in
    let y = next_event s q in
    let ex = kind plan x in
    let ey = kind plan y in
    let before = s.names n in
    let named : (z : Event) → before ≡ Some z → kind plan z ≡ Some (Publish n) = λ z i. (k.sound.named n z i).0 in
    let named_then : (w : Event) (z : Event) → name_after before w (kind plan w) n ≡ Some z → kind plan z ≡ Some (Publish n) =
    λ w z i. elim (named_after before w (kind plan w) n z i) [ inl was ↦ named z was | inr b ↦ subst (λ v. kind plan v ≡ Some (Publish n)) (sym b.0) b.1 ] in
    elim (cases_Bool (writes_name plan n x ex)) [
      | inr f ↦ ap (λ v. name_after v y ey n) (name_kept plan ex x before n named f) ∙ sym (name_kept plan ex x (name_after before y ey n) n (named_then y) f)
      | inl t ↦ elim (cases_Bool (writes_name plan n y ey)) [
        | inr f ↦ name_kept plan ey y (name_after before x ex n) n (named_then x) f ∙ ap (λ v. name_after v x ex n) (sym (name_kept plan ey y before n named f))
        | inl u ↦ absurd (settled.no_name_race x y n (record {
          x_writes = t;
          y_calls = writes_calls plan n y ey u;
          others = λ eq. ne (sym eq);
          not_once = λ _. writes_no_lookup plan n n y ey u;
          unordered = unordered plan s p q k.sound hp hq;
        }))
      ]
    ]

pub state_path : (s t : State) → ((p : ℕ) → s.done p ≡ t.done p) → ((n : ℕ) → s.names n ≡ t.names n) → ((p : ℕ) → s.replies p ≡ t.replies p) → s ≡ t
state_path s t d n r = λ i. record { done = fun_ext d i; names = fun_ext n i; replies = fun_ext r i }

same_end : (plan : Plan) (settled : IsSettled plan) (s : State) (p q : ℕ) → Known plan s → (q ≡ p → ⊥) → is_enabled plan s p ≡ true → is_enabled plan s q ≡ true →
    step plan (step plan s p) q ≡ step plan (step plan s q) p
same_end plan settled s p q k ne hp hq =
    let en : p ≡ q → ⊥ = λ e. ne (sym e) in
    state_path (step plan (step plan s p) q) (step plan (step plan s q) p)
    (λ r. elim (cases_eq r q) [
      | inl e ↦ subst (λ v. (step plan (step plan s p) q).done v ≡ (step plan (step plan s q) p).done v) (sym e)
          (done_second plan settled s p q k ne hp hq ∙ sym (done_first plan settled s q p k en hq hp))
      | inr a ↦ elim (cases_eq r p) [
        | inl e ↦ subst (λ v. (step plan (step plan s p) q).done v ≡ (step plan (step plan s q) p).done v) (sym e)
            (done_first plan settled s p q k ne hp hq ∙ sym (done_second plan settled s q p k en hq hp))
        | inr b ↦ done_other plan (step plan s p) q r a ∙ done_other plan s p r b ∙ sym (done_other plan s q r a) ∙ sym (done_other plan (step plan s q) p r b)
      ]
    ])
    (λ n. names_second plan settled s p q k ne hp hq n ∙ names_swap plan settled s p q k ne hp hq n ∙ sym (names_second plan settled s q p k en hq hp n))
    (λ r. elim (cases_eq r q) [
      | inl e ↦ subst (λ v. (step plan (step plan s p) q).replies v ≡ (step plan (step plan s q) p).replies v) (sym e)
          (replies_second plan settled s p q k ne hp hq ∙ sym (replies_first plan settled s q p k en hq hp))
      | inr a ↦ elim (cases_eq r p) [
        | inl e ↦ subst (λ v. (step plan (step plan s p) q).replies v ≡ (step plan (step plan s q) p).replies v) (sym e)
            (replies_first plan settled s p q k ne hp hq ∙ sym (replies_second plan settled s q p k en hq hp))
        | inr b ↦ replies_other plan (step plan s p) q r a ∙ replies_other plan s p r b ∙ sym (replies_other plan s q r a) ∙ sym (replies_other plan (step plan s q) p r b)
      ]
    ])

pub commute : (plan : Plan) (settled : IsSettled plan) (s : State) (p q : ℕ) → Known plan s → (p ≡ q → ⊥) → is_enabled plan s p ≡ true → is_enabled plan s q ≡ true → Commute plan s p q
commute plan settled s p q k en hp hq =
    let ne : q ≡ p → ⊥ = λ e. en (sym e) in
    record {
      first_stays = stays plan settled s q p k en hq hp;
      second_stays = stays plan settled s p q k ne hp hq;
      same_end = same_end plan settled s p q k ne hp hq;
    }

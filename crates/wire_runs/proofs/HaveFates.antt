-- Each event of a settled plan has a fate.
use Rattle.std.proofs.Common.{◌≡◌, ℕ, zero, suc, ◌<◌, List, [], ◌∷◌, ◌++◌, length, Bool, true, false, cond, Some, ◌⊎◌, inl, inr, ⊎_elim, refl, sym, ap, ◌∙◌, subst, arith}
use Rattle.std.specs.Prelude.{◌↔◌, slice_get}
use Rattle.std.proofs.lemmas.List.{length_push}
use Rattle.std.proofs.lemmas.Bool.{cond-true, cond-false, cases_eq, cases_lt, cases_Bool, true≢false}
use Rattle.wire_runs.specs.Plan.{Plan, kind, event_count, process_count, Event}
use Rattle.wire_runs.specs.State.{Answer, Silent, State}
use Rattle.wire_runs.specs.Names.{writes_name}
use Rattle.wire_runs.specs.Order.{Edge, Live, live, Before, edge, further}
use Rattle.wire_runs.specs.Races.{IsSettled}
use Rattle.wire_runs.specs.Fate.{IsIn, IsInOrder, left_by, IsNameHistory, IsPast, Fate, Waits, Says, fate_in, HasFate, dead, told}
use Rattle.wire_runs.specs.Laws.{HappensBefore, HaveFates}
use Rattle.wire_runs.proofs.Basics.{event_within, process_within}
use Rattle.wire_runs.proofs.Diamond.{writes_calls, writes_no_lookup}
use Rattle.wire_runs.proofs.Histories.{before_live, same_process, joined, same_place}
use Rattle.wire_runs.proofs.Fates.{live_event}
use Rattle.wire_runs.proofs.Lists.{slice_get_push_kept, slice_get_push_last}

-- one more than the last number below n at which f holds
up_to : (ℕ → Bool) → ℕ → ℕ
up_to f zero = 0
up_to f (suc n) = cond (f n) (suc n) (up_to f n)

up_to_has : (f : ℕ → Bool) → ((i j : ℕ) → i < j → f j ≡ true → f i ≡ true) → (n i : ℕ) → i < up_to f n → f i ≡ true
unfolding up_to
up_to_has f down zero i lt = absurd (omega (arith, lt))
up_to_has f down (suc n) i lt = elim (cases_Bool (f n)) [
  | inl t ↦ (let l : i < suc n = subst (λ k. i < k) (cond-true _ _ _ t) lt in elim (cases_eq i n) [ inl e ↦ subst (λ k. f k ≡ true) (sym e) t | inr ne ↦ down i n (omega (arith, l, ne)) t ])
  | inr no_ ↦ up_to_has f down n i (subst (λ k. i < k) (cond-false _ _ _ no_) lt)
]

has_up_to : (f : ℕ → Bool) (n i : ℕ) → i < n → f i ≡ true → i < up_to f n
unfolding up_to
has_up_to f zero i lt h = absurd (omega (arith, lt))
has_up_to f (suc n) i lt h = elim (cases_Bool (f n)) [
  | inl t ↦ subst (λ k. i < k) (sym (cond-true _ _ _ t)) lt
  | inr no_ ↦ elim (cases_eq i n) [
    | inl e ↦ absurd (true≢false (sym h ∙ ap f e ∙ no_))
    | inr ne ↦ subst (λ k. i < k) (sym (cond-false _ _ _ no_)) (has_up_to f n i (omega (arith, lt, ne)) h)
  ]
]

-- the list of f 0, f 1, and so on
table : (ℕ → Answer) → ℕ → List Answer
table f zero = []
table f (suc n) = table f n ++ f n ∷ []

table_length : (f : ℕ → Answer) (n : ℕ) → length (table f n) ≡ n
unfolding table
table_length f zero = refl
table_length f (suc n) = let l = length_push (table f n) (f n) in omega (arith, l, table_length f n)

table_at : (f : ℕ → Answer) (n i : ℕ) → i < n → slice_get (table f n) i ≡ Some (f i)
unfolding table
table_at f zero i lt = absurd (omega (arith, lt))
table_at f (suc n) i lt = elim (cases_eq i n) [
  | inl e ↦ subst (λ k. slice_get (table f n ++ f n ∷ []) k ≡ Some (f i)) (table_length f n ∙ sym e) (slice_get_push_last (table f n) (f n) ∙ ap (λ k. Some (f k)) (sym e))
  | inr ne ↦ slice_get_push_kept (table f n) (f n) i (f i) (table_at f n i (omega (arith, lt, ne)))
]

abbrev answer_of : Fate → Answer
answer_of Waits = Silent
answer_of (Says a) = a

module _ (plan : Plan) (settled : IsSettled plan) (marks : HappensBefore plan) (y : Event) where
  is_before : (x z : Event) → Before plan x z ⊎ (Before plan x z → ⊥)
  is_before x z = elim (cases_Bool (marks.before x z)) [
    | inl t ↦ inl ((marks.tells_before x z).0 t)
    | inr f ↦ inr (λ b. true≢false (sym ((marks.tells_before x z).1 b) ∙ f))
  ]

  -- a call before y that may change the name
  abbrev Wanted : ℕ → Event → Type 0
  Wanted n z = Before plan z y × (writes_name plan n z (kind plan z) ≡ true)

  wanted_ordered : (n : ℕ) (a b : Event) → Wanted n a → Wanted n b → (a ≡ b → ⊥) → Before plan a b ⊎ Before plan b a
  wanted_ordered n a b wa wb ne = elim (is_before a b) [
    | inl yes_ ↦ inl yes_
    | inr not_ab ↦ elim (is_before b a) [
      | inl yes_ ↦ inr yes_
      | inr not_ba ↦ elim (cases_eq a.proc b.proc) [
        | inl e ↦ elim (cases_lt a.at b.at) [
          | inl lt ↦ inl (same_process plan a b (before_live wb.0) e lt)
          | inr ge ↦ elim (cases_lt b.at a.at) [
            | inl gt ↦ inr (same_process plan b a (before_live wa.0) (sym e) gt)
            | inr le ↦ absurd (ne (let i : a.at ≡ b.at = omega (arith, ge, le) in λ t. record { proc = e t; at = i t }))
          ]
        ]
        | inr others ↦ absurd (settled.no_name_race a b n (record {
          x_writes = wa.1;
          y_calls = writes_calls plan n b (kind plan b) wb.1;
          others = others;
          not_once = λ _. writes_no_lookup plan n n b (kind plan b) wb.1;
          unordered = record { live_x = before_live wa.0; live_y = before_live wb.0; not_before = not_ab; not_after = not_ba };
        }))
      ]
    ]
  ]

  -- x put where it belongs
  abbrev Inserted : ℕ → Event → List Event → Type 0
  Inserted n x zs = (out : List Event) × ((w : Event) → IsIn w out ↔ ((w ≡ x) ⊎ IsIn w zs)) × IsInOrder plan out

  insert : (n : ℕ) (x : Event) (zs : List Event) → Wanted n x → ((z : Event) → IsIn z zs → Wanted n z × (x ≡ z → ⊥)) → IsInOrder plan zs → Inserted n x zs
  insert n x [] wx all o = (x ∷ [], (λ w. ((λ i. i), (λ i. i))), ((λ z i. absurd i), tt))
  insert n x (z ∷ zs) wx all o = go (wanted_ordered n x z wx (all z (inl refl)).0 (all z (inl refl)).1) (insert n x zs wx (λ w i. all w (inr i)) o.1)
    where
      go : Before plan x z ⊎ Before plan z x → Inserted n x zs → Inserted n x (z ∷ zs)
      go (inr b) rest = (x ∷ (z ∷ zs), (λ w. ((λ i. i), (λ i. i))), ((λ w. ⊎_elim (λ e. subst (λ v. Before plan v x) (sym e) b) (λ i. joined (o.0 w i) b)), o))
      go (inl b) rest = (
        z ∷ rest.0,
        (λ w. (
          ⊎_elim (λ e. inr (inl e)) (λ i. elim ((rest.1 w).0 i) [ inl e ↦ inl e | inr j ↦ inr (inr j) ]),
          ⊎_elim (λ e. inr ((rest.1 w).1 (inl e))) (⊎_elim (λ e. inl e) (λ j. inr ((rest.1 w).1 (inr j)))),
        )),
        ((λ w i. elim ((rest.1 w).0 i) [ inl e ↦ subst (λ v. Before plan v z) (sym e) b | inr j ↦ o.0 w j ]), rest.2),
      )

  -- the first n events, in the order of events
  abbrev Seen : ℕ → ℕ → Event → Type 0
  Seen p i z = (z.proc < p) ⊎ ((z.proc ≡ p) × (z.at < i))

  record Gathered (n p i : ℕ) : Type 0 where
    pub calls : List Event
    pub those : (z : Event) → IsIn z calls ↔ (Wanted n z × Seen p i z)
    pub in_order : IsInOrder plan calls

  event_there : (z : Event) → Before plan z y → (z.at < event_count plan z.proc) × (z.proc < process_count plan)
  event_there z b = let v = live_event plan z (before_live b) in (event_within plan z.proc z.at v.0 v.1, process_within plan z.proc z.at v.0 v.1)

  gather_one : (n p i : ℕ) → Gathered n p i → Gathered n p (suc i)
  gather_one n p i g = elim (is_before x y) [
    | inr not ↦ skip (λ w. not w.0)
    | inl b ↦ elim (cases_Bool (writes_name plan n x (kind plan x))) [
      | inr f ↦ skip (λ w. true≢false (sym w.1 ∙ f))
      | inl t ↦
          (let r = insert n x g.calls (b, t) (λ z i'. let h = (g.those z).0 i' in (h.0, λ e. not_seen (subst (λ v. Seen p i v) (sym e) h.1))) g.in_order in
          record {
            calls = r.0;
            those = λ z. (
              (λ j. elim ((r.1 z).0 j) [
                | inl e ↦ subst (λ v. Wanted n v × Seen p (suc i) v) (sym e) ((b, t), inr (refl, omega arith))
                | inr k ↦ (let h = (g.those z).0 k in (h.0, more z h.1))
              ]),
              (λ h. elim (same_place z x) [
                | inl e ↦ (r.1 z).1 (inl e)
                | inr ne ↦ (r.1 z).1 (inr ((g.those z).1 (h.0, fewer z ne h.1)))
              ]),
            );
            in_order = r.2;
          })
    ]
  ]
    where
      x : Event
      x = record { proc = p; at = i }

      not_seen : Seen p i (record { proc = p; at = i }) → ⊥
      not_seen (inl l) = omega (arith, l)
      not_seen (inr l) = let k = l.1 in omega (arith, k)

      more : (z : Event) → Seen p i z → Seen p (suc i) z
      more z (inl l) = inl l
      more z (inr l) = let k = l.1 in inr (l.0, omega (arith, k))

      fewer : (z : Event) → (z ≡ record { proc = p; at = i } → ⊥) → Seen p (suc i) z → Seen p i z
      fewer z ne (inl l) = inl l
      fewer z ne (inr l) = inr (l.0, (let k = l.1 in elim (cases_eq z.at i) [ inl e ↦ absurd (ne (λ t. record { proc = l.0 t; at = e t })) | inr other ↦ omega (arith, k, other) ]))

      skip : (Wanted n (record { proc = p; at = i }) → ⊥) → Gathered n p (suc i)
      skip no_ = record {
        calls = g.calls;
        those = λ z. (
          (λ j. let h = (g.those z).0 j in (h.0, more z h.1)),
          (λ h. (g.those z).1 (h.0, fewer z (λ e. no_ (subst (λ v. Wanted n v) e h.0)) h.1)),
        );
        in_order = g.in_order;
      }

  gather_process : (n p : ℕ) → Gathered n p 0 → (i : ℕ) → Gathered n p i
  gather_process n p g zero = g
  gather_process n p g (suc i) = gather_one n p i (gather_process n p g i)

  gather : (n p : ℕ) → Gathered n p 0
  gather n zero = record {
    calls = [];
    those = λ z. ((λ j. absurd j), (λ h. elim h.1 [ inl l ↦ absurd (omega (arith, l)) | inr l ↦ absurd (let k = l.1 in omega (arith, k)) ]));
    in_order = tt;
  }
  gather n (suc p) =
      let g = gather_process n p (gather n p) (event_count plan p) in
      record {
        calls = g.calls;
        those = λ z. (
          (λ j. let h = (g.those z).0 j in (h.0, elim h.1 [ inl l ↦ inl (omega (arith, l)) | inr l ↦ inl (let k = l.0 in omega (arith, k)) ])),
          (λ h. (g.those z).1 (
            h.0,
            elim h.1 [
              | inl l ↦ elim (cases_eq z.proc p) [
                | inl e ↦ inr (e, (let w = (event_there z h.0.0).0 in subst (λ q. z.at < event_count plan q) e w))
                | inr ne ↦ inl (omega (arith, l, ne))
              ]
              | inr l ↦ absurd (let k = l.1 in omega (arith, k))
            ],
          )),
        );
        in_order = g.in_order;
      }

  history : (n : ℕ) → (calls : List Event) × IsNameHistory plan y n calls
  history n =
      let g = gather n (process_count plan) in (
        g.calls,
        record {
          those = λ z. ((λ j. ((g.those z).0 j).0), (λ w. (g.those z).1 (w, inl (event_there z w.0).1)));
          in_order = g.in_order;
        },
      )

  past_done : ℕ → ℕ
  past_done p = up_to (λ i. marks.before (record { proc = p; at = i }) y) (event_count plan p)

  past_of : (Event → Fate) → State
  past_of fate_of = record {
    done = past_done;
    names = λ n. left_by plan n (history n).0;
    replies = λ p. table (λ i. answer_of (fate_of (record { proc = p; at = i }))) (past_done p);
  }

  past_cut : (z : Event) → (z.at < past_done z.proc) ↔ Before plan z y
  unfolding past_done
  past_cut z = (
    (λ d. (marks.tells_before z y).0 (up_to_has (λ i. marks.before (record { proc = z.proc; at = i }) y) (λ i j lt h.
        let b = (marks.tells_before (record { proc = z.proc; at = j }) y).0 h in
        (marks.tells_before (record { proc = z.proc; at = i }) y).1 (joined (same_process plan (record { proc = z.proc; at = i }) (record { proc = z.proc; at = j }) (before_live b) refl lt) b))
        (event_count plan z.proc) z.at d)),
    (λ b. has_up_to (λ i. marks.before (record { proc = z.proc; at = i }) y) (event_count plan z.proc) z.at (event_there z b).0 ((marks.tells_before z y).1 b)),
  )

  past_is_past : (fate_of : Event → Fate) → IsPast plan y fate_of (past_of fate_of)
  unfolding past_of
  past_is_past fate_of = record {
    cut = past_cut;
    names = λ n. ((history n).0, (history n).1, refl);
    replies = λ z a b e. table_at (λ i. answer_of (fate_of (record { proc = z.proc; at = i }))) (past_done z.proc) z.at ((past_cut z).1 b) ∙ ap (λ f. Some (answer_of f)) e;
  }

-- what is before y, and y, has fates
record Fated (plan : Plan) (y : Event) : Type 0 where
  earlier : (z : Event) → Before plan z y → (fate : Fate) × HasFate plan z fate
  own_fate : (fate : Fate) × HasFate plan y fate

earlier_fates : {plan : Plan} {z y : Event} → Before plan z y → ((x : Event) → Edge plan x y → Fated plan x) → (fate : Fate) × HasFate plan z fate
earlier_fates (edge l e m) from = (from _ e).own_fate
earlier_fates (further b e m) from = (from _ e).earlier _ b

module _ (plan : Plan) (settled : IsSettled plan) (marks : HappensBefore plan) where
  module _ (y : Event) (l : Live plan y) (from : (x : Event) → Edge plan x y → Fated plan x) where
    abbrev picked : (z : Event) (b : Bool) → marks.before z y ≡ b → Fate
    picked z true e = (earlier_fates ((marks.tells_before z y).0 e) from).0
    picked z false e = Waits

    abbrev fate_before : Event → Fate
    fate_before z = picked z (marks.before z y) refl

    picked_has : (z : Event) → Before plan z y → (b : Bool) (e : marks.before z y ≡ b) → HasFate plan z (picked z b e)
    picked_has z before true e = (earlier_fates ((marks.tells_before z y).0 e) from).1
    picked_has z before false e = absurd (true≢false (sym ((marks.tells_before z y).1 before) ∙ e))

    with_earlier : Fated plan y
    with_earlier = record {
      earlier = λ z b. earlier_fates b from;
      own_fate = (
        fate_in plan (past_of plan settled marks y fate_before) y,
        told l fate_before (λ z b. picked_has z b (marks.before z y) refl) (past_of plan settled marks y fate_before) (past_is_past plan settled marks y fate_before) refl,
      );
    }

  fated : {y : Event} → Live plan y → Fated plan y
  fated (live may from) = with_earlier _ (live may from) (λ x e. fated (from x e))

pub have_fates : HaveFates
have_fates plan settled marks y = elim (cases_Bool (marks.alive y)) [
  | inl t ↦ (fated plan settled marks ((marks.tells_live y).0 t)).own_fate
  | inr f ↦ (Waits, dead (λ l. true≢false (sym ((marks.tells_live y).1 l) ∙ f)) refl)
]

-- The calls on a name, in the order of a run and in the order of chains.
use Rattle.std.proofs.Common.{◌≡◌, ℕ, zero, suc, ◌+◌, ◌-◌, ◌<◌, ◌≤◌, List, [], ◌∷◌, true, ◌⊎◌, inl, inr, ⊎_elim, refl, sym, ap, ◌∙◌, subst, arith}
use Rattle.std.proofs.lemmas.Bool.{cases_eq, cases_Bool, true≢false}
use Rattle.wire_runs.specs.Plan.{Plan, kind, Event}
use Rattle.wire_runs.specs.State.{State, start, next_event, IsDone}
use Rattle.wire_runs.specs.Step.{name_after, step}
use Rattle.wire_runs.specs.Order.{Edge, Follows, Announces, Live, live, Before, edge, further}
use Rattle.wire_runs.specs.Names.{writes_name, calls_name}
use Rattle.wire_runs.specs.Races.{IsSettled}
use Rattle.wire_runs.specs.Fate.{IsIn, IsInOrder, left_by, IsNameHistory}
use Rattle.wire_runs.proofs.Diamond.{name_kept}
use Rattle.wire_runs.proofs.Due.{Sound, chain_in, closed_cut, live_source, done_kept, done_now, done_was, place_path}

pub prepend : {plan : Plan} {x y z : Event} → Live plan x → Edge plan x y → Before plan y z → Before plan x z
prepend l e (edge ly f lz) = further (edge l e ly) f lz
prepend l e (further b f lz) = further (prepend l e b) f lz

-- no live event is before itself
pub no_cycle : {plan : Plan} {y : Event} → Live plan y → Before plan y y → ⊥
no_cycle (live may from) (edge l e m) = no_cycle (from _ e) (edge l e m)
no_cycle (live may from) (further b e m) = no_cycle (from _ e) (prepend (from _ e) e b)

pub before_live : {plan : Plan} {x y : Event} → Before plan x y → Live plan x
before_live (edge l e m) = l
before_live (further b e m) = before_live b

pub after_live : {plan : Plan} {x y : Event} → Before plan x y → Live plan y
after_live (edge l e m) = m
after_live (further b e m) = m

pub joined : {plan : Plan} {x y z : Event} → Before plan x y → Before plan y z → Before plan x z
joined b (edge l e m) = further b e m
joined b (further c e m) = further (joined b c) e m

-- an earlier event of the same process
earlier_before : (plan : Plan) (p i n : ℕ) → Live plan (record { proc = p; at = suc (i + n) }) → Before plan (record { proc = p; at = i }) (record { proc = p; at = suc (i + n) })
earlier_before plan p i zero l =
    let e : Edge plan (record { proc = p; at = i }) (record { proc = p; at = suc (i + 0) }) = Follows refl (omega arith) in
    edge (live_source l e) e l
earlier_before plan p i (suc n) l =
    let e : Edge plan (record { proc = p; at = suc (i + n) }) (record { proc = p; at = suc (i + suc n) }) = Follows refl (omega arith) in
    further (earlier_before plan p i n (live_source l e)) e l

pub same_process : (plan : Plan) (x y : Event) → Live plan y → x.proc ≡ y.proc → x.at < y.at → Before plan x y
same_process plan x y l e lt =
    let there : y ≡ record { proc = y.proc; at = suc (x.at + (y.at - suc x.at)) } = place_path y y.proc _ refl (omega (arith, lt)) in
    let here : x ≡ record { proc = y.proc; at = x.at } = place_path x y.proc x.at e refl in
    subst (λ a. Before plan a y) (sym here) (subst (λ b. Before plan (record { proc = y.proc; at = x.at }) b) (sym there)
    (earlier_before plan y.proc x.at (y.at - suc x.at) (subst (λ b. Live plan b) there l)))

-- as a run makes them, the newest first: none is before one that stands behind it
abbrev pub IsAsRun : Plan → List Event → Type 0
IsAsRun plan [] = Unit {0}
IsAsRun plan (x ∷ xs) = ((z : Event) → IsIn z xs → (Before plan x z → ⊥) × (z ≡ x → ⊥)) × IsAsRun plan xs

-- the two orders of the same calls are one
pub one_order : (plan : Plan) (xs ys : List Event) → IsAsRun plan xs → IsInOrder plan ys → ((z : Event) → IsIn z xs → IsIn z ys) → ((z : Event) → IsIn z ys → IsIn z xs) → xs ≡ ys
one_order plan [] [] r o into from = refl
one_order plan [] (y ∷ ys) r o into from = absurd (from y (inl refl))
one_order plan (x ∷ xs) [] r o into from = absurd (into x (inl refl))
one_order plan (x ∷ xs) (y ∷ ys) r o into from =
    let heads : x ≡ y = elim (into x (inl refl)) [
      | inl e ↦ e
      | inr older ↦ elim (from y (inl refl)) [
        | inl e ↦ sym e
        | inr behind ↦ absurd ((r.0 y behind).0 (o.0 x older))
      ]
    ] in
    let rest : xs ≡ ys = one_order plan xs ys r.1 o.1
    (λ z i. elim (into z (inr i)) [ inl e ↦ absurd ((r.0 z i).1 (e ∙ sym heads)) | inr j ↦ j ])
    (λ z j. elim (from z (inr j)) [ inl e ↦ absurd (let b = o.0 z j in no_cycle (before_live b) (subst (λ a. Before plan z a) (sym (e ∙ heads)) b)) | inr i ↦ i ]) in
    ap (λ a. a ∷ xs) heads ∙ ap (λ l. y ∷ l) rest

-- what stands under a name is what the done calls left, in the order of the run
pub record Written (plan : Plan) (s : State) (n : ℕ) : Type 0 where
  pub calls : List Event
  pub is_done : (z : Event) → IsIn z calls → IsDone s z × (writes_name plan n z (kind plan z) ≡ true)
  pub all : (z : Event) → IsDone s z → writes_name plan n z (kind plan z) ≡ true → IsIn z calls
  pub as_run : IsAsRun plan calls
  pub left : s.names n ≡ left_by plan n calls

pub written_start : (plan : Plan) (n : ℕ) → Written plan start n
written_start plan n = record { calls = []; is_done = λ z i. absurd i; all = λ z d w. absurd (omega (arith, d)); as_run = tt; left = refl }

pub written_step : (plan : Plan) (s : State) (p n : ℕ) → Sound plan s → Written plan s n → Written plan (step plan s p) n
written_step plan s p n k w = elim (cases_Bool (writes_name plan n (next_event s p) (kind plan (next_event s p)))) [
  | inr f ↦ record {
    calls = w.calls;
    is_done = λ z i. let r = w.is_done z i in (done_kept plan s p z r.0, r.1);
    all = λ z d t. elim (done_was plan s p z d) [ inl was ↦ w.all z was t | inr e ↦ absurd (true≢false (sym t ∙ ap (λ a. writes_name plan n a (kind plan a)) e ∙ f)) ];
    as_run = w.as_run;
    left = name_kept plan (kind plan (next_event s p)) (next_event s p) (s.names n) n (λ z i. (k.named n z i).0) f ∙ w.left;
  }
  | inl t ↦ record {
    calls = next_event s p ∷ w.calls;
    is_done = λ z. ⊎_elim (λ e. (subst (λ a. IsDone (step plan s p) a) (sym e) (done_now plan s p), ap (λ a. writes_name plan n a (kind plan a)) e ∙ t))
        (λ i. let r = w.is_done z i in (done_kept plan s p z r.0, r.1));
    all = λ z d u. elim (done_was plan s p z d) [ inl was ↦ inr (w.all z was u) | inr e ↦ inl e ];
    as_run = (
      (λ z i. let r = w.is_done z i in (
        (λ b. let d = chain_in (closed_cut k) b r.0 in omega (arith, d)),
        (λ e. let d : IsDone s (next_event s p) = subst (λ a. IsDone s a) e r.0 in omega (arith, d)),
      )),
      w.as_run,
    );
    left = ap (λ b. name_after b (next_event s p) (kind plan (next_event s p)) n) w.left;
  }
]

pub same_place : (x y : Event) → (x ≡ y) ⊎ (x ≡ y → ⊥)
same_place x y = elim (cases_eq x.proc y.proc) [
  | inr ne ↦ inr (λ e. ne (ap (λ (z : Event). z.proc) e))
  | inl p ↦ elim (cases_eq x.at y.at) [
    | inr ne ↦ inr (λ e. ne (ap (λ (z : Event). z.at) e))
    | inl i ↦ inl (λ t. record { proc = p t; at = i t })
  ]
]

pub is_in_or_not : (z : Event) (xs : List Event) → IsIn z xs ⊎ (IsIn z xs → ⊥)
is_in_or_not z [] = inr (λ i. i)
is_in_or_not z (x ∷ xs) = elim (same_place z x) [
  | inl e ↦ inl (inl e)
  | inr ne ↦ elim (is_in_or_not z xs) [ inl i ↦ inl (inr i) | inr out ↦ inr (⊎_elim ne out) ]
]

-- the calls that a run has made on a name that y asks for are those before y
pub name_is_past : (plan : Plan) → IsSettled plan → (s : State) → Sound plan s → (y : Event) → Live plan y → ((z : Event) → Before plan z y → IsDone s z) → s.done y.proc ≤ y.at →
    (n : ℕ) (calls : List Event) → calls_name plan n y (kind plan y) ≡ true → Written plan s n → IsNameHistory plan y n calls → s.names n ≡ left_by plan n calls
name_is_past plan settled s k y live_y known not_yet n calls c w h = w.left ∙ ap (left_by plan n) (one_order plan w.calls calls w.as_run h.in_order into from)
  where
    into : (z : Event) → IsIn z w.calls → IsIn z calls
    into z i = elim (is_in_or_not z calls) [
      | inl yes_ ↦ yes_
      | inr no_ ↦ (let r = w.is_done z i in
          let unknown : Before plan z y → ⊥ = λ b. no_ ((h.those z).1 (b, r.1)) in
          absurd (elim (cases_eq z.proc y.proc) [
            | inl e ↦ unknown (same_process plan z y live_y e (let d = r.0 in let e' = ap s.done e in omega (arith, d, e', not_yet)))
            | inr ne ↦ settled.no_name_race z y n (record {
              x_writes = r.1;
              y_calls = c;
              others = ne;
              not_once = λ once wait. unknown (edge (k.live_done z r.0) (Announces n wait once) live_y);
              unordered = record { live_x = k.live_done z r.0; live_y = live_y; not_before = unknown; not_after = λ b. let d = chain_in (closed_cut k) b r.0 in omega (arith, d, not_yet) };
            })
          ]))
    ]

    from : (z : Event) → IsIn z calls → IsIn z w.calls
    from z i = let r = (h.those z).0 i in w.all z (known z r.0) r.1

-- in the order of chains, none is before one that stands behind it
in_order_as_run : (plan : Plan) (xs : List Event) → IsInOrder plan xs → IsAsRun plan xs
in_order_as_run plan [] o = tt
in_order_as_run plan (x ∷ xs) o = (
  (λ z i. let b = o.0 z i in (
    (λ c. no_cycle (before_live b) (joined b c)),
    (λ e. no_cycle (before_live b) (subst (λ v. Before plan z v) (sym e) b)),
  )),
  in_order_as_run plan xs o.1,
)

-- the history of a name before y is one
pub one_history : (plan : Plan) (y : Event) (n : ℕ) (xs ys : List Event) → IsNameHistory plan y n xs → IsNameHistory plan y n ys → xs ≡ ys
one_history plan y n xs ys a b =
    one_order plan xs ys (in_order_as_run plan xs a.in_order) b.in_order (λ z i. (b.those z).1 ((a.those z).0 i)) (λ z i. (a.those z).1 ((b.those z).0 i))

-- How the lists of publishes and unpublishes grow.
use Rattle.std.proofs.Common.{◌≡◌, ◌∙◌, ◌⊎◌, ap, refl, sym, subst, ℕ, ◌<◌, ◌-◌, List, [], ◌∷◌, ◌++◌, true, false, Option}
use Rattle.std.proofs.Common.{Some, None, length, length-append, arith, inl, inr, ⊎_elim, eq-eqb, eqb-true, ne_eqb}
use Rattle.std.specs.Prelude.{slice_get, option_map, if◌then◌else◌, ◌==◌, ◌≢◌}
use Rattle.std.proofs.lemmas.Bool.{cases_Bool, cases_eq, true≢false, cond-true, cond-false}
use Rattle.wire_runs.specs.Plan.{Plan, Event, Kind, Publish, Unpublish, UnpublishAll, kind, event_of, event_count}
use Rattle.wire_runs.specs.Names.{writes_name, publishes}
use Rattle.wire_runs.specs.Step.{name_after, is_publisher}
use Rattle.wire_runs.specs.Order.{Edge, Before, edge, further}
use Rattle.wire_runs.specs.Fate.{left_by}
use Rattle.wire_runs.proofs.Due.{named_after}
use Rattle.wire_runs.proofs.Lists.{slice_get_push_last}
use Rattle.wire_plan.proofs.Published.{publisher}
use Rattle.wire_plan.specs.Kinds.{kind_of}
use Rattle.wire_plan.specs.declared.Kind.{Kind as CodeKind}
use Rattle.wire_plan.specs.declared.Kind.TheVariants as code
use Rattle.wire_happens_before.specs.declared.updates.Update.{Update}
use Rattle.wire_happens_before.specs.Updates.{standing_after, standing_in, after_publish, after_unpublish, AreChanges, AreUpdates, IsUpdateNoted, TakesAway, IsCleared}

-- of what has its sources, all that is before it
pub chain_within : {plan : Plan} (count : ℕ → ℕ) {x y : Event} → ((x y : Event) → Edge plan x y → y.at < count y.proc → x.at < count x.proc) → Before plan x y → y.at < count y.proc →
    x.at < count x.proc
chain_within count closed (edge l e m) d = closed _ _ e d
chain_within count closed (further b e m) d = chain_within count closed b (closed _ _ e d)

pub none_yet : (plan : Plan) (holds : Event → Type 0) (name : ℕ) → ((z : Event) → holds z → ⊥) → AreUpdates plan holds name []
none_yet plan holds name never = record {
  calls = [];
  those = λ z. ((λ i. absurd i), (λ h. absurd (never z h.0)));
  falling = tt;
  changes = refl;
}

-- the same of what holds of the same events
pub updates_same : (plan : Plan) (was now : Event → Type 0) (name : ℕ) (us : List Update) → ((z : Event) → was z → now z) → ((z : Event) → now z → was z) → AreUpdates plan was name us →
    AreUpdates plan now name us
updates_same plan was now name us there back are = record {
  calls = are.calls;
  those = λ z. ((λ i. let o = (are.those z).0 i in (there z o.0, o.1)), (λ h. (are.those z).1 (back z h.0, h.1)));
  falling = are.falling;
  changes = are.changes;
}

pub standing_last : (us : List Update) (u : Update) → standing_in (us ++ u ∷ []) ≡ option_map event_of u.standing
standing_last us u =
    let last : length (us ++ u ∷ []) - 1 ≡ length us = omega (arith, length-append us (u ∷ [])) in
    ap (λ i. standing_after (slice_get (us ++ u ∷ []) i)) last ∙ ap standing_after (slice_get_push_last us u)

-- the last of the updates tells what stands
pub standing_all : (plan : Plan) (name : ℕ) (calls : List Event) (us : List Update) → AreChanges plan name calls us → standing_in us ≡ left_by plan name calls
standing_all plan name [] us none = ap standing_in none
standing_all plan name (x ∷ xs) us (inl h) = standing_all plan name xs us h.1 ∙ sym h.0
standing_all plan name (x ∷ xs) us (inr (u, others, is, it, stands, rest)) = ap standing_in is ∙ standing_last others u ∙ stands

-- what stands is a publish
left_publish : (plan : Plan) (name : ℕ) (calls : List Event) (x : Event) → left_by plan name calls ≡ Some x → kind plan x ≡ Some (Publish name)
left_publish plan name [] x e = cc
left_publish plan name (c ∷ calls) x e = elim (named_after (left_by plan name calls) c (kind plan c) name x e) [
  | inl was ↦ left_publish plan name calls x was
  | inr now ↦ ap (kind plan) now.0 ∙ now.1
]

publisher_there : (p : ℕ) (o : Option Event) → is_publisher p o ≡ true → (x : Event) × (o ≡ Some x) × (x.proc ≡ p)
publisher_there p (Some x) h = (x, refl, eqb-true x.proc p h)
publisher_there p None h = absurd (true≢false (sym h))

-- a call that takes away a publish of its process can change the name
sweep_writes : (plan : Plan) (name : ℕ) (z : Event) (calls : List Event) → kind plan z ≡ Some UnpublishAll →
    is_publisher z.proc (left_by plan name calls) ≡ true → writes_name plan name z (kind plan z) ≡ true
sweep_writes plan name z calls is by =
    let w = publisher_there z.proc (left_by plan name calls) by in
    ap (writes_name plan name z) is ∙ ap (λ p. publishes plan p name (event_count plan p)) (sym w.2) ∙ publisher plan w.0 name (left_publish plan name calls w.0 w.1)

module _ (plan : Plan) (name : ℕ) (was now : Event → Type 0) (z : Event) (up : (y : Event) → was y → now y) (here : now z) (back : (y : Event) → now y → was y ⊎ (y ≡ z)) (new_ : was z → ⊥)
    (last : (y : Event) → was y → Before plan z y → ⊥) where
  abbrev Writes : Event → Type 0
  Writes y = writes_name plan name y (kind plan y) ≡ true

  not_noted : (us : List Update) → writes_name plan name z (kind plan z) ≡ false → AreUpdates plan was name us → AreUpdates plan now name us
  not_noted us f are = record {
    calls = are.calls;
    those = λ y. (
      (λ i. let o = (are.those y).0 i in (up y o.0, o.1)),
      (λ h. elim (back y h.0) [
        | inl b ↦ (are.those y).1 (b, h.1)
        | inr e ↦ absurd (true≢false (sym (subst Writes e h.1) ∙ f))
      ]),
    );
    falling = are.falling;
    changes = are.changes;
  }

  module _ (old new : List Update) (t : Writes z) (are : AreUpdates plan was name old) where
    changed : IsUpdateNoted plan z name old new → AreChanges plan name (z ∷ are.calls) new
    changed (inl h) =
        let stands = standing_all plan name are.calls old are.changes in
        inl (subst (λ o. name_after o z (kind plan z) name ≡ o) stands h.1, subst (AreChanges plan name are.calls) (sym h.0) are.changes)
    changed (inr a) = inr (a.update, old, a.list, a.it, a.stands ∙ ap (λ o. name_after o z (kind plan z) name) (standing_all plan name are.calls old are.changes), are.changes)

    noted : IsUpdateNoted plan z name old new → AreUpdates plan now name new
    noted n = record {
      calls = z ∷ are.calls;
      those = λ y. (
        (λ i. ⊎_elim (λ e. (subst now (sym e) here, subst Writes (sym e) t)) (λ j. let o = (are.those y).0 j in (up y o.0, o.1)) i),
        (λ h. elim (back y h.0) [
          | inl b ↦ inr ((are.those y).1 (b, h.1))
          | inr e ↦ inl e
        ]),
      );
      falling = ((λ y i. let w = ((are.those y).0 i).0 in (last y w, (λ e. new_ (subst was e w)))), are.falling);
      changes = changed n;
    }

  unchanged : (old new : List Update) → writes_name plan name z (kind plan z) ≡ false → AreUpdates plan was name old → IsUpdateNoted plan z name old new → AreUpdates plan now name new
  unchanged old new f are (inl h) = subst (AreUpdates plan now name) (sym h.0) (not_noted old f are)
  unchanged old new f are (inr a) = absurd (true≢false (sym (writes a.writes) ∙ f))
    where
      writes : Writes z ⊎ ((kind plan z ≡ Some UnpublishAll) × (is_publisher z.proc (standing_in old) ≡ true)) → Writes z
      writes (inl w) = w
      writes (inr w) = sweep_writes plan name z are.calls w.0 (ap (is_publisher z.proc) (sym (standing_all plan name are.calls old are.changes)) ∙ w.1)

  -- one more event is marked
  pub updates_more : (old new : List Update) → IsUpdateNoted plan z name old new → AreUpdates plan was name old → AreUpdates plan now name new
  updates_more old new n are = elim (cases_Bool (writes_name plan name z (kind plan z))) [
    | inr f ↦ unchanged old new f are n
    | inl t ↦ noted old new t are n
  ]

-- what is noted of a publish and an unpublish
module _ (plan : Plan) (z : Event) (n : ℕ) (old new : ℕ → List Update) (u : Update) (is_z : event_of u.event ≡ z) (here : new n ≡ old n ++ u ∷ [])
    (others : (m : ℕ) → m ≢ n → new m ≡ old m) where
  noted_by : (k : Kind) → kind plan z ≡ Some k → ((m : ℕ) → m ≢ n → (o : Option Event) → name_after o z (Some k) m ≡ o) → writes_name plan n z (Some k) ≡ true →
      option_map event_of u.standing ≡ name_after (standing_in (old n)) z (Some k) n → (m : ℕ) → IsUpdateNoted plan z m (old m) (new m)
  noted_by k is stays writes stands m = elim (cases_eq m n) [
    | inr ne ↦ inl (others m ne, ap (λ o. name_after (standing_in (old m)) z o m) is ∙ stays m ne (standing_in (old m)))
    | inl e ↦ subst (λ i. IsUpdateNoted plan z i (old i) (new i)) (sym e) (inr (record {
      update = u;
      it = is_z;
      stands = stands ∙ ap (λ o. name_after (standing_in (old n)) z o n) (sym is);
      list = here;
      writes = inl (ap (writes_name plan n z) is ∙ writes);
    }))
  ]

  other_name : (m : ℕ) (a b : Option Event) → m ≢ n → (if n == m then a else b) ≡ b
  other_name m a b ne = cond-false (n == m) a b (ne_eqb n m (λ e. ne (sym e)))

  pub publish_noted : kind plan z ≡ Some (Publish n) → option_map event_of u.standing ≡ after_publish z (standing_in (old n)) → (m : ℕ) → IsUpdateNoted plan z m (old m) (new m)
  publish_noted is stands m =
      noted_by (Publish n) is (λ i ne o. other_name i (after_publish z o) o ne) (eq-eqb n n refl)
      (stands ∙ sym (cond-true (n == n) (after_publish z (standing_in (old n))) (standing_in (old n)) (eq-eqb n n refl))) m

  pub unpublish_noted : kind plan z ≡ Some (Unpublish n) → option_map event_of u.standing ≡ after_unpublish z.proc (standing_in (old n)) → (m : ℕ) → IsUpdateNoted plan z m (old m) (new m)
  unpublish_noted is stands m =
      noted_by (Unpublish n) is (λ i ne o. other_name i (after_unpublish z.proc o) o ne) (eq-eqb n n refl)
      (stands ∙ sym (cond-true (n == n) (after_unpublish z.proc (standing_in (old n))) (standing_in (old n)) (eq-eqb n n refl))) m

-- of a call that takes away all names of its process
pub swept_noted : (plan : Plan) (z : Event) (old new : ℕ → List Update) → kind plan z ≡ Some UnpublishAll → ((m : ℕ) → TakesAway z (old m) (new m)) → ((m : ℕ) → IsCleared z.proc (new m)) → (m : ℕ) →
    IsUpdateNoted plan z m (old m) (new m)
swept_noted plan z old new is swept cleared m = elim (swept m) [
  | inl same ↦
      (let none : is_publisher z.proc (standing_in (old m)) ≡ false = ap (λ us. is_publisher z.proc (standing_in us)) (sym same) ∙ cleared m in
      inl (same, ap (λ o. name_after (standing_in (old m)) z o m) is ∙ cond-false (is_publisher z.proc (standing_in (old m))) None (standing_in (old m)) none))
  | inr h ↦ inr (record {
    update = h.1;
    it = h.2;
    stands = h.3 ∙ sym (ap (λ o. name_after (standing_in (old m)) z o m) is ∙ cond-true (is_publisher z.proc (standing_in (old m))) None (standing_in (old m)) h.0);
    list = h.4;
    writes = inr (is, h.0);
  })
]

-- and of all other events nothing
pub nothing_noted : (plan : Plan) (z : Event) (lists : ℕ → List Update) → ((m : ℕ) (o : Option Event) → name_after o z (kind plan z) m ≡ o) → (m : ℕ) → IsUpdateNoted plan z m (lists m) (lists m)
nothing_noted plan z lists never m = inl (refl, never m (standing_in (lists m)))

-- which are these
pub stays : (plan : Plan) (z : Event) (sets : List (List ℕ)) (k : CodeKind) → kind plan z ≡ Some (kind_of sets k) →
    ((name : ℕ) → k ≡ code.Publish name → ⊥) → ((name : ℕ) → k ≡ code.Unpublish name → ⊥) →
    (k ≡ code.UnpublishAll → ⊥) → (m : ℕ) (o : Option Event) → name_after o z (kind plan z) m ≡ o
stays plan z sets k is no_publish no_unpublish no_sweep m o = ap (λ e. name_after o z e m) is ∙ of_kind k no_publish no_unpublish no_sweep
  where
    of_kind : (c : CodeKind) → ((name : ℕ) → c ≡ code.Publish name → ⊥) → ((name : ℕ) → c ≡ code.Unpublish name → ⊥) → (c ≡ code.UnpublishAll → ⊥) → name_after o z (Some (kind_of sets c)) m ≡ o
    of_kind (code.Publish name) a b d = absurd (a name refl)
    of_kind (code.Unpublish name) a b d = absurd (b name refl)
    of_kind code.UnpublishAll a b d = absurd (d refl)
    of_kind (code.Put scope key) a b d = refl
    of_kind code.Commit a b d = refl
    of_kind (code.Arrive set collect) a b d = refl
    of_kind (code.Leave set) a b d = refl
    of_kind (code.Get owner key) a b d = refl
    of_kind (code.GetNow owner key) a b d = refl
    of_kind (code.Lookup name) a b d = refl
    of_kind (code.LookupWait name) a b d = refl
    of_kind (code.Fixed reply) a b d = refl

-- What a process publishes, and what can take a name away.
use Rattle.std.proofs.Common.{◌≡◌, ◌≢◌, ◌∙◌, ap, sym, refl, ℕ, zero, suc, ◌<◌, Bool, true, false, Option, Some, eqb-true, arith, inl, inr}
use Rattle.std.specs.Prelude.{◌||◌}
use Rattle.std.proofs.lemmas.Bool.{cases_Bool, true≢false}
use Rattle.wire_runs.specs.Plan.{Plan, Event, Kind, Publish, Unpublish, UnpublishAll, kind, kind_at, event_count}
use Rattle.wire_runs.specs.Names.{is_publish, publishes, takes_name}
use Rattle.wire_runs.proofs.Basics.{event_within}
use Rattle.wire_runs.proofs.Diamond.{publishes_from}

-- it is the publish of the name
publish_of : (name : ℕ) (o : Option Kind) → is_publish name o ≡ true → o ≡ Some (Publish name)
publish_of name (Some (Publish n)) h = ap (λ m. Some (Publish m)) (eqb-true n name h)
publish_of name _ h = absurd (true≢false (sym h))

or_right : (a b : Bool) → a ≡ false → (a || b) ≡ true → b ≡ true
or_right false b f h = h
or_right true b f h = absurd (true≢false f)

-- what a script publishes, one of its events publishes
pub published_at : (plan : Plan) (p name n : ℕ) → publishes plan p name n ≡ true → (i : ℕ) × (i < n) × (kind_at plan p i ≡ Some (Publish name))
published_at plan p name zero h = absurd (true≢false (sym h))
published_at plan p name (suc n) h = elim (cases_Bool (is_publish name (kind_at plan p n))) [
  | inl t ↦ (n, omega arith, publish_of name (kind_at plan p n) t)
  | inr f ↦
      let w = published_at plan p name n (or_right (is_publish name (kind_at plan p n)) (publishes plan p name n) f h) in
      let lt = w.1 in
      (w.0, omega (arith, lt), w.2)
]

-- a process of a publish publishes the name
pub publisher : (plan : Plan) (x : Event) (name : ℕ) → kind plan x ≡ Some (Publish name) → publishes plan x.proc name (event_count plan x.proc) ≡ true
publisher plan x name is = publishes_from plan x.proc name x.at (event_count plan x.proc) (event_within plan x.proc x.at (Publish name) is) is

-- where nobody unpublishes the name alone, and no process that publishes it takes away all its names, nothing takes it away
pub nothing_takes : (plan : Plan) (name : ℕ) (y : Event) → kind plan y ≢ Some (Unpublish name) →
    (kind plan y ≡ Some UnpublishAll → (i : ℕ) → kind_at plan y.proc i ≡ Some (Publish name) → ⊥) → takes_name plan name y (kind plan y) ≡ false
nothing_takes plan name y plain all = of_kind (kind plan y) refl
  where
    not_true : (b : Bool) → (b ≡ true → ⊥) → b ≡ false
    not_true true h = absurd (h refl)
    not_true false h = refl

    of_kind : (o : Option Kind) → kind plan y ≡ o → takes_name plan name y o ≡ false
    of_kind (Some (Unpublish n)) is = not_true _ (λ t. plain (is ∙ ap (λ m. Some (Unpublish m)) (eqb-true n name t)))
    of_kind (Some UnpublishAll) is = not_true _ (λ t. let w = published_at plan y.proc name (event_count plan y.proc) t in all is w.0 w.2)
    of_kind _ is = refl

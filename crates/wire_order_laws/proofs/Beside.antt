-- Two plans event by event: what holds of each pair of kinds, and calls on names where both publish alike.
use Rattle.std.proofs.Common.{◌≡◌, ℕ, Option, Some, None, inl, inr, refl, sym, subst, arith}
use Rattle.std.proofs.lemmas.Bool.{cases_lt}
use Rattle.wire_runs.specs.Plan.{Plan, Event, Kind, Publish, Lookup, LookupWait, UnpublishAll, kind, event_count}
use Rattle.wire_runs.specs.Names.{publishes, takes_name, writes_name, calls_name}
use Rattle.wire_runs.proofs.Basics.{event_past}
use Rattle.wire_runs.proofs.Images.{event_at}

-- what holds of no call, and of each two calls in one place, holds in each place
pub beside : (a b : Plan) (stands : Event → Kind → Kind → Type 0) → ((p : ℕ) → event_count b p ≡ event_count a p) →
    ((x : Event) (k l : Kind) → kind a x ≡ Some k → kind b x ≡ Some l → stands x k l) → (x : Event) (holds : Option Kind → Option Kind → Type 0) → holds None None →
    ((k l : Kind) → kind a x ≡ Some k → kind b x ≡ Some l → stands x k l → holds (Some k) (Some l)) → holds (kind a x) (kind b x)
beside a b stands counts calls x holds none some = elim (cases_lt x.at (event_count a x.proc)) [
  | inl lt ↦ (
      let k = event_at a x.proc x.at lt in
      let l = event_at b x.proc x.at (let same = counts x.proc in omega (arith, lt, same)) in
      subst (λ o. holds o (kind b x)) (sym k.1) (subst (λ o. holds (Some k.0) o) (sym l.1) (some k.0 l.0 k.1 l.1 (calls x k.0 l.0 k.1 l.1))))
  | inr ge ↦ (
      let past = event_past a x.proc x.at ge in
      let past_too = event_past b x.proc x.at (let same = counts x.proc in omega (arith, ge, same)) in
      subst (λ o. holds o (kind b x)) (sym past) (subst (λ o. holds None o) (sym past_too) none))
]

module _ (a b : Plan) (publish : (p name : ℕ) → publishes a p name (event_count a p) ≡ publishes b p name (event_count b p)) where
  pub takes_alike : (name : ℕ) (x : Event) (o : Option Kind) → takes_name a name x o ≡ takes_name b name x o
  takes_alike name x (Some UnpublishAll) = publish x.proc name
  takes_alike name x None = refl
  takes_alike name x (Some _) = refl

  pub writes_alike : (name : ℕ) (x : Event) (o : Option Kind) → writes_name a name x o ≡ writes_name b name x o
  writes_alike name x (Some (Publish n)) = refl
  writes_alike name x None = refl
  writes_alike name x (Some k) = takes_alike name x (Some k)

  pub calls_alike : (name : ℕ) (x : Event) (o : Option Kind) → calls_name a name x o ≡ calls_name b name x o
  calls_alike name x (Some (Lookup n)) = refl
  calls_alike name x (Some (LookupWait n)) = refl
  calls_alike name x None = refl
  calls_alike name x (Some k) = writes_alike name x (Some k)

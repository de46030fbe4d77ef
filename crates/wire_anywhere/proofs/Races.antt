-- The races of a get-now, with their pairs.
use Rattle.std.proofs.Common.{◌≡◌, ◌∙◌, ap, sym, subst, ℕ, ◌<◌, List, [], ◌∷◌, ◌++◌, Some, ◌⊎◌, inl, inr, arith}
use Rattle.std.proofs.lemmas.Option.{same_Some}
use Rattle.wire_runs.specs.Plan.{Plan, Event, Kind, Commit, Arrive, Get, GetNow, kind, event_count, process_count}
use Rattle.wire_runs.specs.Order.{Stores, IsArrival}
use Rattle.wire_runs.specs.EventLists.{IsLower}
use Rattle.wire_runs.specs.Ends.{call_of, first_event}
use Rattle.wire_runs.specs.Races.{IsUnordered, IsNearRace, IsPutOnce, GetBringsAway}
use Rattle.wire_runs.specs.Findings.{Finding, KeyRace}
use Rattle.wire_runs.specs.FindingsAnywhere.{PlacementFinding, OnPair, IsPair, IsKeyRaceOn}
use Rattle.wire_runs.proofs.Basics.{event_within, process_within, stores_commit}
use Rattle.wire_runs.proofs.EventLists.{one_lower, lower_one_way}
use Rattle.wire_plan.proofs.KeyFacts.{stores_once}
use Rattle.wire_types.specs.declared.CallAt.{CallAt}
use Rattle.wire_findings.specs.Findings.{shown}
use Rattle.wire_fates.proofs.First.{first_of_call}
use Rattle.wire_races.specs.KeyRaces.{IsRaceOf, IsOpenRead}
use Rattle.wire_anywhere.specs.declared.placed.PlacedFinding.{PlacedFinding}
use Rattle.wire_anywhere.specs.declared.placed.Pair.{Pair}
use Rattle.wire_anywhere.specs.Anywhere.{placed_shown}
use Rattle.wire_anywhere.specs.Adding.{AddsPlacementFindings}
use Rattle.wire_anywhere.specs.Races.{IsSource, IsRaceWith, IsShownBy, IsNearBy, IsFarBy}
use Rattle.wire_anywhere.proofs.Growing.{adds_none, adds_one, adds_same, adds_both}

-- what may race with a get-now
pub commit_source : (plan : Plan) (x : Event) (key : ℕ) → Stores plan x key → IsSource plan x
commit_source plan x key s = record { what = Commit; is = stores_commit plan x key s; no_leave = λ members h. cc; no_get_now = λ owner other h. cc }

pub arrival_source : (plan : Plan) (x : Event) (members : List ℕ) (j : ℕ) → IsArrival plan members j x → IsSource plan x
arrival_source plan x members j a = record { what = Arrive members a.collect; is = a.is; no_leave = λ others h. cc; no_get_now = λ owner key h. cc }

pub get_source : (plan : Plan) (p key : ℕ) (z : Event) → GetBringsAway plan p key z → IsSource plan z
get_source plan p key z b = record { what = Get p key; is = b.is; no_leave = λ members h. cc; no_get_now = λ owner other h. cc }

module _ (plan : Plan) (x y : Event) (owner key : ℕ) (s : IsSource plan x) (o : IsOpenRead plan y owner key) where
  pub source_there : x.at < event_count plan x.proc
  source_there = event_within plan x.proc x.at s.what s.is

  pub get_there : y.at < event_count plan y.proc
  get_there = event_within plan y.proc y.at (GetNow owner key) o.is

  source_stands : first_event plan (call_of plan x) ≡ x
  source_stands = first_of_call plan x s.what s.is s.no_leave

  get_stands : first_event plan (call_of plan y) ≡ y
  get_stands = first_of_call plan y (GetNow owner key) o.is (λ members e. cc)

  differ : x ≡ y → ⊥
  differ e = s.no_get_now owner key (same_Some _ _ (sym s.is ∙ ap (kind plan) e ∙ o.is))

  shown_pair : (v w : Event) (a b : CallAt) → a ≡ call_of plan v → b ≡ call_of plan w → first_event plan (call_of plan v) ≡ v → first_event plan (call_of plan w) ≡ w →
      KeyRace (first_event plan a) (first_event plan b) owner key ≡ KeyRace v w owner key
  shown_pair v w a b first second v_stands w_stands =
      ap (λ u. KeyRace u (first_event plan b) owner key) (ap (first_event plan) first ∙ v_stands)
      ∙ ap (λ u. KeyRace v u owner key) (ap (first_event plan) second ∙ w_stands)

  -- how the race is shown
  pub shown_low : (a b : CallAt) → a ≡ call_of plan x → b ≡ call_of plan y → IsLower x y → IsRaceOf x y owner key (KeyRace (first_event plan a) (first_event plan b) owner key)
  shown_low a b first second low = inl (low, shown_pair x y a b first second source_stands get_stands)

  pub shown_high : (a b : CallAt) → a ≡ call_of plan x → b ≡ call_of plan y → (IsLower x y → ⊥) → IsRaceOf x y owner key (KeyRace (first_event plan b) (first_event plan a) owner key)
  shown_high a b first second not_low = elim (one_lower x y differ) [
    | inl low ↦ absurd (not_low low)
    | inr high ↦ inr (high, shown_pair y x b a second first get_stands source_stands)
  ]

-- two events are one race at most
one_race : (x y : Event) (owner key : ℕ) (f g : Finding) → IsRaceOf x y owner key f → IsRaceOf x y owner key g → g ≡ f
one_race x y owner key f g (inl a) (inl b) = b.1 ∙ sym a.1
one_race x y owner key f g (inl a) (inr b) = absurd (lower_one_way x y a.0 b.0)
one_race x y owner key f g (inr a) (inl b) = absurd (lower_one_way x y b.0 a.0)
one_race x y owner key f g (inr a) (inr b) = b.1 ∙ sym a.1

-- two numbers are one pair at most
one_pair_of : (a b c d p q : ℕ) → IsPair a b p q → IsPair c d p q → (c ≡ a) × (d ≡ b)
one_pair_of a b c d p q (low, inl e) (low', inl f) = (f.0 ∙ sym e.0, f.1 ∙ sym e.1)
one_pair_of a b c d p q (low, inr e) (low', inr f) = (f.0 ∙ sym e.0, f.1 ∙ sym e.1)
one_pair_of a b c d p q (low, inl e) (low', inr f) = absurd (let e0 = e.0 in let e1 = e.1 in let f0 = f.0 in let f1 = f.1 in omega (arith, low, low', e0, e1, f0, f1))
one_pair_of a b c d p q (low, inr e) (low', inl f) = absurd (let e0 = e.0 in let e1 = e.1 in let f0 = f.0 in let f1 = f.1 in omega (arith, low, low', e0, e1, f0, f1))

-- a race is added, with its pair
pub adds_race : (plan : Plan) (old new : List PlacedFinding) (x y : Event) (owner key other : ℕ) (t : PlacedFinding) (pair : Pair) → new ≡ old ++ t ∷ [] → t.on ≡ Some pair →
    IsRaceOf x y owner key (shown plan t.finding) → IsPair pair.lower.number pair.higher.number y.proc other → AddsPlacementFindings plan old new (IsRaceWith x y owner key other)
adds_race plan old new x y owner key other t pair is on race its =
    let told : placed_shown plan t ≡ OnPair (shown plan t.finding) pair.lower.number pair.higher.number = ap (λ o. placed_shown plan (record { finding = t.finding; on = o })) on in
    adds_one plan old new t (IsRaceWith x y owner key other) is
    (record { finding = shown plan t.finding; lower = pair.lower.number; higher = pair.higher.number; pair = its; race = race; is = told })
    (λ f r.
    let same = one_race x y owner key (shown plan t.finding) r.finding race r.race in
    let ends = one_pair_of pair.lower.number pair.higher.number r.lower r.higher y.proc other its r.pair in
    r.is ∙ (λ i. OnPair (same i) (ends.0 i) (ends.1 i)) ∙ sym told)

-- the get-now of a race on some placing
pub race_open : (plan : Plan) (x y : Event) (owner key a b : ℕ) → IsKeyRaceOn plan x y owner key a b → IsOpenRead plan y owner key
race_open plan x y owner key a b (inl r) = record {
  is = r.1.is ∙ ap (λ p. Some (GetNow p key)) r.0;
  other = λ e. r.1.another (e ∙ sym r.0);
  once = subst (λ p. IsPutOnce plan p key) r.0 r.1.once;
  get_live = r.1.unordered.live_y;
}
race_open plan x y owner key a b (inr r) = record { is = r.1.far.is; other = r.1.far.another; once = r.1.far.once; get_live = r.1.far.get_live }

abbrev owner_in : Kind → ℕ
owner_in (GetNow owner key) = owner
owner_in _ = 0

abbrev key_in : Kind → ℕ
key_in (GetNow owner key) = key
key_in _ = 0

turned : (a b p q : ℕ) → IsPair a b p q → IsPair a b q p
turned a b p q (low, inl e) = (low, inr e)
turned a b p q (low, inr e) = (low, inl e)

module _ (plan : Plan) (get : Event) (owner key : ℕ) where
  abbrev near_shown : (f : PlacementFinding) → IsNearBy plan get owner key f → IsShownBy plan get f
  near_shown f t = record {
    source = t.commit;
    owner = owner;
    key = key;
    lower = t.is.lower;
    higher = t.is.higher;
    finding = t.is.finding;
    on_pair = inl (t.proc, t.near, subst (λ p. IsPair t.is.lower t.is.higher p get.proc) (sym t.proc) (turned t.is.lower t.is.higher get.proc owner t.is.pair));
    race = t.is.race;
    is = t.is.is;
  }

  abbrev far_shown : (f : PlacementFinding) → IsFarBy plan get owner key f → IsShownBy plan get f
  far_shown f t = record {
    source = t.source;
    owner = owner;
    key = key;
    lower = t.is.lower;
    higher = t.is.higher;
    finding = t.is.finding;
    on_pair = inr (t.m, t.far, t.is.pair);
    race = t.is.race;
    is = t.is.is;
  }

  either_shown : kind plan get ≡ Some (GetNow owner key) → (f : PlacementFinding) → IsShownBy plan get f → IsNearBy plan get owner key f ⊎ IsFarBy plan get owner key f
  either_shown asks f t =
      let same = same_Some _ _ (sym (race_open plan t.source get t.owner t.key t.lower t.higher t.on_pair).is ∙ asks) in
      let o = ap owner_in same in
      let k = ap key_in same in
      go (subst (λ c. IsKeyRaceOn plan t.source get owner c t.lower t.higher) k (subst (λ p. IsKeyRaceOn plan t.source get p t.key t.lower t.higher) o t.on_pair))
      (subst (λ c. IsRaceOf t.source get owner c t.finding) k (subst (λ p. IsRaceOf t.source get p t.key t.finding) o t.race)) t.is
    where
      go : {x : Event} {a b : ℕ} {g : Finding} → IsKeyRaceOn plan x get owner key a b → IsRaceOf x get owner key g → f ≡ OnPair g a b → IsNearBy plan get owner key f ⊎ IsFarBy plan get owner key f
      go {x} {a} {b} {g} (inl r) race is = inl (record {
        commit = x;
        proc = r.0;
        near = r.1;
        is = record { finding = g; lower = a; higher = b; pair = subst (IsPair a b get.proc) r.0 (turned a b x.proc get.proc r.2); race = race; is = is };
      })
      go {x} {a} {b} {g} (inr r) race is = inr (record { source = x; m = r.0; far = r.1; is = record { finding = g; lower = a; higher = b; pair = r.2; race = race; is = is } })

  -- the near race and the far races are all
  pub adds_shown : (old mid new : List PlacedFinding) → kind plan get ≡ Some (GetNow owner key) → AddsPlacementFindings plan old mid (IsNearBy plan get owner key) → AddsPlacementFindings plan mid new (IsFarBy plan get owner key) →
      AddsPlacementFindings plan old new (IsShownBy plan get)
  adds_shown old mid new asks =
      adds_both plan old mid new (IsNearBy plan get owner key) (IsFarBy plan get owner key) (IsShownBy plan get) near_shown far_shown (either_shown asks)

  -- a get-now that isn't open has none
  pub not_open : (found : List PlacedFinding) → kind plan get ≡ Some (GetNow owner key) → (IsOpenRead plan get owner key → ⊥) → AddsPlacementFindings plan found found (IsShownBy plan get)
  not_open found asks never = adds_none plan found (IsShownBy plan get) (λ f t. elim (either_shown asks f t) [
    | inl near ↦ (let s = near_shown f near in never (race_open plan s.source get owner key s.lower s.higher s.on_pair))
    | inr far ↦ (let s = far_shown f far in never (race_open plan s.source get owner key s.lower s.higher s.on_pair))
  ])

  -- the near race
  near_race : IsOpenRead plan get owner key → (commit : Event) → commit.proc ≡ owner → Stores plan commit key → IsUnordered plan commit get → IsNearRace plan commit get key
  near_race o commit p s u = record {
    is = o.is ∙ ap (λ q. Some (GetNow q key)) (sym p);
    another = λ e. o.other (e ∙ p);
    once = subst (λ q. IsPutOnce plan q key) (sym p) o.once;
    stores = s;
    unordered = u;
  }

  pub adds_near : (old new : List PlacedFinding) (commit : Event) → IsOpenRead plan get owner key → commit.proc ≡ owner → Stores plan commit key → IsUnordered plan commit get →
      AddsPlacementFindings plan old new (IsRaceWith commit get owner key owner) → AddsPlacementFindings plan old new (IsNearBy plan get owner key)
  adds_near old new commit o p s u =
      adds_same plan old new (IsRaceWith commit get owner key owner) (IsNearBy plan get owner key)
      (λ f i. record { commit = commit; proc = p; near = near_race o commit p s u; is = i })
      (λ f t. subst (λ x. IsRaceWith x get owner key owner f) (stores_once plan t.commit commit key (t.proc ∙ sym p) t.near.stores s) t.is)

  pub ordered_commit : (found : List PlacedFinding) (commit : Event) → commit.proc ≡ owner → Stores plan commit key → (IsUnordered plan commit get → ⊥) → AddsPlacementFindings plan found found (IsNearBy plan get owner key)
  ordered_commit found commit p s never = adds_none plan found (IsNearBy plan get owner key)
      (λ f t. never (subst (λ x. IsUnordered plan x get) (stores_once plan t.commit commit key (t.proc ∙ sym p) t.near.stores s) t.near.unordered))

  pub no_commit : (found : List PlacedFinding) → ((x : Event) → x.proc ≡ owner → Stores plan x key → ⊥) → AddsPlacementFindings plan found found (IsNearBy plan get owner key)
  no_commit found never = adds_none plan found (IsNearBy plan get owner key) (λ f t. never t.commit t.proc t.near.stores)

-- an event that is no get-now has none
pub no_get_now : (plan : Plan) (get : Event) (found : List PlacedFinding) → ((owner key : ℕ) → kind plan get ≡ Some (GetNow owner key) → ⊥) → AddsPlacementFindings plan found found (IsShownBy plan get)
no_get_now plan get found never =
    adds_none plan found (IsShownBy plan get) (λ f t. never t.owner t.key (race_open plan t.source get t.owner t.key t.lower t.higher t.on_pair).is)

-- the get-nows of races stand among the events
pub shown_within : (plan : Plan) (y : Event) (f : PlacementFinding) → IsShownBy plan y f → y.at < event_count plan y.proc
shown_within plan y f t = event_within plan y.proc y.at _ (race_open plan t.source y t.owner t.key t.lower t.higher t.on_pair).is

pub shown_below : (plan : Plan) (y : Event) (f : PlacementFinding) → IsShownBy plan y f → y.proc < process_count plan
shown_below plan y f t = process_within plan y.proc y.at _ (race_open plan t.source y t.owner t.key t.lower t.higher t.on_pair).is

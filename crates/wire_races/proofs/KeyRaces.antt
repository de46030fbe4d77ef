-- The races of a get that is answered at once.
use Rattle.std.proofs.Common.{◌≡◌, ◌∙◌, ap, sym, subst, ℕ, ◌<◌, List, length, true, Some, arith, inl, inr, eq-eqb}
use Rattle.std.proofs.lemmas.Bool.{true≢false, cases_lt}
use Rattle.std.proofs.lemmas.Option.{same_Some, slice_get_past}
use Rattle.wire_runs.specs.Plan.{Plan, Event, Kind, Commit, Arrive, Leave, Get, GetNow, kind, kinds, event_count, process_count, process_kinds, node_of, same_node}
use Rattle.wire_runs.specs.Puts.{put_count}
use Rattle.wire_types.specs.declared.CallAt.{CallAt}
use Rattle.wire_runs.specs.Order.{Stores, IsArrival}
use Rattle.wire_runs.specs.EventLists.{IsLower}
use Rattle.wire_runs.specs.Ends.{call_of, first_event}
use Rattle.wire_runs.specs.Races.{IsUnordered, IsNodeRace, IsPutOnce, Delivery, ByFence, ByGet, IsOf, Brings}
use Rattle.wire_runs.specs.Findings.{Finding, KeyRace, IsFound, IsKeyRace}
use Rattle.wire_runs.proofs.Basics.{event_within, stores_commit}
use Rattle.wire_runs.proofs.EventLists.{one_lower, lower_one_way}
use Rattle.wire_plan.proofs.KeyFacts.{stores_once}
use Rattle.wire_findings.specs.declared.finding.Finding.{Finding as Told}
use Rattle.wire_findings.specs.Collected.{AreFound, IsFindingAdded}
use Rattle.wire_races.specs.Adding.{AddsFindings}
use Rattle.wire_races.specs.KeyRaces.{IsRaceOf, IsKeyRaceBy, IsOpenRead}
use Rattle.wire_fates.proofs.First.{first_of_call}
use Rattle.wire_races.proofs.Growing.{adds_none, adds_one, adds_same}

-- an event that is a commit, an arrival, or a get that waits
record IsSource (plan : Plan) (x : Event) : Type 0 where
  what : Kind
  is : kind plan x ≡ Some what
  no_leave : (members : List ℕ) → what ≡ Leave members → ⊥
  no_get : (owner key : ℕ) → what ≡ GetNow owner key → ⊥

commit_source : (plan : Plan) (x : Event) → kind plan x ≡ Some Commit → IsSource plan x
commit_source plan x e = record { what = Commit; is = e; no_leave = λ members h. cc; no_get = λ owner key h. cc }

arrival_source : (plan : Plan) (x : Event) (members : List ℕ) (j : ℕ) → IsArrival plan members j x → IsSource plan x
arrival_source plan x members j a = record { what = Arrive members a.collect; is = a.is; no_leave = λ others h. cc; no_get = λ owner key h. cc }

delivery_source : (plan : Plan) (p key node : ℕ) (d : Delivery) (x : Event) → Brings plan p key node d → IsOf plan d x → IsSource plan x
delivery_source plan p key node (ByFence members j) x b a = arrival_source plan x members j a
delivery_source plan p key node (ByGet get) x b e = record { what = Get p key; is = ap (kind plan) e ∙ b.away.is; no_leave = λ members h. cc; no_get = λ owner other h. cc }

source_is : (plan : Plan) (x y : Event) (owner key : ℕ) → IsKeyRace plan x y owner key → IsSource plan x
source_is plan x y owner key (inl node) = commit_source plan x (stores_commit plan x key node.1.near.stores)
source_is plan x y owner key (inr d) = delivery_source plan owner key (node_of plan y.proc) d.delivery x d.delivers.brings_it d.of_it

-- the get of a race
pub race_open : (plan : Plan) (x y : Event) (owner key : ℕ) → IsKeyRace plan x y owner key → IsOpenRead plan y owner key
race_open plan x y owner key (inl node) = record {
  is = node.1.near.is ∙ ap (λ p. Some (GetNow p key)) node.0;
  other = λ e. node.1.near.another (e ∙ sym node.0);
  once = subst (λ p. IsPutOnce plan p key) node.0 node.1.near.once;
  get_live = node.1.near.unordered.live_y;
}
race_open plan x y owner key (inr d) = record {
  is = d.is;
  other = λ e. true≢false (sym (eq-eqb (node_of plan owner) (node_of plan y.proc) (ap (node_of plan) (sym e))) ∙ d.other);
  once = d.once;
  get_live = d.get_live;
}

no_end : (owner key : ℕ) (members : List ℕ) → GetNow owner key ≡ Leave members → ⊥
no_end owner key members e = cc

-- both of its events are whole calls, or the first half of a fence
pub get_stands : (plan : Plan) (x y : Event) (owner key : ℕ) → IsKeyRace plan x y owner key → first_event plan (call_of plan y) ≡ y
get_stands plan x y owner key r = first_of_call plan y (GetNow owner key) (race_open plan x y owner key r).is (no_end owner key)

pub source_stands : (plan : Plan) (x y : Event) (owner key : ℕ) → IsKeyRace plan x y owner key → first_event plan (call_of plan x) ≡ x
source_stands plan x y owner key r = let s = source_is plan x y owner key r in first_of_call plan x s.what s.is s.no_leave

pub get_there : (plan : Plan) (x y : Event) (owner key : ℕ) → IsKeyRace plan x y owner key → y.at < event_count plan y.proc
get_there plan x y owner key r = event_within plan y.proc y.at (GetNow owner key) (race_open plan x y owner key r).is

pub source_there : (plan : Plan) (x y : Event) (owner key : ℕ) → IsKeyRace plan x y owner key → x.at < event_count plan x.proc
source_there plan x y owner key r = let s = source_is plan x y owner key r in event_within plan x.proc x.at s.what s.is

pub differ : (plan : Plan) (x y : Event) (owner key : ℕ) → IsKeyRace plan x y owner key → x ≡ y → ⊥
differ plan x y owner key r e =
    let s = source_is plan x y owner key r in
    s.no_get owner key (same_Some _ _ (sym s.is ∙ ap (kind plan) e ∙ (race_open plan x y owner key r).is))

-- of two places one is lower
lower_other_way : (x y : Event) → (x ≡ y → ⊥) → (IsLower x y → ⊥) → IsLower y x
lower_other_way x y ne not_low = elim (one_lower x y ne) [ inl low ↦ absurd (not_low low) | inr high ↦ high ]

shown_pair : (plan : Plan) (x y : Event) (a b : CallAt) (owner key : ℕ) → a ≡ call_of plan x → b ≡ call_of plan y → first_event plan (call_of plan x) ≡ x → first_event plan (call_of plan y) ≡ y →
    KeyRace (first_event plan a) (first_event plan b) owner key ≡ KeyRace x y owner key
shown_pair plan x y a b owner key first second x_stands y_stands =
    ap (λ v. KeyRace v (first_event plan b) owner key) (ap (first_event plan) first ∙ x_stands)
    ∙ ap (λ v. KeyRace x v owner key) (ap (first_event plan) second ∙ y_stands)

-- how the race is shown
pub shown_low : (plan : Plan) (x y : Event) (a b : CallAt) (owner key : ℕ) → IsKeyRace plan x y owner key → a ≡ call_of plan x → b ≡ call_of plan y → IsLower x y →
    IsRaceOf x y owner key (KeyRace (first_event plan a) (first_event plan b) owner key)
shown_low plan x y a b owner key r first second low = inl (low, shown_pair plan x y a b owner key first second (source_stands plan x y owner key r) (get_stands plan x y owner key r))

pub shown_high : (plan : Plan) (x y : Event) (a b : CallAt) (owner key : ℕ) → IsKeyRace plan x y owner key → a ≡ call_of plan x → b ≡ call_of plan y → (IsLower x y → ⊥) →
    IsRaceOf x y owner key (KeyRace (first_event plan b) (first_event plan a) owner key)
shown_high plan x y a b owner key r first second not_low =
    inr (lower_other_way x y (differ plan x y owner key r) not_low, shown_pair plan y x b a owner key second first (get_stands plan x y owner key r) (source_stands plan x y owner key r))

-- two events are one race at most
one_race : (x y : Event) (owner key : ℕ) (f g : Finding) → IsRaceOf x y owner key f → IsRaceOf x y owner key g → g ≡ f
one_race x y owner key f g (inl a) (inl b) = b.1 ∙ sym a.1
one_race x y owner key f g (inl a) (inr b) = absurd (lower_one_way x y a.0 b.0)
one_race x y owner key f g (inr a) (inl b) = absurd (lower_one_way x y b.0 a.0)
one_race x y owner key f g (inr a) (inr b) = b.1 ∙ sym a.1

pub race_found : (plan : Plan) (x y : Event) (owner key : ℕ) (f : Finding) → IsKeyRace plan x y owner key → IsRaceOf x y owner key f → IsFound plan f
race_found plan x y owner key f r (inl a) = subst (IsFound plan) (sym a.1) (a.0, inl r)
race_found plan x y owner key f r (inr a) = subst (IsFound plan) (sym a.1) (a.0, inr r)

pub adds_race : (plan : Plan) (old new : List Told) (x y : Event) (owner key : ℕ) (g : Finding) → IsKeyRace plan x y owner key → IsRaceOf x y owner key g → AreFound plan old → IsFindingAdded plan old new g →
    AddsFindings plan old new (IsRaceOf x y owner key)
adds_race plan old new x y owner key g r is are told =
    adds_one plan old new (IsRaceOf x y owner key) g are (race_found plan x y owner key g r is) told is (λ f h. one_race x y owner key g f is h)

abbrev owner_in : Kind → ℕ
owner_in (GetNow owner key) = owner
owner_in _ = 0

abbrev key_in : Kind → ℕ
key_in (GetNow owner key) = key
key_in _ = 0

-- a race of the get, by the owner and the key for which it asks
pub record IsRaceWith (plan : Plan) (get : Event) (owner key : ℕ) (f : Finding) : Type 0 where
  pub source : Event
  pub race : IsKeyRace plan source get owner key
  pub is : IsRaceOf source get owner key f

pub race_with : (plan : Plan) (get : Event) (owner key : ℕ) (f : Finding) → kind plan get ≡ Some (GetNow owner key) → IsKeyRaceBy plan get f → IsRaceWith plan get owner key f
race_with plan get owner key f asks t =
    let same = same_Some _ _ (sym (race_open plan t.source get t.owner t.key t.race).is ∙ asks) in
    subst (λ k. IsRaceWith plan get owner k f) (ap key_in same) (
    subst (λ p. IsRaceWith plan get p t.key f) (ap owner_in same) (record { source = t.source; race = t.race; is = t.is }))

-- a process that puts a key is one of the plan's
pub owner_within : (plan : Plan) (p key : ℕ) → IsPutOnce plan p key → p < process_count plan
unfolding event_count kinds
owner_within plan p key once = elim (cases_lt p (process_count plan)) [
  | inl lt ↦ lt
  | inr ge ↦ (
      let none : event_count plan p ≡ 0 = ap (λ o. length (process_kinds o)) (slice_get_past plan.processes p ge) in
      let never : put_count plan p key (event_count plan p) ≡ 0 = ap (put_count plan p key) none in
      absurd (omega (arith, never, once)))
]

-- on the owner's node
module _ (plan : Plan) (get : Event) (owner key : ℕ) (o : IsOpenRead plan get owner key) (node : same_node plan owner get.proc ≡ true) where
  record IsNodeRaceWith (f : Finding) : Type 0 where
    source : Event
    proc : source.proc ≡ owner
    race : IsNodeRace plan source get key
    is : IsRaceOf source get owner key f

  only_node : (f : Finding) → IsKeyRaceBy plan get f → IsNodeRaceWith f
  only_node f t = let w = race_with plan get owner key f o.is t in go w.race w.is
    where
      go : {x : Event} → IsKeyRace plan x get owner key → IsRaceOf x get owner key f → IsNodeRaceWith f
      go {x} (inl n) is = record { source = x; proc = n.0; race = n.1; is = is }
      go {x} (inr d) is = absurd (true≢false (sym node ∙ d.other))

  pub node_race : (commit : Event) → commit.proc ≡ owner → Stores plan commit key → IsUnordered plan commit get → IsKeyRace plan commit get owner key
  node_race commit p s u = inl (
    p,
    record {
      near = record {
        is = o.is ∙ ap (λ q. Some (GetNow q key)) (sym p);
        another = λ e. o.other (e ∙ p);
        once = subst (λ q. IsPutOnce plan q key) (sym p) o.once;
        stores = s;
        unordered = u;
      };
      node = subst (λ q. same_node plan q get.proc ≡ true) (sym p) node;
    },
  )

  pub adds_node : (old new : List Told) (commit : Event) → commit.proc ≡ owner → Stores plan commit key → IsUnordered plan commit get → AddsFindings plan old new (IsRaceOf commit get owner key) →
      AddsFindings plan old new (IsKeyRaceBy plan get)
  adds_node old new commit p s u h =
      adds_same plan old new (IsRaceOf commit get owner key) (IsKeyRaceBy plan get)
      (λ f i. record { source = commit; owner = owner; key = key; race = node_race commit p s u; is = i })
      (λ f t. let n = only_node f t in subst (λ x. IsRaceOf x get owner key f) (stores_once plan n.source commit key (n.proc ∙ sym p) n.race.near.stores s) n.is)
      h

  pub ordered_commit : (found : List Told) (commit : Event) → commit.proc ≡ owner → Stores plan commit key → (IsUnordered plan commit get → ⊥) → AreFound plan found →
      AddsFindings plan found found (IsKeyRaceBy plan get)
  ordered_commit found commit p s never are =
      adds_none plan found (IsKeyRaceBy plan get) are (λ f t.
      let n = only_node f t in
      never (subst (λ x. IsUnordered plan x get) (stores_once plan n.source commit key (n.proc ∙ sym p) n.race.near.stores s) n.race.near.unordered))

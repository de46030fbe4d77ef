-- The races of a get with the deliveries of its key from another node.
use Rattle.std.proofs.Common.{◌≡◌, ◌∙◌, ap, sym, refl, subst, ℕ, suc, ◌<◌, ◌≤◌, List, true, false, arith, ◌⊎◌, inl, inr}
use Rattle.std.proofs.lemmas.Bool.{true≢false, cases_lt, cases_eq}
use Rattle.wire_runs.specs.Plan.{Plan, Event, event_count, process_count, node_of, same_node}
use Rattle.wire_runs.specs.Order.{IsArrival, Live, Before}
use Rattle.wire_runs.specs.Races.{Delivery, ByFence, ByGet, IsOf, Delivers, GetDelivers, ComesSurely}
use Rattle.wire_runs.specs.Findings.{Finding, IsFound, IsKeyRace}
use Rattle.wire_plan.specs.Index.{IsDelivering}
use Rattle.wire_runs.proofs.Basics.{process_within}
use Rattle.wire_findings.specs.declared.finding.Finding.{Finding as Told}
use Rattle.wire_findings.specs.Collected.{AreFound}
use Rattle.wire_races.specs.FindingKinds.{IsOfKey}
use Rattle.wire_races.specs.Adding.{AddsFindings, OfKind}
use Rattle.wire_races.specs.GetRaces.{MayRace, AreRacesByGets}
use Rattle.wire_races.specs.KeyRaces.{IsRaceOf, IsKeyRaceBy, IsLateBy, AreLateBelow, IsOpenRead, IsUnsure}
use Rattle.wire_fates.specs.Deliveries.{MayBeLate, IsLate}
use Rattle.wire_races.proofs.Growing.{adds_none, adds_same, adds_both}
use Rattle.wire_runs.proofs.Histories.{joined}
use Rattle.wire_fates.proofs.Arrivals.{arrival_of, late_once}
use Rattle.wire_fates.proofs.Sooner.{sooner_live, sooner_before}
use Rattle.wire_races.proofs.KeyRaces.{race_with, race_open, race_found, get_there}
use Rattle.wire_plan.proofs.Delivering.{here}
use Rattle.wire_fates.proofs.Surely.{delivering_within, get_sure}

pub past_all : (plan : Plan) (p key node from count : ℕ) → count ≡ event_count plan p → count ≤ from → (k : ℕ) → from ≤ k → IsDelivering plan p key node k → ⊥
past_all plan p key node from count is end k ge d = let lt = delivering_within plan p key node k d in omega (arith, lt, is, end, ge)

-- where a delivery comes surely before the get, it races with nothing
pub sure_none : (plan : Plan) (get : Event) (owner key : ℕ) (found : List Told) → IsOpenRead plan get owner key → same_node plan owner get.proc ≡ false →
    ComesSurely plan owner key (node_of plan get.proc) get → AreFound plan found → AddsFindings plan found found (IsKeyRaceBy plan get)
sure_none plan get owner key found opened other sure are = adds_none plan found (IsKeyRaceBy plan get) are (λ f t. never (race_with plan get owner key f opened.is t).race)
  where
    never : {x : Event} → IsKeyRace plan x get owner key → ⊥
    never (inl r) = true≢false (sym (subst (λ q. same_node plan q get.proc ≡ true) r.0 r.1.node) ∙ other)
    never (inr r) = r.not_sure sure

module _ (plan : Plan) (get : Event) (owner key : ℕ) (n : IsUnsure plan get owner key) where
  -- a late arrival is a race
  pub late_race : (at : ℕ) (x : Event) → IsDelivering plan owner key (node_of plan get.proc) at → IsLate plan get (here owner at) x → IsKeyRace plan x get owner key
  late_race at x d l =
      let there : (z : Event) → IsArrival plan d.members d.j z → IsArrival plan l.may.fence.members l.may.fence.j z =
      λ z a. arrival_of plan (here owner at) z d.members l.may.fence.members d.j l.may.fence.j d.arrival l.may.fence.arrival a in
      inr (record {
        is = n.opened.is;
        other = n.other;
        once = n.opened.once;
        get_live = n.opened.get_live;
        not_sure = n.not_sure;
        delivery = ByFence d.members d.j;
        delivers = record { brings_it = d.brings; all_live = λ z a. l.may.all_live z (there z a) };
        before_none = λ z a. l.may.before_none z (there z a);
        of_it = arrival_of plan (here owner at) x l.may.fence.members d.members l.may.fence.j d.j l.may.fence.arrival d.arrival l.of_it;
        not_before = l.not_before;
        first = λ z a late. l.first z (there z a) late;
      })

  -- and so is a get that brings the key and may come later
  pub get_race : (z : Event) → GetDelivers plan owner key (node_of plan get.proc) z → MayRace plan z get → IsKeyRace plan z get owner key
  get_race z d may = inr (record {
    is = n.opened.is;
    other = n.other;
    once = n.opened.once;
    get_live = n.opened.get_live;
    not_sure = n.not_sure;
    delivery = ByGet z;
    delivers = record { brings_it = d; all_live = λ v e. subst (Live plan) (sym e) may.0 };
    before_none = λ v e b. may.1 (subst (Before plan get) e b);
    of_it = refl;
    not_before = λ b. n.not_sure (get_sure plan get owner key (node_of plan get.proc) (z, d, b));
    first = λ v e late. (let same = ap (λ (x : Event). x.proc) e in omega (arith, same));
  })

  abbrev IsEither : Finding → Type 0
  IsEither f = ((at : ℕ) × IsLateBy plan get owner key (node_of plan get.proc) at f) ⊎ AreRacesByGets plan get owner key (node_of plan get.proc) f

  -- each race is a late arrival, or such a get
  race_late : (f : Finding) → IsKeyRaceBy plan get f → IsEither f
  race_late f t = let w = race_with plan get owner key f n.opened.is t in go w.source w.race w.is
    where
      delivered : (x : Event) → IsRaceOf x get owner key f → (d : Delivery) → Delivers plan owner key (node_of plan get.proc) d → ((z : Event) → IsOf plan d z → ¬ (Before plan get z)) →
          IsOf plan d x → ¬ (Before plan x get) → ((z : Event) → IsOf plan d z → ¬ (Before plan z get) → x.proc ≤ z.proc) → IsEither f
      delivered x is (ByFence members j) d before_none of_it not_before first = inl (
        d.brings_it.away.at,
        record {
          source = x;
          delivers = record { members = members; j = j; arrival = d.brings_it.away.arrival; brings = d.brings_it };
          late = record {
            may = record { fence = record { members = members; j = j; arrival = d.brings_it.away.arrival }; all_live = d.all_live; before_none = before_none };
            of_it = of_it;
            not_before = not_before;
            first = first;
          };
          is = is;
        },
      )
      delivered x is (ByGet other) d before_none of_it not_before first =
          inr (other, record { delivers = d.brings_it; may = (d.all_live other refl, before_none other refl); is = subst (λ z. IsRaceOf z get owner key f) of_it is })

      go : (x : Event) → IsKeyRace plan x get owner key → IsRaceOf x get owner key f → IsEither f
      go x (inl r) is = absurd (true≢false (sym (subst (λ q. same_node plan q get.proc ≡ true) r.0 r.1.node) ∙ n.other))
      go x (inr r) is = delivered x is r.delivery r.delivers r.before_none r.of_it r.not_before r.first

  -- the late arrivals and these gets are all races of the get
  pub adds_late : (old mid new : List Told) → AddsFindings plan old mid (AreLateBelow plan get owner key (node_of plan get.proc) (event_count plan owner)) →
      AddsFindings plan mid new (AreRacesByGets plan get owner key (node_of plan get.proc)) → AddsFindings plan old new (IsKeyRaceBy plan get)
  adds_late old mid new first second =
      adds_both plan old mid new (AreLateBelow plan get owner key (node_of plan get.proc) (event_count plan owner)) (AreRacesByGets plan get owner key (node_of plan get.proc)) (IsKeyRaceBy plan get)
      (λ f t. record { source = t.2.source; owner = owner; key = key; race = late_race t.0 t.2.source t.2.delivers t.2.late; is = t.2.is })
      (λ f t. record { source = t.0; owner = owner; key = key; race = get_race t.0 t.1.delivers t.1.may; is = t.1.is })
      (λ f t. elim (race_late f t) [ inl w ↦ inl (w.0, delivering_within plan owner key _ w.0 w.1.delivers, w.1) | inr w ↦ inr w ])
      first second

module _ (plan : Plan) (get : Event) (owner key node : ℕ) where
  -- one arrival is looked at
  pub one_late : (old new : List Told) (at : ℕ) (x : Event) → IsDelivering plan owner key node at → IsLate plan get (here owner at) x → AddsFindings plan old new (IsRaceOf x get owner key) →
      AddsFindings plan old new (IsLateBy plan get owner key node at)
  one_late old new at x d l h =
      adds_same plan old new (IsRaceOf x get owner key) (IsLateBy plan get owner key node at)
      (λ f i. record { source = x; delivers = d; late = l; is = i })
      (λ f t. subst (λ z. IsRaceOf z get owner key f) (late_once plan get (here owner at) x t.source l t.late) t.is)
      h

  pub not_late : (found : List Told) (at : ℕ) → ((x : Event) → IsLate plan get (here owner at) x → ⊥) → AreFound plan found → AddsFindings plan found found (IsLateBy plan get owner key node at)
  not_late found at never are = adds_none plan found (IsLateBy plan get owner key node at) are (λ f t. never t.source t.late)

  pub late_more : (old mid new : List Told) (from at next : ℕ) → from ≤ at → next ≡ suc at → ((k : ℕ) → from ≤ k → k < at → IsDelivering plan owner key node k → ⊥) →
      AddsFindings plan old mid (AreLateBelow plan get owner key node from) → AddsFindings plan mid new (IsLateBy plan get owner key node at) → AddsFindings plan old new (AreLateBelow plan get owner key node next)
  late_more old mid new from at next le one others first second =
      adds_both plan old mid new (AreLateBelow plan get owner key node from) (IsLateBy plan get owner key node at) (AreLateBelow plan get owner key node next)
      (λ f t. let lt = t.1 in (t.0, omega (arith, lt, le, one), t.2))
      (λ f t. (at, omega (arith, one), t))
      (λ f t. elim (cases_lt t.0 from) [
        | inl lt ↦ inl (t.0, lt, t.2)
        | inr ge ↦ elim (cases_eq t.0 at) [
          | inl same ↦ inr (subst (λ k. IsLateBy plan get owner key node k f) same t.2)
          | inr other ↦ (let lt = t.1 in absurd (others t.0 ge (omega (arith, lt, one, other)) t.2.delivers))
        ]
      ])
      first second

  -- where a delivery can't be late, no later one is
  pub no_later : (from at : ℕ) → ((k : ℕ) → from ≤ k → k < at → IsDelivering plan owner key node k → ⊥) → IsDelivering plan owner key node at → (MayBeLate plan get (here owner at) → ⊥) → (k : ℕ) →
      from ≤ k → (f : Finding) → IsLateBy plan get owner key node k f → ⊥
  no_later from at others d never k ge f t = elim (cases_lt k at) [
    | inl lt ↦ others k ge lt t.delivers
    | inr le ↦ elim (cases_eq k at) [
      | inl same ↦ never (subst (λ n. MayBeLate plan get (here owner n)) same t.late.may)
      | inr other ↦ (
          let lt : at < k = omega (arith, le, other) in
          let later = t.late.may.all_live (here owner k) t.late.may.fence.arrival in
          never (record {
            fence = record { members = d.members; j = d.j; arrival = d.arrival };
            all_live = λ z h. sooner_live plan owner at k d.members d.j d.arrival lt later z h;
            before_none = λ z h b. t.late.may.before_none (here owner k) t.late.may.fence.arrival (joined b (sooner_before plan owner at k d.members d.j d.arrival lt later z h));
          }))
    ]
  ]

  pub late_done : (old new : List Told) (from count : ℕ) → count ≡ event_count plan owner → ((k : ℕ) → from ≤ k → (f : Finding) → IsLateBy plan get owner key node k f → ⊥) →
      AddsFindings plan old new (AreLateBelow plan get owner key node from) → AddsFindings plan old new (AreLateBelow plan get owner key node count)
  late_done old new from count is never h =
      adds_same plan old new (AreLateBelow plan get owner key node from) (AreLateBelow plan get owner key node count)
      (λ f t. let lt = delivering_within plan owner key node t.0 t.2.delivers in (t.0, omega (arith, lt, is), t.2))
      (λ f t. elim (cases_lt t.0 from) [ inl lt ↦ (t.0, lt, t.2) | inr ge ↦ absurd (never t.0 ge f t.2) ])
      h

  pub late_whole : (old new : List Told) (from count : ℕ) → count ≡ event_count plan owner → ((k : ℕ) → from ≤ k → IsDelivering plan owner key node k → ⊥) →
      AddsFindings plan old new (AreLateBelow plan get owner key node from) → AddsFindings plan old new (AreLateBelow plan get owner key node count)
  late_whole old new from count is later h =
      adds_same plan old new (AreLateBelow plan get owner key node from) (AreLateBelow plan get owner key node count)
      (λ f t. let lt = delivering_within plan owner key node t.0 t.2.delivers in (t.0, omega (arith, lt, is), t.2))
      (λ f t. elim (cases_lt t.0 from) [ inl lt ↦ (t.0, lt, t.2) | inr ge ↦ absurd (later t.0 ge t.2.delivers) ])
      h

-- races stand among the events
pub race_within : (plan : Plan) (y : Event) (f : Finding) → IsKeyRaceBy plan y f → y.at < event_count plan y.proc
race_within plan y f t = get_there plan t.source y t.owner t.key t.race

pub race_below : (plan : Plan) (y : Event) (f : Finding) → IsKeyRaceBy plan y f → y.proc < process_count plan
race_below plan y f t = process_within plan y.proc y.at _ (race_open plan t.source y t.owner t.key t.race).is

pub race_told : (plan : Plan) (y : Event) (f : Finding) → IsKeyRaceBy plan y f → OfKind plan IsOfKey f
race_told plan y f t = (of_kind t.source y t.owner t.key f t.is, race_found plan t.source y t.owner t.key f t.race t.is)
  where
    of_kind : (x y : Event) (p k : ℕ) (f : Finding) → IsRaceOf x y p k f → IsOfKey f
    of_kind x y p k f (inl a) = (x, y, p, k, a.1)
    of_kind x y p k f (inr a) = (y, x, p, k, a.1)

pub race_by : (plan : Plan) (f : Finding) → OfKind plan IsOfKey f → (y : Event) × IsKeyRaceBy plan y f
race_by plan f k =
    let x = k.0.0 in
    let y = k.0.1 in
    let found = subst (IsFound plan) k.0.4 k.1 in
    elim found.1 [
      | inl r ↦ (y, record { source = x; owner = k.0.2; key = k.0.3; race = r; is = inl (found.0, k.0.4) })
      | inr r ↦ (x, record { source = y; owner = k.0.2; key = k.0.3; race = r; is = inr (found.0, k.0.4) })
    ]

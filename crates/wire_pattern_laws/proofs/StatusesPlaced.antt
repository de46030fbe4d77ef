-- The statuses of a get-now on all placings are told by the order of the plan's calls.
use Rattle.std.proofs.Common.{◌≡◌, ℕ, zero, suc, ◌<◌, true, false, Some, is_some, ◌⊎◌, inl, inr, refl, sym, ap, ◌∙◌, subst, arith, eq-eqb, ne_eqb}
use Rattle.std.proofs.lemmas.Bool.{cases_eq, cases_lt, cases_Bool, true≢false}
use Rattle.wire_types.specs.declared.Status.{Status}
use Rattle.wire_runs.specs.Plan.{Plan, Event, GetNow, kind, event_count, process_count, node_of, same_node, admits}
use Rattle.wire_runs.specs.Puts.{stored}
use Rattle.wire_runs.specs.Order.{Live}
use Rattle.wire_runs.specs.Races.{IsSettled}
use Rattle.wire_runs.specs.Laws.{HappensBefore}
use Rattle.wire_runs.specs.Placings.{IsPlacing, paired, HasSurely, IsSettledAnywhere}
use Rattle.wire_runs.proofs.Basics.{process_within, stored_own, stores_commit}
use Rattle.wire_runs.proofs.Puts.{put_once}
use Rattle.wire_runs.proofs.Histories.{before_live, joined, no_cycle}
use Rattle.wire_runs.proofs.LeastFar.{have_least}
use Rattle.wire_runs.proofs.PlacingKeeps.{turned, placing_keeps, counts, kind_kept, own_same, stored_same, scope_same, surely_kept}
use Rattle.wire_runs.proofs.PlacingReplies.{reflexive, near_is, alone_is}
use Rattle.wire_runs.proofs.Anywhere.{placing_is, pair_node, first_of_pair, second_of_pair, of_pair, to_node, to_process, part_within, settled_there}
use Rattle.wire_pattern_laws.specs.Finds.{found_status, shown_status, event_in, FindsOwn, FindsNear, near_nothing, near_value, FindsFar, far_nothing, far_value, Finds, from_own, from_near, from_far}
use Rattle.wire_pattern_laws.specs.StatusesTold.{CanSay, Own, Near, NearNothing, Far, FarNothing, StatusesTold}
use Rattle.wire_pattern_laws.proofs.FindsByOrder.{absent, undenied}

module _ (plan : Plan) (everywhere : IsSettledAnywhere plan) (marks : HappensBefore plan) (get : Event) (owner key : ℕ) (is : kind plan get ≡ Some (GetNow owner key)) (is_live : Live plan get) (found : Status) where
  here : IsSettled plan
  here = settled_there plan plan (reflexive plan) everywhere

  -- on some placing
  module _ (other : Plan) (same : IsPlacing plan other) where
    there : IsSettled other
    there = settled_there plan other same everywhere

    own_told : get.proc ≡ owner → FindsOwn other get owner key found → CanSay plan get owner key found
    own_told s f = Own s (f ∙ sym (ap (λ o. found_status (is_some o)) (own_same plan other same owner key get.at)))

    near_told : (get.proc ≡ owner → ⊥) → FindsNear other get owner key found → CanSay plan get owner key found
    near_told ne (near_nothing none f) =
        let kept = placing_keeps plan other same in
        NearNothing ne (λ i stores b. none i ((kept.stores (event_in owner i) key).0 stores) ((kept.chains (event_in owner i) get).0 b)) f
    near_told ne (near_value i put stores l not_before is_put f) =
        let kept = placing_keeps plan other same in
        let commit = event_in owner i in
        let stores' = (kept.stores commit key).1 stores in
        let is_put' : stored plan owner key (event_count plan owner) ≡ Some put = stored_same plan other same owner key (event_count plan owner) ∙ ap (stored other owner key) (counts plan other same owner) ∙ is_put in
        elim (cases_Bool (marks.before commit get)) [
          | inl t ↦ Near ne i put stores' ((marks.tells_before commit get).0 t) is_put' (f ∙ ap (λ s. shown_status (admits s true)) (sym (scope_same plan other same owner put)))
          | inr n ↦ absurd (everywhere.no_near_race commit get key (record {
            is = is;
            another = ne;
            once = put_once plan here owner key (event_count plan owner) (stored_own plan owner key (event_count plan owner) (ap is_some is_put'));
            stores = stores';
            unordered = record {
              live_x = (kept.lives commit).1 l;
              live_y = is_live;
              not_before = λ b. true≢false (sym ((marks.tells_before commit get).1 b) ∙ n);
              not_after = λ b. not_before ((kept.chains get commit).0 b);
            };
          }))
        ]

    -- of the first n processes one that is on the get's node and surely has the key, or none
    look : (n : ℕ) → ((m : ℕ) × HasSurely plan owner key m get) ⊎ ((m : ℕ) → m < n → node_of other m ≡ node_of other get.proc → HasSurely plan owner key m get → ⊥)
    look zero = inr (λ m lt. absurd (omega (arith, lt)))
    look (suc n) = elim ((have_least plan marks).sure owner key n get) [
      | inl sure ↦ inl (n, sure)
      | inr not ↦ elim (look n) [
        | inl found_one ↦ inl found_one
        | inr none ↦ inr (λ m lt on sure. elim (cases_eq m n) [
          | inl s ↦ not (subst (λ v. HasSurely plan owner key v get) s sure)
          | inr ne ↦ none m (omega (arith, lt, ne)) on sure
        ])
      ]
    ]

    far_told : (get.proc ≡ owner → ⊥) → same_node other owner get.proc ≡ false → FindsFar other get owner key found → CanSay plan get owner key found
    far_told ne away (far_nothing none f) = FarNothing ne (λ sure.
        let h = surely_kept plan other same owner key get.proc get sure in
        none (record { delivery = h.delivery; delivers = to_node other owner key (node_of other get.proc) get.proc h.delivery refl h.carries; all_before = h.all_before })) f
    far_told ne away (far_value d delivers not_before f) = elim (look (process_count other)) [
      | inl sure ↦ Far ne sure.0 sure.1 f
      | inr none ↦ absurd (undenied other there get owner key (kind_kept plan other same get (GetNow owner key) refl is) (((placing_keeps plan other same).lives get).0 is_live) away
          (λ sure.
          let m = to_process other owner key (node_of other get.proc) sure.delivery (λ e. true≢false (sym (eq-eqb _ _ e) ∙ away)) sure.delivers in
          none m.0 (part_within other owner key m.0 sure.delivery m.1) m.2
          (surely_kept other plan (turned same) owner key m.0 get (record { delivery = sure.delivery; carries = m.1; all_before = sure.all_before })))
          d delivers not_before)
    ]

    told : Finds other get owner key found → CanSay plan get owner key found
    told (from_own s f) = own_told s f
    told (from_near ne near f) = near_told ne f
    told (from_far ne away f) = far_told ne away f

  told_there : (other : Plan) × IsPlacing plan other × Finds other get owner key found → CanSay plan get owner key found
  told_there o = told o.0 o.1 o.2

  -- and back
  abbrev Somewhere : Type 0
  Somewhere = (other : Plan) × IsPlacing plan other × Finds other get owner key found

  on : (other : Plan) → IsPlacing plan other → Finds other get owner key found → Somewhere
  on other same finds = (other, same, finds)

  reader_within : get.proc < process_count plan
  reader_within = process_within plan get.proc get.at _ is

  -- the owner on no node of the get and m
  apart : (m : ℕ) → (owner ≡ get.proc → ⊥) → (owner ≡ m → ⊥) → same_node (paired plan get.proc m) owner get.proc ≡ false
  apart m not_reader not_mate = ne_eqb _ _ (λ e. go (of_pair plan get.proc m owner (e ∙ first_of_pair plan get.proc m reader_within)))
    where
      go : (owner ≡ get.proc) ⊎ (owner ≡ m) → ⊥
      go (inl s) = not_reader s
      go (inr s) = not_mate s

  somewhere : CanSay plan get owner key found → Somewhere
  somewhere (Own s f) = on plan (reflexive plan) (from_own s f)
  somewhere (Near ne i put stores before is_put f) =
      let other = paired plan owner get.proc in
      let same = placing_is plan (pair_node owner get.proc) in
      let kept = placing_keeps plan other same in
      let commit = event_in owner i in
      let owner_lt = process_within plan owner i _ (stores_commit plan commit key stores) in
      on other same (from_near ne (near_is plan owner get.proc owner_lt reader_within)
      (near_value i put ((kept.stores commit key).0 stores) ((kept.lives commit).0 (before_live before))
      (λ b. no_cycle (before_live before) (joined before ((kept.chains get commit).1 b)))
      (sym (stored_same plan other same owner key (event_count other owner)) ∙ ap (stored plan owner key) (sym (counts plan other same owner)) ∙ is_put)
      (f ∙ ap (λ s. shown_status (admits s true)) (scope_same plan other same owner put))))
  somewhere (NearNothing ne none f) = elim (cases_lt owner (process_count plan)) [
    | inr past ↦ on plan (reflexive plan) (absent plan get owner key found ne past f)
    | inl lt ↦ (
        let other = paired plan owner get.proc in
        let same = placing_is plan (pair_node owner get.proc) in
        let kept = placing_keeps plan other same in
        on other same (from_near ne (near_is plan owner get.proc lt reader_within)
        (near_nothing (λ i stores b. none i ((kept.stores (event_in owner i) key).1 stores) ((kept.chains (event_in owner i) get).1 b)) f)))
  ]
  somewhere (Far ne m sure f) =
      let other = paired plan get.proc m in
      let same = placing_is plan (pair_node get.proc m) in
      let kept = placing_keeps plan other same in
      let h = surely_kept plan other same owner key m get sure in
      let m_lt = part_within plan owner key m sure.delivery sure.carries in
      let beside : node_of other m ≡ node_of other get.proc = second_of_pair plan get.proc m m_lt ∙ sym (first_of_pair plan get.proc m reader_within) in
      on other same (from_far ne (apart m (λ s. ne (sym s)) (λ s. sure.carries.another (sym s)))
      (far_value h.delivery (to_node other owner key (node_of other get.proc) m h.delivery beside h.carries)
      (λ z a b. no_cycle (((kept.lives get).0) is_live) (joined b (h.all_before z a))) f))
  somewhere (FarNothing ne none f) =
      let other = paired plan get.proc get.proc in
      let same = placing_is plan (pair_node get.proc get.proc) in
      let away = alone_is plan owner get.proc reader_within ne in
      on other same (from_far ne away (far_nothing (λ sure.
      let m = to_process other owner key (node_of other get.proc) sure.delivery (λ e. true≢false (sym (eq-eqb _ _ e) ∙ away)) sure.delivers in
      let alone = only (of_pair plan get.proc get.proc m.0 (m.2 ∙ first_of_pair plan get.proc get.proc reader_within)) in
      none (subst (λ v. HasSurely plan owner key v get) alone
      (surely_kept other plan (turned same) owner key m.0 get (record { delivery = sure.delivery; carries = m.1; all_before = sure.all_before })))) f))
    where
      only : {m : ℕ} → (m ≡ get.proc) ⊎ (m ≡ get.proc) → m ≡ get.proc
      only (inl s) = s
      only (inr s) = s

pub statuses_told : StatusesTold
statuses_told plan everywhere marks get owner key is l found = (somewhere plan everywhere marks get owner key is l found, told_there plan everywhere marks get owner key is l found)

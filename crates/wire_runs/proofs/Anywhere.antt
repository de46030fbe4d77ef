-- What is found on some placing, by definitions that read no node.
use Rattle.std.proofs.Common.{◌≡◌, ℕ, zero, suc, ◌<◌, ◌≤◌, List, [], ◌∷◌, map, length, Bool, true, cond, ◌==◌, ◌||◌, is_some, ◌⊎◌, inl, inr, ⊎_elim, refl, sym, ap, ◌∙◌, subst, arith, slice_get, eq-eqb, ne_eqb, eqb-true}
use Rattle.std.specs.List.{list_any}
use Rattle.std.proofs.lemmas.Bool.{cond-true, cond-false, cases_lt, cases_Bool, or_cases, or_left, or_right, true≢false}
use Rattle.std.proofs.lemmas.Option.{slice_get_past}
use Rattle.wire_runs.specs.Plan.{Plan, Process, kinds, event_count, node_of, process_node, process_kinds, process_count, same_node, Event}
use Rattle.wire_runs.specs.Fences.{is_member}
use Rattle.wire_runs.specs.Races.{Delivery, ByFence, ByGet, Delivers, IsNodeRace, IsDeliveryRace, IsSettled, FenceBringsAway, GetBringsAway, IsNearRace}
use Rattle.wire_runs.specs.Placings.{without_reply, IsPlacing, placed, placing, paired, Carries, HasSurely, IsFarRace, IsSettledAnywhere}
use Rattle.wire_runs.specs.PlacingLaws.{OneANodeHasNone, NearAnywhere, FarAnywhere, SettledAnywhere}
use Rattle.wire_runs.proofs.Basics.{process_within, stores_commit}
use Rattle.wire_runs.proofs.Puts.{first_stores}
use Rattle.wire_runs.proofs.PlacingKeeps.{placing_keeps}
use Rattle.wire_runs.proofs.FenceChains.{member_arrives, reader_takes_no_part}

-- a plan with its processes elsewhere
pub placed_length : (nodes : ℕ → ℕ) (processes : List Process) → length (placed nodes processes) ≡ length processes
placed_length nodes [] = refl
placed_length nodes (process ∷ processes) = ap suc (placed_length (λ p. nodes (suc p)) processes)

pub placed_kinds : (nodes : ℕ → ℕ) (processes : List Process) (p : ℕ) → process_kinds (slice_get processes p) ≡ process_kinds (slice_get (placed nodes processes) p)
placed_kinds nodes [] p = refl
placed_kinds nodes (process ∷ processes) zero = refl
placed_kinds nodes (process ∷ processes) (suc p) = placed_kinds (λ q. nodes (suc q)) processes p

pub placed_node : (nodes : ℕ → ℕ) (processes : List Process) (p : ℕ) → p < length processes → process_node (slice_get (placed nodes processes) p) ≡ nodes p
placed_node nodes [] p lt = absurd (omega (arith, lt))
placed_node nodes (process ∷ processes) zero lt = refl
placed_node nodes (process ∷ processes) (suc p) lt = placed_node (λ q. nodes (suc q)) processes p (omega (arith, lt))

pub placing_is : (plan : Plan) (nodes : ℕ → ℕ) → IsPlacing plan (placing plan nodes)
unfolding kinds
placing_is plan nodes = record {
  same_keep = refl;
  same_count = sym (placed_length nodes plan.processes);
  same_calls = λ p. ap (map without_reply) (placed_kinds nodes plan.processes p);
}

pub node_there : (plan : Plan) (nodes : ℕ → ℕ) (p : ℕ) → p < process_count plan → node_of (placing plan nodes) p ≡ nodes p
unfolding node_of
node_there plan nodes p lt = placed_node nodes plan.processes p lt

pub no_node : (plan : Plan) (p : ℕ) → process_count plan ≤ p → node_of plan p ≡ 0
unfolding node_of
no_node plan p past = ap process_node (slice_get_past plan.processes p past)

abbrev pub pair_node : ℕ → ℕ → ℕ → ℕ
pair_node a b p = cond ((p == a) || (p == b)) 1 0

pub first_of_pair : (plan : Plan) (a b : ℕ) → a < process_count plan → node_of (paired plan a b) a ≡ 1
first_of_pair plan a b lt = node_there plan (pair_node a b) a lt ∙ cond-true _ _ _ (or_left _ _ (eq-eqb a a refl))

pub second_of_pair : (plan : Plan) (a b : ℕ) → b < process_count plan → node_of (paired plan a b) b ≡ 1
second_of_pair plan a b lt = node_there plan (pair_node a b) b lt ∙ cond-true _ _ _ (or_right _ _ (eq-eqb b b refl))

-- whoever is on node 1 is one of the two
pub of_pair : (plan : Plan) (a b p : ℕ) → node_of (paired plan a b) p ≡ 1 → (p ≡ a) ⊎ (p ≡ b)
of_pair plan a b p on = elim (cases_lt p (process_count plan)) [
  | inr past ↦ absurd (
      let same = (placing_is plan (pair_node a b)).same_count in
      let none = no_node (paired plan a b) p (omega (arith, past, same)) in
      omega (arith, on, none))
  | inl lt ↦ elim (cases_Bool ((p == a) || (p == b))) [
    | inl t ↦ elim (or_cases _ _ t) [ inl e ↦ inl (eqb-true p a e) | inr e ↦ inr (eqb-true p b e) ]
    | inr f ↦ absurd (let zero_ : pair_node a b p ≡ 0 = cond-false ((p == a) || (p == b)) _ _ f in let there = node_there plan (pair_node a b) p lt in omega (arith, zero_, there, on))
  ]
]

any_of_member : (f : ℕ → Bool) (xs : List ℕ) (m : ℕ) → is_member xs m ≡ true → f m ≡ true → list_any f xs ≡ true
any_of_member f [] m i h = absurd (true≢false (sym i))
any_of_member f (x ∷ xs) m i h = elim (or_cases (x == m) _ i) [
  | inl e ↦ or_left _ _ (ap f (eqb-true x m e) ∙ h)
  | inr r ↦ or_right _ _ (any_of_member f xs m r h)
]

member_of_any : (f : ℕ → Bool) (xs : List ℕ) → list_any f xs ≡ true → (m : ℕ) × (is_member xs m ≡ true) × (f m ≡ true)
member_of_any f [] h = absurd (true≢false (sym h))
member_of_any f (x ∷ xs) h = elim (or_cases (f x) _ h) [
  | inl e ↦ (x, or_left _ _ (eq-eqb x x refl), e)
  | inr r ↦ (let w = member_of_any f xs r in (w.0, or_right _ _ w.1, w.2))
]

-- a delivery to a node is one to a process of it
pub to_node : (plan : Plan) (p key node m : ℕ) (d : Delivery) → node_of plan m ≡ node → Carries plan p key m d → Delivers plan p key node d
to_node plan p key node m (ByFence members j) on c = record {
  brings_it = record { away = c.brings_away; reaches = any_of_member (λ k. node_of plan k == node) members m c.takes_part (eq-eqb _ _ on) };
  all_live = c.all_live;
}
to_node plan p key node m (ByGet get) on c = record {
  brings_it = record { away = c.brings_away; there = ap (node_of plan) c.takes_part ∙ on };
  all_live = c.all_live;
}

pub to_process : (plan : Plan) (p key node : ℕ) (d : Delivery) → (node_of plan p ≡ node → ⊥) → Delivers plan p key node d → (m : ℕ) × Carries plan p key m d × (node_of plan m ≡ node)
to_process plan p key node (ByFence members j) away d =
    let w = member_of_any (λ k. node_of plan k == node) members d.brings_it.reaches in
    let on = eqb-true _ _ w.2 in
    (w.0, record { another = λ e. away (sym (ap (node_of plan) e) ∙ on); takes_part = w.1; brings_away = d.brings_it.away; all_live = d.all_live }, on)
to_process plan p key node (ByGet get) away d =
    let on = d.brings_it.there in
    (get.proc, record { another = λ e. away (sym (ap (node_of plan) e) ∙ on); takes_part = refl; brings_away = d.brings_it.away; all_live = d.all_live }, on)

-- whoever takes part in a delivery is a process of the plan
pub part_within : (plan : Plan) (p key m : ℕ) (d : Delivery) → Carries plan p key m d → m < process_count plan
part_within plan p key m (ByFence members j) c =
    let b : FenceBringsAway plan p key members j = c.brings_away in
    let w = member_arrives plan members j m _ b.full b.arrival c.takes_part in
    process_within plan m w.0 _ w.1.is
part_within plan p key m (ByGet get) c = subst (λ k. k < process_count plan) c.takes_part (process_within plan get.proc get.at _ c.brings_away.is)

-- so is its owner
pub owner_within : (plan : Plan) (p key m : ℕ) (d : Delivery) → Carries plan p key m d → p < process_count plan
owner_within plan p key m (ByFence members j) c = let b : FenceBringsAway plan p key members j = c.brings_away in process_within plan p b.at _ b.arrival.is
owner_within plan p key m (ByGet get) c =
    let b : GetBringsAway plan p key get = c.brings_away in
    let first = first_stores plan p key (event_count plan p) (ap is_some b.committed) in
    process_within plan p first.0 _ (stores_commit plan (record { proc = p; at = first.0 }) key first.2)

-- a race with a delivery on a plan as it is placed is a far one, with some process of the reader's node
pub race_is_far : (plan : Plan) (x y : Event) (p key : ℕ) → IsDeliveryRace plan x y p key → (m : ℕ) × IsFarRace plan x y p key m × (node_of plan m ≡ node_of plan y.proc)
race_is_far plan x y p key r =
    let away : node_of plan p ≡ node_of plan y.proc → ⊥ = λ e. true≢false (sym (eq-eqb _ _ e) ∙ r.other) in
    let w = to_process plan p key (node_of plan y.proc) r.delivery away r.delivers in
    let not_sure : (m : ℕ) → node_of plan m ≡ node_of plan y.proc → HasSurely plan p key m y → ⊥ =
    λ m on h. r.not_sure (record { delivery = h.delivery; delivers = to_node plan p key (node_of plan y.proc) m h.delivery on h.carries; all_before = h.all_before }) in (
      w.0,
      record {
        is = r.is;
        another = λ e. away (sym (ap (node_of plan) e));
        once = r.once;
        get_live = r.get_live;
        reader_not_sure = not_sure y.proc refl;
        neighbour_not_sure = not_sure w.0 w.2;
        delivery = r.delivery;
        carries = w.1;
        before_none = r.before_none;
        of_it = r.of_it;
        not_before = r.not_before;
        first = r.first;
      },
      w.2,
    )

-- the other process of a far race isn't the reader
pub far_not_reader : (plan : Plan) (x y : Event) (p key m : ℕ) → IsFarRace plan x y p key m → m ≡ y.proc → ⊥
far_not_reader plan x y p key m r e =
    let c : Carries plan p key y.proc r.delivery = subst (λ k. Carries plan p key k r.delivery) e r.carries in
    ⊎_elim (λ all. r.reader_not_sure (record { delivery = r.delivery; carries = c; all_before = all })) (λ w. r.before_none w.0 w.1 w.2)
    (reader_takes_no_part plan p key p key y r.delivery r.is r.get_live c)

-- a far race is one on a plan where the two processes are on one node, the owner is on another, and nobody there surely has the key
pub far_is_race : (plan : Plan) (x y : Event) (p key m : ℕ) → node_of plan m ≡ node_of plan y.proc → (node_of plan p ≡ node_of plan y.proc → ⊥) →
    ((k : ℕ) → k < process_count plan → node_of plan k ≡ node_of plan y.proc → HasSurely plan p key k y → ⊥) → IsFarRace plan x y p key m → IsDeliveryRace plan x y p key
far_is_race plan x y p key m on away not_sure r = record {
  is = r.is;
  other = ne_eqb _ _ away;
  once = r.once;
  get_live = r.get_live;
  not_sure = λ sure.
      let w = to_process plan p key (node_of plan y.proc) sure.delivery away sure.delivers in
      not_sure w.0 (part_within plan p key w.0 sure.delivery w.1) w.2 (record { delivery = sure.delivery; carries = w.1; all_before = sure.all_before });
  delivery = r.delivery;
  delivers = to_node plan p key (node_of plan y.proc) m r.delivery on r.carries;
  before_none = r.before_none;
  of_it = r.of_it;
  not_before = r.not_before;
  first = r.first;
}

-- where the two have a node of their own, nobody there surely has it
pub pair_not_sure : (plan : Plan) (x y : Event) (p key m : ℕ) → IsFarRace plan x y p key m → (k : ℕ) → (k ≡ y.proc) ⊎ (k ≡ m) → HasSurely plan p key k y → ⊥
pair_not_sure plan x y p key m r k of has =
    ⊎_elim (λ e. r.reader_not_sure (subst (λ i. HasSurely plan p key i y) e has)) (λ e. r.neighbour_not_sure (subst (λ i. HasSurely plan p key i y) e has)) of

pub far_on_pair : (plan : Plan) (x y : Event) (p key m : ℕ) → IsFarRace plan x y p key m → IsDeliveryRace (paired plan y.proc m) x y p key
far_on_pair plan x y p key m r =
    let pair = paired plan y.proc m in
    let reader_on = first_of_pair plan y.proc m (process_within plan y.proc y.at _ r.is) in
    let neighbour_on = second_of_pair plan y.proc m (part_within plan p key m r.delivery r.carries) in
    let far : IsFarRace pair x y p key m = ((placing_keeps plan pair (placing_is plan (pair_node y.proc m))).far_races x y p key m).0 r in
    far_is_race pair x y p key m (neighbour_on ∙ sym reader_on)
    (λ e. elim (of_pair plan y.proc m p (e ∙ reader_on)) [ inl q ↦ r.another (sym q) | inr o ↦ r.carries.another (sym o) ])
    (λ k within e. pair_not_sure pair x y p key m far k (of_pair plan y.proc m k (e ∙ reader_on)))
    far

pub near_of_race : (plan : Plan) (x y : Event) (key : ℕ) → IsNodeRace plan x y key → IsNearRace plan x y key
near_of_race plan x y key r = r.near

pub near_is_race : (plan : Plan) (x y : Event) (key : ℕ) → same_node plan x.proc y.proc ≡ true → IsNearRace plan x y key → IsNodeRace plan x y key
near_is_race plan x y key on r = record { near = r; node = on }

pub near_on_pair : (plan : Plan) (x y : Event) (key : ℕ) → IsNearRace plan x y key → IsNodeRace (paired plan x.proc y.proc) x y key
near_on_pair plan x y key r =
    let pair = paired plan x.proc y.proc in
    let owner_on = first_of_pair plan x.proc y.proc (process_within plan x.proc x.at _ (stores_commit plan x key r.stores)) in
    let reader_on = second_of_pair plan x.proc y.proc (process_within plan y.proc y.at _ r.is) in
    near_is_race pair x y key (eq-eqb _ _ (owner_on ∙ sym reader_on)) (((placing_keeps plan pair (placing_is plan (pair_node x.proc y.proc))).near_races x y key).0 r)

pub near_anywhere : NearAnywhere
near_anywhere plan x y key = record {
  somewhere = (
    (λ r. (paired plan x.proc y.proc, placing_is plan (pair_node x.proc y.proc), near_on_pair plan x y key r)),
    (λ w. ((placing_keeps plan w.0 w.1).near_races x y key).1 (near_of_race w.0 x y key w.2)),
  );
  on_pair = near_on_pair plan x y key;
}

pub far_anywhere : FarAnywhere
far_anywhere plan x y p key = record {
  somewhere = (
    (λ w. (paired plan y.proc w.0, placing_is plan (pair_node y.proc w.0), far_on_pair plan x y p key w.0 w.1)),
    (λ w. let f = race_is_far w.0 x y p key w.2 in (f.0, ((placing_keeps plan w.0 w.1).far_races x y p key f.0).1 f.1)),
  );
  on_pair = far_on_pair plan x y p key;
}

pub settled_there : (plan other : Plan) → IsPlacing plan other → IsSettledAnywhere plan → IsSettled other
settled_there plan other same s = let kept = placing_keeps plan other same in
    record {
      no_rewrite = λ x y r. s.no_rewrite x y ((kept.rewrites x y).1 r);
      no_node_race = λ x y key r. s.no_near_race x y key ((kept.near_races x y key).1 (near_of_race other x y key r));
      no_delivery_race = λ x y p key r. let f = race_is_far other x y p key r in s.no_far_race x y p key f.0 ((kept.far_races x y p key f.0).1 f.1);
      no_name_race = λ x y name r. s.no_name_race x y name ((kept.name_races x y name).1 r);
    }

pub settled_by_pairs : (plan : Plan) → ((a b : ℕ) → IsSettled (paired plan a b)) → IsSettledAnywhere plan
settled_by_pairs plan s = let kept = placing_keeps plan (paired plan 0 0) (placing_is plan (pair_node 0 0)) in
    record {
      no_rewrite = λ x y r. (s 0 0).no_rewrite x y ((kept.rewrites x y).0 r);
      no_near_race = λ x y key r. (s x.proc y.proc).no_node_race x y key (near_on_pair plan x y key r);
      no_far_race = λ x y p key m r. (s y.proc m).no_delivery_race x y p key (far_on_pair plan x y p key m r);
      no_name_race = λ x y name r. (s 0 0).no_name_race x y name ((kept.name_races x y name).0 r);
    }

pub settled_anywhere : SettledAnywhere
settled_anywhere plan = record {
  everywhere = ((λ s other same. settled_there plan other same s), (λ all. settled_by_pairs plan (λ a b. all (paired plan a b) (placing_is plan (pair_node a b)))));
  on_pairs = ((λ s a b. settled_there plan (paired plan a b) (placing_is plan (pair_node a b)) s), settled_by_pairs plan);
}

pub one_a_node_has_none : OneANodeHasNone
one_a_node_has_none plan one = record {
  no_node_race = λ x y key r.
      true≢false (sym r.node
      ∙ one x.proc y.proc (process_within plan x.proc x.at _ (stores_commit plan x key r.near.stores)) (process_within plan y.proc y.at _ r.near.is) (λ e. r.near.another (sym e)));
  no_delivery_race = λ x y p key r.
      let f = race_is_far plan x y p key r in
      true≢false (sym (eq-eqb _ _ f.2)
      ∙ one f.0 y.proc (part_within plan p key f.0 f.1.delivery f.1.carries) (process_within plan y.proc y.at _ r.is) (far_not_reader plan x y p key f.0 f.1));
}

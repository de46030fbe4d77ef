-- The list of what is found on some placing.
use Rattle.std.proofs.Common.{◌≡◌, ℕ, suc, ◌<◌, List, [], ◌∷◌, Bool, true, false, cond, ◌==◌, ◌||◌, Some, ◌⊎◌, inl, inr, ⊎_elim, refl, sym, ap, ◌∙◌, subst, arith, eq-eqb, eqb-true}
use Rattle.std.proofs.Math.Path.{fun_ext}
use Rattle.std.proofs.lemmas.Bool.{cases_eq, cases_lt}
use Rattle.wire_runs.specs.Plan.{Plan, process_count, Kind, Commit, Get, GetNow, kind, Event}
use Rattle.wire_runs.specs.Races.{Delivery, ByFence, ByGet, IsOf, IsNodeRace, IsDeliveryRace, BringsAway, IsNearRace}
use Rattle.wire_runs.specs.Findings.{Finding, Rewrite, KeyRace, NameRace, IsKeyRace, IsFound, IsSooner}
use Rattle.wire_runs.specs.Placings.{IsPlacing, placing, paired, IsFarRace, IsSettledAnywhere}
use Rattle.wire_runs.specs.FindingsAnywhere.{PlacementFinding, OnAll, OnPair, finding_of, IsPair, IsLeastFar, IsKeyRaceOn, IsFoundSomewhere, HasPlacementFinding, IsPlacedSorted}
use Rattle.wire_runs.specs.Laws.{IsOneWay}
use Rattle.wire_runs.specs.PlacingLaws.{ShareANode, PlacingsAre, PlacedIsFound, FindingsAnywhere, OnePair, OneListAnywhere}
use Rattle.wire_runs.proofs.Basics.{stores_commit}
use Rattle.wire_runs.proofs.Brought.{no_least}
use Rattle.wire_runs.proofs.EventLists.{one_lower}
use Rattle.wire_runs.proofs.Histories.{same_place}
use Rattle.wire_runs.proofs.Findings.{sooner_one_way}
use Rattle.wire_runs.proofs.Families.{far_alone}
use Rattle.wire_runs.proofs.PlacingKeeps.{turned, placing_keeps}
use Rattle.wire_runs.proofs.Anywhere.{first_of_pair, second_of_pair, of_pair, near_is_race, placing_is, node_there, pair_node, near_of_race, near_on_pair, race_is_far, far_on_pair, far_not_reader}

pair_alone : (plan : Plan) (a b : ℕ) → a < process_count plan → b < process_count plan → ShareANode (paired plan a b) a b
pair_alone plan a b within_a within_b =
    let on = first_of_pair plan a b within_a in
    record {
      together = eq-eqb _ _ (on ∙ sym (second_of_pair plan a b within_b));
      alone = λ k within same. of_pair plan a b k (eqb-true _ _ same ∙ on);
    }

pub placings_are : PlacingsAre
placings_are plan = record {
  anywhere = placing_is plan;
  there = node_there plan;
  pair = pair_alone plan;
  itself = record { same_keep = refl; same_count = refl; same_calls = λ p. refl };
  back = λ other same. turned same;
  again = λ other third a b. record {
    same_keep = a.same_keep ∙ b.same_keep;
    same_count = a.same_count ∙ b.same_count;
    same_calls = λ p. a.same_calls p ∙ b.same_calls p;
  };
}

or_turned : (a b : Bool) → (a || b) ≡ (b || a)
or_turned true true = refl
or_turned true false = refl
or_turned false true = refl
or_turned false false = refl

-- the two of a pair, in either order
pair_turned : (plan : Plan) (a b : ℕ) → paired plan a b ≡ paired plan b a
pair_turned plan a b = ap (placing plan) (fun_ext (λ p. ap (λ (c : Bool). cond c 1 0) (or_turned (p == a) (p == b))))

on_pair_of : (plan : Plan) (a b p q : ℕ) (P : Plan → Type 0) → IsPair a b p q → P (paired plan p q) → P (paired plan a b)
on_pair_of plan a b p q P (low, inl e) h = subst P (ap (λ c. paired plan c q) (sym e.0) ∙ ap (paired plan a) (sym e.1)) h
on_pair_of plan a b p q P (low, inr e) h = subst P (ap (λ c. paired plan c q) (sym e.1) ∙ ap (paired plan b) (sym e.0) ∙ pair_turned plan b a) h

key_race_on : (plan : Plan) (x y : Event) (owner key a b : ℕ) → IsKeyRaceOn plan x y owner key a b → IsKeyRace (paired plan a b) x y owner key
key_race_on plan x y owner key a b (inl r) = inl (r.0, on_pair_of plan a b x.proc y.proc (λ other. IsNodeRace other x y key) r.2 (near_on_pair plan x y key r.1))
key_race_on plan x y owner key a b (inr r) = inr (on_pair_of plan a b y.proc r.0 (λ other. IsDeliveryRace other x y owner key) r.2 (far_on_pair plan x y owner key r.0 r.1.far))

found_on_all : (plan : Plan) (f : Finding) → IsFoundSomewhere plan (OnAll f) → (other : Plan) → IsPlacing plan other → IsFound other f
found_on_all plan (Rewrite x y) h other same = ((placing_keeps plan other same).rewrites x y).0 h
found_on_all plan (KeyRace x y owner key) h other same = absurd h
found_on_all plan (NameRace x y name) (low, h) other same =
    let kept = placing_keeps plan other same in
    (low, ⊎_elim (λ r. inl ((kept.name_races x y name).0 r)) (λ r. inr ((kept.name_races y x name).0 r)) h)

found_on_pair : (plan : Plan) (f : Finding) (a b : ℕ) → IsFoundSomewhere plan (OnPair f a b) → IsFound (paired plan a b) f
found_on_pair plan (Rewrite x y) a b h = absurd h
found_on_pair plan (KeyRace x y owner key) a b (low, h) = (low, ⊎_elim (λ r. inl (key_race_on plan x y owner key a b r)) (λ r. inr (key_race_on plan y x owner key a b r)) h)
found_on_pair plan (NameRace x y name) a b h = absurd h

alone_turned : (plan : Plan) (a b : ℕ) → ShareANode plan a b → ShareANode plan b a
alone_turned plan a b are = record {
  together = eq-eqb _ _ (sym (eqb-true _ _ are.together));
  alone = λ k within same. elim (are.alone k within (eq-eqb _ _ (eqb-true _ _ same ∙ sym (eqb-true _ _ are.together)))) [ inl i ↦ inr i | inr i ↦ inl i ];
}

-- two who are alone, under other names
alone_as : (plan : Plan) (a b p q : ℕ) → IsPair a b p q → ShareANode plan a b → ShareANode plan p q
alone_as plan a b p q (low, inl e) are = subst (ShareANode plan p) e.1 (subst (λ c. ShareANode plan c b) e.0 are)
alone_as plan a b p q (low, inr e) are = alone_turned plan q p (subst (ShareANode plan q) e.1 (subst (λ c. ShareANode plan c b) e.0 are))

key_race_alone : (plan other : Plan) → IsPlacing plan other → (x y : Event) (owner key a b : ℕ) → ShareANode other a b → IsKeyRaceOn plan x y owner key a b → IsKeyRace other x y owner key
key_race_alone plan other same x y owner key a b are (inl r) =
    inl (r.0, near_is_race other x y key (alone_as other a b x.proc y.proc r.2 are).together (((placing_keeps plan other same).near_races x y key).0 r.1))
key_race_alone plan other same x y owner key a b are (inr r) =
    inr (far_alone other x y owner key r.0 (alone_turned other y.proc r.0 (alone_as other a b y.proc r.0 r.2 are)) (((placing_keeps plan other same).far_races x y owner key r.0).0 r.1.far))

found_alone : (plan : Plan) (f : Finding) (a b : ℕ) (other : Plan) → IsPlacing plan other → ShareANode other a b → IsFoundSomewhere plan (OnPair f a b) → IsFound other f
found_alone plan (Rewrite x y) a b other same are h = absurd h
found_alone plan (KeyRace x y owner key) a b other same are (low, h) =
    (low, ⊎_elim (λ r. inl (key_race_alone plan other same x y owner key a b are r)) (λ r. inr (key_race_alone plan other same y x owner key a b are r)) h)
found_alone plan (NameRace x y name) a b other same are h = absurd h

pub placed_is_found : PlacedIsFound
placed_is_found plan f = record { on_all = found_on_all plan f; alone = found_alone plan f; on_pair = found_on_pair plan f }

-- two different numbers, the lower first
pair_of : (p q : ℕ) → (p ≡ q → ⊥) → (a b : ℕ) × IsPair a b p q
pair_of p q ne = elim (cases_lt p q) [
  | inl lt ↦ (p, q, (lt, inl (refl, refl)))
  | inr ge ↦ (q, p, (omega (arith, ge, ne), inr (refl, refl)))
]

-- a race on a key on some placing is one with a pair
no_pair_no_race : (plan other : Plan) → IsPlacing plan other → (x y : Event) (owner key : ℕ) → ((a b : ℕ) → IsKeyRaceOn plan x y owner key a b → ⊥) → IsKeyRace other x y owner key → ⊥
no_pair_no_race plan other same x y owner key none (inl r) =
    let near = ((placing_keeps plan other same).near_races x y key).1 (near_of_race other x y key r.1) in
    let pair = pair_of x.proc y.proc (λ e. near.another (sym e)) in
    none pair.0 pair.1 (inl (r.0, near, pair.2))
no_pair_no_race plan other same x y owner key none (inr r) =
    let f = race_is_far other x y owner key r in
    no_least (IsFarRace plan x y owner key) (λ m far least.
    let pair = pair_of y.proc m (λ e. far_not_reader plan x y owner key m far (sym e)) in
    none pair.0 pair.1 (inr (m, record { far = far; least = least }, pair.2)))
    (suc f.0) f.0 (omega arith) (((placing_keeps plan other same).far_races x y owner key f.0).1 f.1)

-- what some placing shows is found, on all or on a pair
not_missed : (plan other : Plan) → IsPlacing plan other → (f : Finding) → ((g : PlacementFinding) → finding_of g ≡ f → IsFoundSomewhere plan g → ⊥) → IsFound other f → ⊥
not_missed plan other same (Rewrite x y) none h = none (OnAll (Rewrite x y)) refl (((placing_keeps plan other same).rewrites x y).1 h)
not_missed plan other same (NameRace x y name) none (low, h) =
    let kept = placing_keeps plan other same in
    none (OnAll (NameRace x y name)) refl (low, ⊎_elim (λ r. inl ((kept.name_races x y name).1 r)) (λ r. inr ((kept.name_races y x name).1 r)) h)
not_missed plan other same (KeyRace x y owner key) none (low, h) =
    ⊎_elim
    (no_pair_no_race plan other same x y owner key (λ a b r. none (OnPair (KeyRace x y owner key) a b) refl (low, inl r)))
    (no_pair_no_race plan other same y x owner key (λ a b r. none (OnPair (KeyRace x y owner key) a b) refl (low, inr r)))
    h

same_pair : (x y v w : Event) → ((x ≡ v) × (y ≡ w)) ⊎ ((x ≡ v) × (y ≡ w) → ⊥)
same_pair x y v w = elim (same_place x v) [
  | inr ne ↦ inr (λ e. ne e.0)
  | inl a ↦ elim (same_place y w) [ inr ne ↦ inr (λ e. ne e.1) | inl b ↦ inl (a, b) ]
]

same_finding : (f g : Finding) → (f ≡ g) ⊎ (f ≡ g → ⊥)
same_finding (Rewrite x y) (Rewrite v w) = elim (same_pair x y v w) [
  | inl e ↦ inl (ap (λ a. Rewrite a y) e.0 ∙ ap (Rewrite v) e.1)
  | inr ne ↦ inr (λ e. ne (cc, cc))
]
same_finding (Rewrite x y) (KeyRace v w p key) = inr (λ e. cc)
same_finding (Rewrite x y) (NameRace v w n) = inr (λ e. cc)
same_finding (KeyRace x y q other) (Rewrite v w) = inr (λ e. cc)
same_finding (KeyRace x y q other) (KeyRace v w p key) = elim (same_pair x y v w) [
  | inr ne ↦ inr (λ e. ne (cc, cc))
  | inl e ↦ elim (cases_eq q p) [
    | inr ne ↦ inr (λ e. ne cc)
    | inl o ↦ elim (cases_eq other key) [
      | inr ne ↦ inr (λ e. ne cc)
      | inl k ↦ inl (ap (λ a. KeyRace a y q other) e.0 ∙ ap (λ b. KeyRace v b q other) e.1 ∙ ap (λ r. KeyRace v w r other) o ∙ ap (KeyRace v w p) k)
    ]
  ]
]
same_finding (KeyRace x y q other) (NameRace v w n) = inr (λ e. cc)
same_finding (NameRace x y m) (Rewrite v w) = inr (λ e. cc)
same_finding (NameRace x y m) (KeyRace v w p key) = inr (λ e. cc)
same_finding (NameRace x y m) (NameRace v w n) = elim (same_pair x y v w) [
  | inr ne ↦ inr (λ e. ne (cc, cc))
  | inl e ↦ elim (cases_eq m n) [ inr ne ↦ inr (λ e. ne cc) | inl o ↦ inl (ap (λ a. NameRace a y m) e.0 ∙ ap (λ b. NameRace v b m) e.1 ∙ ap (NameRace v w) o) ]
]

-- a list has the finding with some pair, or with none
listed : (found : List PlacementFinding) (f : Finding) → ((g : PlacementFinding) × HasPlacementFinding found g × (finding_of g ≡ f)) ⊎ ((g : PlacementFinding) → HasPlacementFinding found g → finding_of g ≡ f → ⊥)
listed [] f = inr (λ g i e. i)
listed (h ∷ found) f = go (same_finding (finding_of h) f) (listed found f)
  where
    go : (finding_of h ≡ f) ⊎ (finding_of h ≡ f → ⊥) → ((g : PlacementFinding) × HasPlacementFinding found g × (finding_of g ≡ f)) ⊎ ((g : PlacementFinding) → HasPlacementFinding found g → finding_of g ≡ f → ⊥) →
        ((g : PlacementFinding) × HasPlacementFinding (h ∷ found) g × (finding_of g ≡ f)) ⊎ ((g : PlacementFinding) → HasPlacementFinding (h ∷ found) g → finding_of g ≡ f → ⊥)
    go (inl e) rest = inl (h, inl refl, e)
    go (inr ne) (inl w) = inl (w.0, inr w.1, w.2)
    go (inr ne) (inr none) = inr (λ g i e. elim i [ inl is ↦ ne (ap finding_of (sym is) ∙ e) | inr j ↦ none g j e ])

shown : (plan : Plan) (g : PlacementFinding) → IsFoundSomewhere plan g → (other : Plan) × IsPlacing plan other × IsFound other (finding_of g)
shown plan (OnAll f) h = (plan, (placings_are plan).itself, found_on_all plan f h plan (placings_are plan).itself)
shown plan (OnPair f a b) h = (paired plan a b, placing_is plan (pair_node a b), found_on_pair plan f a b h)

-- a plan that is settled anywhere shows nothing
settled_shows : (plan : Plan) → IsSettledAnywhere plan → (f : PlacementFinding) → IsFoundSomewhere plan f → ⊥
settled_shows plan s (OnAll (Rewrite x y)) h = s.no_rewrite x y h
settled_shows plan s (OnAll (KeyRace x y owner key)) h = h
settled_shows plan s (OnAll (NameRace x y name)) (low, inl r) = s.no_name_race x y name r
settled_shows plan s (OnAll (NameRace x y name)) (low, inr r) = s.no_name_race y x name r
settled_shows plan s (OnPair (Rewrite x y) a b) h = h
settled_shows plan s (OnPair (KeyRace x y owner key) a b) (low, inl (inl r)) = s.no_near_race x y key r.1
settled_shows plan s (OnPair (KeyRace x y owner key) a b) (low, inl (inr r)) = s.no_far_race x y owner key r.0 r.1.far
settled_shows plan s (OnPair (KeyRace x y owner key) a b) (low, inr (inl r)) = s.no_near_race y x key r.1
settled_shows plan s (OnPair (KeyRace x y owner key) a b) (low, inr (inr r)) = s.no_far_race y x owner key r.0 r.1.far
settled_shows plan s (OnPair (NameRace x y name) a b) h = h

-- no event of a delivery is a get-now or a commit
far_source : (plan : Plan) (x y : Event) (owner key m : ℕ) → IsFarRace plan x y owner key m → (k : Kind) → kind plan x ≡ Some k → (k ≡ Commit → ⊥) × ((p c : ℕ) → k ≡ GetNow p c → ⊥)
far_source plan x y owner key m r k is = go r.delivery r.carries.brings_away r.of_it
  where
    go : (d : Delivery) → BringsAway plan owner key d → IsOf plan d x → (k ≡ Commit → ⊥) × ((p c : ℕ) → k ≡ GetNow p c → ⊥)
    go (ByFence members j) b a = let arrives = a.is in (λ e. cc, λ p c e. cc)
    go (ByGet get) b e =
        let gets : kind plan x ≡ Some (Get owner key) = ap (kind plan) e ∙ b.is in
        (λ e. cc, λ p c e. cc)

none_settled : (plan : Plan) → ((f : PlacementFinding) → IsFoundSomewhere plan f → ⊥) → IsSettledAnywhere plan
none_settled plan none = record {
  no_rewrite = λ x y r. none (OnAll (Rewrite x y)) r;
  no_near_race = λ x y key r.
      let pair = pair_of x.proc y.proc (λ e. r.another (sym e)) in
      elim (one_lower x y (λ e. r.another (ap (λ (v : Event). v.proc) (sym e)))) [
        | inl low ↦ none (OnPair (KeyRace x y x.proc key) pair.0 pair.1) (low, inl (inl (refl, r, pair.2)))
        | inr high ↦ none (OnPair (KeyRace y x x.proc key) pair.0 pair.1) (high, inr (inl (refl, r, pair.2)))
      ];
  no_far_race = λ x y owner key m far. no_least (IsFarRace plan x y owner key) (λ k r least.
      let pair = pair_of y.proc k (λ e. far_not_reader plan x y owner key k r (sym e)) in
      elim (one_lower x y (λ e. (far_source plan x y owner key k r (GetNow owner key) (ap (kind plan) e ∙ r.is)).1 owner key refl)) [
        | inl low ↦ none (OnPair (KeyRace x y owner key) pair.0 pair.1) (low, inl (inr (k, record { far = r; least = least }, pair.2)))
        | inr high ↦ none (OnPair (KeyRace y x owner key) pair.0 pair.1) (high, inr (inr (k, record { far = r; least = least }, pair.2)))
      ])
      (suc m) m (omega arith) far;
  no_name_race = λ x y name r. elim (one_lower x y (λ e. r.others (ap (λ (v : Event). v.proc) e))) [
    | inl low ↦ none (OnAll (NameRace x y name)) (low, inl r)
    | inr high ↦ none (OnAll (NameRace y x name)) (high, inr r)
  ];
}

pub findings_anywhere : FindingsAnywhere
findings_anywhere plan lower_name = record {
  findings = λ found l f. (
    (λ w. let h = shown plan w.0 ((l.those w.0).0 w.1) in (h.0, h.1, subst (λ g. IsFound h.0 g) w.2 h.2)),
    (λ w. elim (listed found f) [
      | inl there ↦ there
      | inr none ↦ absurd (not_missed plan w.0 w.1 f (λ g e h. none g ((l.those g).1 h) e) w.2)
    ]),
  );
  none = (
    (λ l. none_settled plan (λ f h. (l.those f).1 h)),
    (λ s. record { those = λ f. ((λ i. absurd i), (λ h. settled_shows plan s f h)); sorted = tt }),
  );
}

one_pair_of : (a b c d p q : ℕ) → IsPair a b p q → IsPair c d p q → (a ≡ c) × (b ≡ d)
one_pair_of a b c d p q (low, inl e) (low', inl f) = (e.0 ∙ sym f.0, e.1 ∙ sym f.1)
one_pair_of a b c d p q (low, inr e) (low', inr f) = (e.0 ∙ sym f.0, e.1 ∙ sym f.1)
one_pair_of a b c d p q (low, inl e) (low', inr f) = absurd (let e0 = e.0 in let e1 = e.1 in let f0 = f.0 in let f1 = f.1 in omega (arith, low, low', e0, e1, f0, f1))
one_pair_of a b c d p q (low, inr e) (low', inl f) = absurd (let e0 = e.0 in let e1 = e.1 in let f0 = f.0 in let f1 = f.1 in omega (arith, low, low', e0, e1, f0, f1))

least_is_one : (plan : Plan) (x y : Event) (owner key m k : ℕ) → IsLeastFar plan x y owner key m → IsLeastFar plan x y owner key k → m ≡ k
least_is_one plan x y owner key m k a b = elim (cases_lt m k) [
  | inl lt ↦ absurd (b.least m lt a.far)
  | inr ge ↦ elim (cases_lt k m) [ inl gt ↦ absurd (a.least k gt b.far) | inr le ↦ omega (arith, ge, le) ]
]

near_not_far : (plan : Plan) (x y : Event) (owner key key' m : ℕ) → IsNearRace plan x y key → IsFarRace plan x y owner key' m → ⊥
near_not_far plan x y owner key key' m near far = (far_source plan x y owner key' m far Commit (stores_commit plan x key near.stores)).0 refl

one_race_pair : (plan : Plan) (x y : Event) (owner key a b c d : ℕ) → IsKeyRaceOn plan x y owner key a b → IsKeyRaceOn plan x y owner key c d → (a ≡ c) × (b ≡ d)
one_race_pair plan x y owner key a b c d (inl r) (inl s) = one_pair_of a b c d x.proc y.proc r.2 s.2
one_race_pair plan x y owner key a b c d (inl r) (inr s) = absurd (near_not_far plan x y owner key key s.0 r.1 s.1.far)
one_race_pair plan x y owner key a b c d (inr r) (inl s) = absurd (near_not_far plan x y owner key key r.0 s.1 r.1.far)
one_race_pair plan x y owner key a b c d (inr r) (inr s) =
    one_pair_of a b c d y.proc r.0 r.2 (subst (λ m. IsPair c d y.proc m) (sym (least_is_one plan x y owner key r.0 s.0 r.1 s.1)) s.2)

-- the get of a race on a key
race_get : (plan : Plan) (x y : Event) (owner key a b : ℕ) → IsKeyRaceOn plan x y owner key a b → (p : ℕ) × (kind plan y ≡ Some (GetNow p key))
race_get plan x y owner key a b (inl r) = (x.proc, r.1.is)
race_get plan x y owner key a b (inr r) = (owner, r.1.far.is)

-- no race is one both ways
one_side : (plan : Plan) (x y : Event) (owner key a b c d : ℕ) → IsKeyRaceOn plan x y owner key a b → IsKeyRaceOn plan y x owner key c d → ⊥
one_side plan x y owner key a b c d (inl r) s =
    let commits = stores_commit plan x key r.1.stores in
    let gets = (race_get plan y x owner key c d s).1 in
    cc
one_side plan x y owner key a b c d (inr r) s =
    let get = race_get plan y x owner key c d s in
    (far_source plan x y owner key r.0 r.1.far (GetNow get.0 key) get.1).1 get.0 key refl

pair_is_one : (plan : Plan) (x y : Event) (owner key a b c d : ℕ) → IsFoundSomewhere plan (OnPair (KeyRace x y owner key) a b) → IsFoundSomewhere plan (OnPair (KeyRace x y owner key) c d) →
    (a ≡ c) × (b ≡ d)
pair_is_one plan x y owner key a b c d (low, inl r) (low', inl s) = one_race_pair plan x y owner key a b c d r s
pair_is_one plan x y owner key a b c d (low, inr r) (low', inr s) = one_race_pair plan y x owner key a b c d r s
pair_is_one plan x y owner key a b c d (low, inl r) (low', inr s) = absurd (one_side plan x y owner key a b c d r s)
pair_is_one plan x y owner key a b c d (low, inr r) (low', inl s) = absurd (one_side plan x y owner key c d a b s r)

on_pair_is_one : (plan : Plan) (f : Finding) (a b c d : ℕ) → IsFoundSomewhere plan (OnPair f a b) → IsFoundSomewhere plan (OnPair f c d) → OnPair f a b ≡ OnPair f c d
on_pair_is_one plan (Rewrite x y) a b c d h i = absurd h
on_pair_is_one plan (NameRace x y name) a b c d h i = absurd h
on_pair_is_one plan (KeyRace x y owner key) a b c d h i =
    let e = pair_is_one plan x y owner key a b c d h i in
    ap (λ v. OnPair (KeyRace x y owner key) v b) e.0 ∙ ap (OnPair (KeyRace x y owner key) c) e.1

not_both : (plan : Plan) (f : Finding) (a b : ℕ) → IsFoundSomewhere plan (OnAll f) → IsFoundSomewhere plan (OnPair f a b) → ⊥
not_both plan (Rewrite x y) a b h i = i
not_both plan (NameRace x y name) a b h i = i
not_both plan (KeyRace x y owner key) a b h i = h

pub one_pair : OnePair
one_pair plan (OnAll f) (OnAll g) h i e = ap OnAll e
one_pair plan (OnAll f) (OnPair g a b) h i e = absurd (not_both plan f a b h (subst (λ v. IsFoundSomewhere plan (OnPair v a b)) (sym e) i))
one_pair plan (OnPair f a b) (OnAll g) h i e = absurd (not_both plan g a b i (subst (λ v. IsFoundSomewhere plan (OnPair v a b)) e h))
one_pair plan (OnPair f a b) (OnPair g c d) h i e =
    ap (λ v. OnPair v a b) e ∙ on_pair_is_one plan g a b c d (subst (λ v. IsFoundSomewhere plan (OnPair v a b)) e h) i

-- two sorted lists with the same findings are one
one_sorted : (lower_name : ℕ → ℕ → Bool) → IsOneWay lower_name → (xs ys : List PlacementFinding) → IsPlacedSorted lower_name xs → IsPlacedSorted lower_name ys → ((f : PlacementFinding) → HasPlacementFinding xs f → HasPlacementFinding ys f) →
    ((f : PlacementFinding) → HasPlacementFinding ys f → HasPlacementFinding xs f) → xs ≡ ys
one_sorted lower_name one [] [] a b into from = refl
one_sorted lower_name one [] (y ∷ ys) a b into from = absurd (from y (inl refl))
one_sorted lower_name one (x ∷ xs) [] a b into from = absurd (into x (inl refl))
one_sorted lower_name one (x ∷ xs) (y ∷ ys) a b into from =
    let heads : x ≡ y = elim (into x (inl refl)) [
      | inl e ↦ e
      | inr later ↦ elim (from y (inl refl)) [
        | inl e ↦ sym e
        | inr behind ↦ absurd (sooner_one_way lower_name one (finding_of x) (finding_of y) (a.0 y behind) (b.0 x later))
      ]
    ] in
    let self : (f : Finding) → IsSooner lower_name f f → ⊥ = λ f s. sooner_one_way lower_name one f f s s in
    let rest : xs ≡ ys = one_sorted lower_name one xs ys a.1 b.1
    (λ f i. elim (into f (inr i)) [ inl e ↦ absurd (self (finding_of x) (subst (λ v. IsSooner lower_name (finding_of x) (finding_of v)) (e ∙ sym heads) (a.0 f i))) | inr j ↦ j ])
    (λ f j. elim (from f (inr j)) [ inl e ↦ absurd (self (finding_of y) (subst (λ v. IsSooner lower_name (finding_of y) (finding_of v)) (e ∙ heads) (b.0 f j))) | inr i ↦ i ]) in
    ap (λ v. v ∷ xs) heads ∙ ap (λ l. y ∷ l) rest

pub one_list_anywhere : OneListAnywhere
one_list_anywhere plan lower_name xs ys one a b =
    one_sorted lower_name one xs ys a.sorted b.sorted (λ f i. (b.those f).1 ((a.those f).0 i)) (λ f i. (a.those f).1 ((b.those f).0 i))

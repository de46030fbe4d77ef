-- The list of the findings.
use Rattle.std.proofs.Common.{◌≡◌, ℕ, List, [], ◌∷◌, Bool, Some, inl, inr, refl, sym, ap, ◌∙◌, subst}
use Rattle.wire_runs.specs.Plan.{Plan, GetNow, kind, Event}
use Rattle.wire_runs.specs.Races.{Delivery, ByFence, ByGet, IsOf, Brings, IsUnordered, IsSettled}
use Rattle.wire_runs.specs.Findings.{Finding, Rewrite, KeyRace, NameRace, IsKeyRace, IsFound, IsPairLower, IsSooner, Has, IsSorted}
use Rattle.wire_runs.specs.Laws.{NoFindings, IsOneWay, OneList, RacesAreUnordered}
use Rattle.wire_runs.proofs.EventLists.{one_lower, lower_one_way, lower_not_same}

pair_one_way : (x y v w : Event) → IsPairLower x y v w → IsPairLower v w x y → ⊥
pair_one_way x y v w (inl a) (inl b) = lower_one_way x v a b
pair_one_way x y v w (inl a) (inr b) = lower_not_same x v a b.0
pair_one_way x y v w (inr a) (inl b) = lower_not_same v x b a.0
pair_one_way x y v w (inr a) (inr b) = lower_one_way y w a.1 b.1

pair_not_same : (x y v w : Event) → IsPairLower x y v w → v ≡ x → w ≡ y → ⊥
pair_not_same x y v w (inl a) e f = lower_not_same x v a e
pair_not_same x y v w (inr a) e f = lower_not_same y w a.1 f

pub sooner_one_way : (lower_name : ℕ → ℕ → Bool) → IsOneWay lower_name → (f g : Finding) → IsSooner lower_name f g → IsSooner lower_name g f → ⊥
sooner_one_way lower_name one (Rewrite x y) (Rewrite v w) a b = lower_one_way y w a b
sooner_one_way lower_name one (Rewrite x y) (KeyRace v w q other) a b = b
sooner_one_way lower_name one (Rewrite x y) (NameRace v w other) a b = b
sooner_one_way lower_name one (KeyRace x y p key) (Rewrite v w) a b = a
sooner_one_way lower_name one (NameRace x y name) (Rewrite v w) a b = a
sooner_one_way lower_name one (KeyRace x y p key) (KeyRace v w q other) a b = pair_one_way x y v w a b
sooner_one_way lower_name one (KeyRace x y p key) (NameRace v w other) a b = pair_one_way x y v w a b
sooner_one_way lower_name one (NameRace x y name) (KeyRace v w q other) a b = pair_one_way x y v w a b
sooner_one_way lower_name one (NameRace x y name) (NameRace v w other) (inl a) (inl b) = pair_one_way x y v w a b
sooner_one_way lower_name one (NameRace x y name) (NameRace v w other) (inl a) (inr b) = pair_not_same x y v w a b.0 b.1
sooner_one_way lower_name one (NameRace x y name) (NameRace v w other) (inr a) (inl b) = pair_not_same v w x y b a.0 a.1
sooner_one_way lower_name one (NameRace x y name) (NameRace v w other) (inr a) (inr b) = one name other a.2 b.2

-- two sorted lists with the same findings are one
one_sorted : (lower_name : ℕ → ℕ → Bool) → IsOneWay lower_name → (xs ys : List Finding) → IsSorted lower_name xs → IsSorted lower_name ys → ((f : Finding) → Has xs f → Has ys f) →
    ((f : Finding) → Has ys f → Has xs f) → xs ≡ ys
one_sorted lower_name one [] [] a b into from = refl
one_sorted lower_name one [] (y ∷ ys) a b into from = absurd (from y (inl refl))
one_sorted lower_name one (x ∷ xs) [] a b into from = absurd (into x (inl refl))
one_sorted lower_name one (x ∷ xs) (y ∷ ys) a b into from =
    let heads : x ≡ y = elim (into x (inl refl)) [
      | inl e ↦ e
      | inr later ↦ elim (from y (inl refl)) [
        | inl e ↦ sym e
        | inr behind ↦ absurd (sooner_one_way lower_name one x y (a.0 y behind) (b.0 x later))
      ]
    ] in
    let self : (f : Finding) → IsSooner lower_name f f → ⊥ = λ f s. sooner_one_way lower_name one f f s s in
    let rest : xs ≡ ys = one_sorted lower_name one xs ys a.1 b.1
    (λ f i. elim (into f (inr i)) [ inl e ↦ absurd (self x (subst (λ v. IsSooner lower_name x v) (e ∙ sym heads) (a.0 f i))) | inr j ↦ j ])
    (λ f j. elim (from f (inr j)) [ inl e ↦ absurd (self y (subst (λ v. IsSooner lower_name y v) (e ∙ heads) (b.0 f j))) | inr i ↦ i ]) in
    ap (λ v. v ∷ xs) heads ∙ ap (λ l. y ∷ l) rest

pub one_list : OneList
one_list plan lower_name xs ys one a b =
    one_sorted lower_name one xs ys a.sorted b.sorted (λ f i. (b.those f).1 ((a.those f).0 i)) (λ f i. (a.those f).1 ((b.those f).0 i))

-- no event of a delivery is a get-now
not_of_it : (plan : Plan) (p key node : ℕ) (d : Delivery) (x : Event) (owner k : ℕ) → Brings plan p key node d → IsOf plan d x → kind plan x ≡ Some (GetNow owner k) → ⊥
not_of_it plan p key node (ByFence members j) x owner k b of_it e = let i = of_it.is in cc
not_of_it plan p key node (ByGet get) x owner k b of_it e = let i = b.away.is in let f : kind plan get ≡ Some (GetNow owner k) = ap (kind plan) (sym of_it) ∙ e in cc

pub no_findings : NoFindings
no_findings plan lower_name = (
  (λ l.
      let none : (f : Finding) → IsFound plan f → ⊥ = λ f i. (l.those f).1 i in
      record {
        no_rewrite = λ x y r. none (Rewrite x y) r;
        no_node_race = λ x y key r. elim (one_lower x y (λ e. r.near.another (ap (λ (v : Event). v.proc) (sym e)))) [
          | inl low ↦ none (KeyRace x y x.proc key) (low, inl (inl (refl, r)))
          | inr high ↦ none (KeyRace y x x.proc key) (high, inr (inl (refl, r)))
        ];
        no_delivery_race = λ x y owner key r. elim (one_lower x y (λ e. not_of_it plan owner key _ r.delivery x owner key r.delivers.brings_it r.of_it (ap (kind plan) e ∙ r.is))) [
          | inl low ↦ none (KeyRace x y owner key) (low, inl (inr r))
          | inr high ↦ none (KeyRace y x owner key) (high, inr (inr r))
        ];
        no_name_race = λ x y name r. elim (one_lower x y (λ e. r.others (ap (λ (v : Event). v.proc) e))) [
          | inl low ↦ none (NameRace x y name) (low, inl r)
          | inr high ↦ none (NameRace y x name) (high, inr r)
        ];
      }),
  (λ s. record { those = λ f. ((λ i. absurd i), found plan s f); sorted = tt }),
)
  where
    found : (plan : Plan) → IsSettled plan → (f : Finding) → IsFound plan f → ⊥
    found plan s (Rewrite x y) r = s.no_rewrite x y r
    found plan s (KeyRace x y owner key) (low, inl (inl r)) = s.no_node_race x y key r.1
    found plan s (KeyRace x y owner key) (low, inl (inr r)) = s.no_delivery_race x y owner key r
    found plan s (KeyRace x y owner key) (low, inr (inl r)) = s.no_node_race y x key r.1
    found plan s (KeyRace x y owner key) (low, inr (inr r)) = s.no_delivery_race y x owner key r
    found plan s (NameRace x y name) (low, inl r) = s.no_name_race x y name r
    found plan s (NameRace x y name) (low, inr r) = s.no_name_race y x name r

pub turned : (plan : Plan) (x y : Event) → IsUnordered plan x y → IsUnordered plan y x
turned plan x y u = record { live_x = u.live_y; live_y = u.live_x; not_before = u.not_after; not_after = u.not_before }

of_key : (plan : Plan) (x y : Event) (owner key : ℕ) → IsKeyRace plan x y owner key → IsUnordered plan x y
of_key plan x y owner key (inl race) = race.1.near.unordered
of_key plan x y owner key (inr race) = record {
  live_x = race.delivers.all_live x race.of_it;
  live_y = race.get_live;
  not_before = race.not_before;
  not_after = race.before_none x race.of_it;
}

-- the two calls of a race are live, and no chain orders them
pub races_are_unordered : RacesAreUnordered
races_are_unordered plan (Rewrite x y) found = tt
races_are_unordered plan (KeyRace x y owner key) (lower, inl race) = of_key plan x y owner key race
races_are_unordered plan (KeyRace x y owner key) (lower, inr race) = turned plan y x (of_key plan y x owner key race)
races_are_unordered plan (NameRace x y name) (lower, inl race) = race.unordered
races_are_unordered plan (NameRace x y name) (lower, inr race) = turned plan y x race.unordered

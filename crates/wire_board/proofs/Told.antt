-- What the trails of a row of lanes tell.
use Rattle.std.proofs.Common.{◌≡◌, ℕ, zero, suc, ◌+◌, List, [], ◌∷◌, ◌++◌, Option, Some, None, IfSome, Vec, Global, length, refl, sym, ap, ◌∙◌, subst, inl, inr, arith, append-nil, append_assoc}
use Rattle.std.proofs.Common.{length-append}
use Rattle.std.specs.Prelude.{slice_get}
use mathlib.Core.List.{reverse}
use Rattle.std.proofs.lemmas.List.{reverse-append, length-reverse, nil_from_length}
use Rattle.std.proofs.lemmas.List.Elements.{All-nil, All-head, All-tail, All-push, All-same}
use Rattle.std.specs.List.{All}
use Rattle.std.proofs.lemmas.Option.{same_Some, slice_get_cases, slice_get_within, none-some}
use Rattle.wire_runs.specs.Plan.{Plan, process_count}
use Rattle.wire_runs.proofs.Lists.{not_in_empty, slice_get-append_kept, slice_get_push_last}
use Rattle.wire_fates.specs.declared.Fate.{Fate}
use Rattle.wire_board.specs.Lanes.{LaneIs, AreFates, IsLaneOf, AreLanesOf, IsTrail, IsTrailOf, Tell, AreUnlocked, IsToldByLanes, AreLaneTrails, AreTrails}

All-reverse : {X : Type 0} (P : X → Type 0) (xs : List X) → All P xs → All P (reverse xs)
All-reverse P [] all = All-nil P
All-reverse P (x ∷ xs) all =
    All-same P (reverse (x ∷ xs)) (reverse xs ++ x ∷ []) (reverse-append (x ∷ []) xs)
    (All-push P (reverse xs) x (All-reverse P xs (All-tail P x xs all)) (All-head P x xs all))

All-at : {X : Type 0} (P : X → Type 0) (xs : List X) (i : ℕ) (x : X) → slice_get xs i ≡ Some x → All P xs → P x
All-at P [] i x at all = absurd (none-some x at)
All-at P (y ∷ xs) zero x at all = subst P (same_Some y x at) (All-head P y xs all)
All-at P (y ∷ xs) (suc i) x at all = All-at P xs i x at (All-tail P y xs all)

-- these are lanes of the ranks from r on, and their trails
abbrev pub ToldFrom : Plan → ℕ → List LaneIs → List (Vec Fate Global) → Type 0
ToldFrom plan r [] [] = Unit {0}
ToldFrom plan r [] (t ∷ ts) = ⊥
ToldFrom plan r (x ∷ xs) [] = ⊥
ToldFrom plan r (x ∷ xs) (t ∷ ts) = (IsLaneOf plan r x × IsTrailOf x t.items) × ToldFrom plan (suc r) xs ts

-- some lanes are left, and the trails of the others were taken, the last one first
pub record Taking (plan : Plan) (all left : List LaneIs) (trails : List (Vec Fate Global)) : Type 0 where
  pub taken : List LaneIs
  pub all_are : left ++ taken ≡ all
  pub told : ToldFrom plan (length left) taken (reverse trails)

pub taking_none : (plan : Plan) (all : List LaneIs) → Taking plan all all []
taking_none plan all = record { taken = []; all_are = append-nil all; told = tt }

pub taking_more : (plan : Plan) (all left rest : List LaneIs) (x : LaneIs) (trails new : List (Vec Fate Global)) (trail : Vec Fate Global) → Taking plan all left trails → left ≡ rest ++ x ∷ [] →
    new ≡ trails ++ trail ∷ [] → IsLaneOf plan (length rest) x → IsTrailOf x trail.items
    → Taking plan all rest new
taking_more plan all left rest x trails new trail t is more of its = record {
  taken = x ∷ t.taken;
  all_are = sym (append_assoc rest (x ∷ []) t.taken) ∙ (ap (λ (xs : List LaneIs). xs ++ t.taken) (sym is) ∙ t.all_are);
  told =
      let a = ap length is in
      let b = length-append rest (x ∷ []) in
      let long : length left ≡ suc (length rest) = omega (arith, a, b) in
      let turned : reverse new ≡ trail ∷ reverse trails = ap reverse more ∙ reverse-append trails (trail ∷ []) in
      subst (ToldFrom plan (length rest) (x ∷ t.taken)) (sym turned) ((of, its), subst (λ n. ToldFrom plan n t.taken (reverse trails)) long t.told);
}

get_last : (rest taken : List LaneIs) (x : LaneIs) → slice_get ((rest ++ x ∷ []) ++ taken) (length rest) ≡ Some x
get_last rest taken x = slice_get-append_kept (rest ++ x ∷ []) taken (length rest) x (slice_get_push_last rest x)

-- the last lane that is left
pub taking_at : (plan : Plan) (all left rest : List LaneIs) (x : LaneIs) (trails : List (Vec Fate Global)) → Taking plan all left trails → left ≡ rest ++ x ∷ [] → slice_get all (length rest) ≡ Some x
taking_at plan all left rest x trails t is =
    ap (λ (xs : List LaneIs). slice_get xs (length rest)) (sym t.all_are ∙ ap (λ (xs : List LaneIs). xs ++ t.taken) is) ∙ get_last rest t.taken x

as_many : (plan : Plan) (r : ℕ) (xs : List LaneIs) (ts : List (Vec Fate Global)) → ToldFrom plan r xs ts → length ts ≡ length xs
as_many plan r [] [] told = refl
as_many plan r [] (t ∷ ts) told = absurd told
as_many plan r (x ∷ xs) [] told = absurd told
as_many plan r (x ∷ xs) (t ∷ ts) told = ap suc (as_many plan (suc r) xs ts told.1)

lane_from : (plan : Plan) (r : ℕ) (xs : List LaneIs) (ts : List (Vec Fate Global)) → ToldFrom plan r xs ts → (i : ℕ) (lane : LaneIs) → slice_get xs i ≡ Some lane → IsLaneOf plan (r + i) lane
lane_from plan r [] ts told i lane at = absurd (not_in_empty i lane at)
lane_from plan r (x ∷ xs) [] told i lane at = absurd told
lane_from plan r (x ∷ xs) (t ∷ ts) told zero lane at = let same : r ≡ r + 0 = omega arith in subst (λ n. IsLaneOf plan n lane) same (subst (IsLaneOf plan r) (same_Some x lane at) told.0.0)
lane_from plan r (x ∷ xs) (t ∷ ts) told (suc i) lane at = let same : suc r + i ≡ r + suc i = omega arith in subst (λ n. IsLaneOf plan n lane) same (lane_from plan (suc r) xs ts told.1 i lane at)

trail_from : (plan : Plan) (r : ℕ) (xs : List LaneIs) (ts : List (Vec Fate Global)) → ToldFrom plan r xs ts → (i : ℕ) (lane : LaneIs) (trail : Vec Fate Global) → slice_get xs i ≡ Some lane →
    slice_get ts i ≡ Some trail → IsTrailOf lane trail.items
trail_from plan r [] ts told i lane trail at there = absurd (not_in_empty i lane at)
trail_from plan r (x ∷ xs) [] told i lane trail at there = absurd told
trail_from plan r (x ∷ xs) (t ∷ ts) told zero lane trail at there = subst (λ (b : Vec Fate Global). IsTrailOf lane b.items) (same_Some t trail there)
    (subst (λ (a : LaneIs). IsTrailOf a t.items) (same_Some x lane at) told.0.1)
trail_from plan r (x ∷ xs) (t ∷ ts) told (suc i) lane trail at there = trail_from plan (suc r) xs ts told.1 i lane trail at there

-- all trails were taken
pub tells_all : (plan : Plan) (all left : List LaneIs) (trails : List (Vec Fate Global)) (told : Vec (Vec Fate Global) Global) → Taking plan all left trails → length left ≡ 0 →
    told.items ≡ reverse trails → length all ≡ process_count plan → Tell plan all (Some told)
tells_all plan all left trails told t empty turned count =
    let none = nil_from_length left empty in
    let same : t.taken ≡ all = ap (λ (xs : List LaneIs). xs ++ t.taken) (sym none) ∙ t.all_are in
    let from = subst (λ (xs : List LaneIs). ToldFrom plan (length xs) t.taken (reverse trails)) none t.told in
    let whole : ToldFrom plan 0 all told.items = subst (ToldFrom plan 0 all) (sym turned) (subst (λ xs. ToldFrom plan 0 xs (reverse trails)) same from) in
    record {
      some = (
        λ _. record {
          count = count;
          each = λ r lane at. (let zero_more : 0 + r ≡ r = omega arith in
              subst (λ n. IsLaneOf plan n lane) zero_more (lane_from plan 0 all told.items whole r lane at));
        },
        λ _ e. none-some told (sym e),
      );
      trails = record { count = as_many plan 0 all told.items whole; each = trail_from plan 0 all told.items whole };
    }

-- they aren't the lanes of the plan
pub tells_none : (plan : Plan) (all : List LaneIs) → (AreLanesOf plan all → ⊥) → Tell plan all None
tells_none plan all others = record { some = (λ ne. absurd (ne refl), λ are. absurd (others are)); trails = tt }

-- what lanes tell is trails of the plan
pub told_trails : (plan : Plan) (count : ℕ) (told : Option (Vec (Vec Fate Global) Global)) → IsToldByLanes plan count told → IfSome told (λ trails. AreTrails plan trails.items)
told_trails plan count None by = tt
told_trails plan count (Some told) by =
    let lanes = by.lanes in
    let are = by.tell.some.0 (λ e. none-some told (sym e)) in
    let its = by.tell.trails in
    record {
      count = its.count ∙ are.count;
      each = λ r trail at. elim (slice_get_cases lanes r).1 [
        | inl there ↦ subst (AreFates plan r) (sym (its.each r there.0 trail there.2 at).is) (are.each r there.0 there.2).fates
        | inr past ↦ absurd (let within = slice_get_within told.items r trail at in let long = its.count in let p = past.0 in omega (arith, within, long, p))
      ];
    }

pub told_count : (plan : Plan) (count : ℕ) (told : Option (Vec (Vec Fate Global) Global)) → IsToldByLanes plan count told → IfSome told (λ trails. length trails.items ≡ count)
told_count plan count None by = tt
told_count plan count (Some told) by = by.tell.trails.count ∙ by.unlocked.as_many

-- the r-th of them is the trail of a lane of rank r
pub told_of_lanes : (plan : Plan) (count : ℕ) (told : Option (Vec (Vec Fate Global) Global)) → IsToldByLanes plan count told → IfSome told (λ trails. AreLaneTrails trails.items)
told_of_lanes plan count None by = tt
told_of_lanes plan count (Some told) by =
    let lanes = by.lanes in
    let are = by.tell.some.0 (λ e. none-some told (sym e)) in
    let its = by.tell.trails in
    λ r trail at. elim (slice_get_cases lanes r).1 [
      | inl there ↦ record {
        lane = there.0;
        rank_is = (are.each r there.0 there.2).rank_is;
        keeps = All-at IsTrail lanes r there.0 there.2 by.unlocked.keep;
        is = (its.each r there.0 trail there.2 at).is;
      }
      | inr past ↦ absurd (let within = slice_get_within told.items r trail at in let long = its.count in let p = past.0 in omega (arith, within, long, p))
    ]

-- lanes that were taken from under locks, the last one first
pub unlocked_turned : (count : ℕ) (lanes turned : List LaneIs) → All IsTrail lanes → turned ≡ reverse lanes → length lanes ≡ count → AreUnlocked count turned
unlocked_turned count lanes turned keep is as_many = record {
  as_many = ap length is ∙ length-reverse lanes ∙ as_many;
  keep = All-same IsTrail turned (reverse lanes) is (All-reverse IsTrail lanes keep);
}

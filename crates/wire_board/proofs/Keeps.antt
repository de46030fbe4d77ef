-- Each kind of step keeps the rule.
use Rattle.std.proofs.Common.{◌≡◌, ◌≢◌, ℕ, zero, suc, ◌+◌, ◌<◌, ◌≤◌, ◌==◌, Bool, List, [], ◌∷◌, ◌++◌, length, map, take, drop, replicate, set, get_or, refl, sym, ap, ◌∙◌, subst, ⊎_elim, eq-eqb}
use Rattle.std.proofs.Common.{zero-add, arith, length-set, get_or-set_same, get_or-set_other}
use Rattle.std.specs.Prelude.{if◌then◌else◌}
use Rattle.std.proofs.lemmas.List.{set-get_or, length-replicate}
use Rattle.std.proofs.lemmas.Bool.Decides.{nat_tests}
use mathlib.Core.Option.{some, none, some-ne-none, some-injective}
use lib.ListN.{get_elem?}
use Rattle.atomic_table.specs.Table.{Me, step, keeps, opening, Allows, Splits, Joins}
use Rattle.atomic_table.proofs.Lists.{at_set, at_snoc}
use Rattle.wire_runs.proofs.Lists.{set_raises}
use Rattle.wire_scripts.specs.Scripts.{Scripts}
use Rattle.wire_scripts.specs.Planned.{plan_of}
use Rattle.wire_board.specs.declared.hold.Hold.{Hold}
use Rattle.wire_board.specs.Cuts.{procs_of}
use Rattle.wire_board.specs.Positions.{hold, HoldFits, Each, count_of, owners_of, IsKeptBoard, holds_from, opening_view, learn, Learns, Stored, ImpliesNextIn}
use Rattle.wire_board.proofs.Cuts.{cut_start, AreTold, reaches}

-- Lists of numbers

set_reads : (xs ys : List ℕ) (k j : ℕ) → length xs ≡ length ys → get_or xs j 0 ≡ get_or ys j 0 → get_or (set xs k (get_or ys k 0)) j 0 ≡ get_or ys j 0
set_reads [] [] k j l e = e
set_reads [] (y ∷ ys) k j l e = absurd (omega arith)
set_reads (x ∷ xs) [] k j l e = absurd (omega arith)
set_reads (x ∷ xs) (y ∷ ys) zero zero l e = refl
set_reads (x ∷ xs) (y ∷ ys) zero (suc j) l e = e
set_reads (x ∷ xs) (y ∷ ys) (suc k) zero l e = e
set_reads (x ∷ xs) (y ∷ ys) (suc k) (suc j) l e = set_reads xs ys k j (omega arith) e

set_below : (xs ys : List ℕ) (k j n : ℕ) → length xs ≡ length ys → get_or xs j 0 ≤ get_or ys j 0 → get_or (set xs k n) j 0 ≤ get_or (set ys k n) j 0
set_below [] [] k j n l e = e
set_below [] (y ∷ ys) k j n l e = absurd (omega arith)
set_below (x ∷ xs) [] k j n l e = absurd (omega arith)
set_below (x ∷ xs) (y ∷ ys) zero zero n l e = omega arith
set_below (x ∷ xs) (y ∷ ys) zero (suc j) n l e = e
set_below (x ∷ xs) (y ∷ ys) (suc k) zero n l e = e
set_below (x ∷ xs) (y ∷ ys) (suc k) (suc j) n l e = set_below xs ys k j n (omega arith) e

-- Counting owners

ones : (a b : ℕ) → ◌≡◌ {A = ℕ} (if a == b then 1 else 0) 0 → a ≢ b
ones a b z e = let c : ◌≡◌ {A = ℕ} 1 0 = subst (λ (t : Bool). ◌≡◌ {A = ℕ} (if t then 1 else 0) 0) (eq-eqb a b e) z in absurd (omega arith)

count_append : (r : ℕ) (xs ys : List Hold) → count_of r (xs ++ ys) ≡ count_of r xs + count_of r ys
count_append r [] ys = sym (zero-add (count_of r ys))
count_append r (h ∷ hs) ys = let e = count_append r hs ys in omega arith

owners_append : (r : ℕ) (xs ys : List (List Hold)) → owners_of r (xs ++ ys) ≡ owners_of r xs + owners_of r ys
owners_append r [] ys = sym (zero-add (owners_of r ys))
owners_append r (v ∷ vs) ys = let e = owners_append r vs ys in omega arith

owners_set : (r : ℕ) (views : List (List Hold)) (i : ℕ) (v w : List Hold) → get_elem? views i ≡ some v → owners_of r (set views i w) + count_of r v ≡ owners_of r views + count_of r w
owners_set r [] i v w e = absurd (some-ne-none v (sym e))
owners_set r (x ∷ xs) zero v w e = let c : count_of r x ≡ count_of r v = ap (count_of r) (some-injective x v e) in omega arith
owners_set r (x ∷ xs) (suc i) v w e = let h = owners_set r xs i v w e in omega arith

owners_has : (r : ℕ) (views : List (List Hold)) (i : ℕ) (v : List Hold) → get_elem? views i ≡ some v → count_of r v ≤ owners_of r views
owners_has r [] i v e = absurd (some-ne-none v (sym e))
owners_has r (x ∷ xs) zero v e = let c : count_of r x ≡ count_of r v = ap (count_of r) (some-injective x v e) in omega arith
owners_has r (x ∷ xs) (suc i) v e = let h = owners_has r xs i v e in omega arith

-- who owns a rank is the only one
alone : (r : ℕ) (views : List (List Hold)) (i j : ℕ) (v u : List Hold) → owners_of r views ≤ 1 → get_elem? views i ≡ some v → 1 ≤ count_of r v → j ≢ i → get_elem? views j ≡ some u → count_of r u ≡ 0
alone r views i j v u one at has apart there =
    let s = owners_set r views i v [] at in
    let o = owners_has r (set views i []) j u (there_still views i j u apart there) in
    omega arith
  where
    there_still : (views : List (List Hold)) (i j : ℕ) (u : List Hold) → j ≢ i → get_elem? views j ≡ some u → get_elem? (set views i []) j ≡ some u
    there_still [] i j u n e = e
    there_still (x ∷ xs) zero zero u n e = absurd (n refl)
    there_still (x ∷ xs) zero (suc j) u n e = e
    there_still (x ∷ xs) (suc i) zero u n e = e
    there_still (x ∷ xs) (suc i) (suc j) u n e = there_still xs i j u (λ q. n (ap suc q)) e

-- Each

each_map : (P Q : Hold → Type 0) (f : Hold → Hold) → ((h : Hold) → P h → Q (f h)) → (v : List Hold) → Each P v → Each Q (map f v)
each_map P Q f go [] e = tt
each_map P Q f go (h ∷ hs) e = (go h e.0, each_map P Q f go hs e.1)

each_weaker : (P Q : Hold → Type 0) → ((h : Hold) → P h → Q h) → (v : List Hold) → Each P v → Each Q v
each_weaker P Q go [] e = tt
each_weaker P Q go (h ∷ hs) e = (go h e.0, each_weaker P Q go hs e.1)

each_append : (P : Hold → Type 0) (v w : List Hold) → Each P v → Each P w → Each P (v ++ w)
each_append P [] w e f = f
each_append P (h ∷ hs) w e f = (e.0, each_append P hs w e.1 f)

each_take : (P : Hold → Type 0) (v : List Hold) → Each P v → Each P (take 1 v)
each_take P [] e = tt
each_take P (h ∷ hs) e = (e.0, tt)

each_drop : (P : Hold → Type 0) (v : List Hold) → Each P v → Each P (drop 1 v)
each_drop P [] e = tt
each_drop P (h ∷ hs) e = e.1

count_map : (r k n : ℕ) (v : List Hold) → count_of r (map (learn k n) v) ≡ count_of r v
count_map r k n [] = refl
count_map r k n (h ∷ hs) = ap (λ (c : ℕ). (if h.rank == r then 1 else 0) + c) (count_map r k n hs)

-- one view changed
fits_set : (P : List Hold → Type 0) (views : List (List Hold)) (by : ℕ) (w : List Hold) → ((j : ℕ) (u : List Hold) → j ≢ by → get_elem? views j ≡ some u → P u) → P w → (j : ℕ) (u : List Hold) →
    get_elem? (set views by w) j ≡ some u → P u
fits_set P views by w others mine j u e =
    ⊎_elim
    (λ (x : (j ≡ by) × (w ≡ u)). subst P x.1 mine)
    (λ (x : (j ≢ by) × (get_elem? views j ≡ some u)). others j u x.0 x.1)
    (at_set views by j w u e)

-- K1, a load

fits_learn : (plan : Scripts) (words : List ℕ) (k : ℕ) (h : Hold) → HoldFits plan words h → HoldFits plan words (learn k (get_or words k 0) h)
fits_learn plan words k h f = record {
  same = f.same;
  here = f.here;
  size = length-set h.known k (get_or words k 0) ∙ f.size;
  place = set_reads h.known words k h.rank f.size f.place;
  below = λ j. below j;
}
  where
    same_below : (xs ys : List ℕ) (k j : ℕ) → length xs ≡ length ys → get_or xs j 0 ≤ get_or ys j 0 → get_or (set xs k (get_or ys k 0)) j 0 ≤ get_or ys j 0
    same_below xs ys k j l e = subst (λ (zs : List ℕ). get_or (set xs k (get_or ys k 0)) j 0 ≤ get_or zs j 0) (set-get_or ys k 0) (set_below xs ys k j (get_or ys k 0) l e)

    below : (j : ℕ) → get_or (set h.known k (get_or words k 0)) j 0 ≤ get_or words j 0
    below j = same_below h.known words k j f.size (f.below j)

pub loads : {S : Type 0} (plan : Scripts) (slots id word : ℕ) (m : Me S (List Hold)) → Allows (IsKeptBoard {S = S} plan) slots id m word (λ n. n) (Learns (step slots word 0 0 none) m)
loads {S} plan slots id word m s kept sized at small =
    let n = get_or s.words word 0 in
    let w = map (learn word n) m.0 in
    let mine = kept.fits id m.0 at in
    let now : IsKeptBoard plan record { words = s.words; homes = s.homes; views = set s.views id w } = record {
      cut = kept.cut;
      fits = fits_set (Each (HoldFits plan s.words)) s.views id w (λ j u apart e. kept.fits j u e)
          (each_map (HoldFits plan s.words) (HoldFits plan s.words) (learn word n) (fits_learn plan s.words word) m.0 mine);
      apart = λ r. let o = owners_set r s.views id m.0 w at in let c = count_map r word n m.0 in let one = kept.apart r in omega arith;
    } in
    let P : List ℕ → Type 0 = λ ws. IsKeptBoard {S = S} plan record { words = ws; homes = s.homes; views = set s.views id w } in (
      w,
      keeps,
      tt,
      subst P (sym (set-get_or s.words word 0)) now,
      (
        refl,
        each_weaker (HoldFits plan s.words) (λ h. (get_or h.known word 0 ≤ n) × (word ≡ h.rank → n ≡ get_or h.known word 0))
            (λ h f. (f.below word, λ (e : word ≡ h.rank). sym (subst (λ r. get_or h.known r 0 ≡ get_or s.words r 0) (sym e) f.place))) m.0 mine,
      ),
    )

-- K2, a store to one's own word

fits_move : (plan : Scripts) (words : List ℕ) (h : Hold) (n : ℕ) → HoldFits plan words h → HoldFits plan (set words h.rank n) (learn h.rank n h)
fits_move plan words h n f = record {
  same = f.same;
  here = let l = length-set words h.rank n in let b = f.here in omega arith;
  size = length-set h.known h.rank n ∙ (f.size ∙ sym (length-set words h.rank n));
  place = get_or-set_same h.known h.rank n 0 (let l = f.size in let b = f.here in omega arith) ∙ sym (get_or-set_same words h.rank n 0 f.here);
  below = λ j. set_below h.known words h.rank j n f.size (f.below j);
}

fits_other : (plan : Scripts) (words : List ℕ) (k n : ℕ) (h : Hold) → h.rank ≢ k → get_or words k 0 ≤ n → HoldFits plan words h → HoldFits plan (set words k n) h
fits_other plan words k n h apart up f = record {
  same = f.same;
  here = let l = length-set words k n in let b = f.here in omega arith;
  size = f.size ∙ sym (length-set words k n);
  place = f.place ∙ sym (get_or-set_other words k h.rank n 0 apart);
  below = λ j. let a = f.below j in let b = set_raises words k n up j in omega arith;
}

each_other : (plan : Scripts) (words : List ℕ) (k n : ℕ) → get_or words k 0 ≤ n → (v : List Hold) → count_of k v ≡ 0 → Each (HoldFits plan words) v → Each (HoldFits plan (set words k n)) v
each_other plan words k n up [] nobody e = tt
each_other plan words k n up (h ∷ hs) nobody e = (fits_other plan words k n h (ones h.rank k (omega arith)) up e.0, each_other plan words k n up hs (omega arith) e.1)

pub stores : {S : Type 0} (plan : Scripts) (slots id : ℕ) (h : Hold) (carried : List (ℕ × S)) → AreTold (plan_of plan) → ImpliesNextIn (plan_of plan) h
    → Allows (IsKeptBoard {S = S} plan) slots id (h ∷ [], carried) h.rank (λ _. get_or h.known h.rank 0 + 1)
    (λ _. Stored (step slots h.rank (get_or h.known h.rank 0 + 1) 0 none) (h ∷ [], carried) (get_or h.known h.rank 0 + 1))
stores {S} plan slots id h carried told shown s kept sized at small =
    let n = get_or h.known h.rank 0 + 1 in
    let w = learn h.rank n h ∷ [] in
    let mine = (kept.fits id (h ∷ []) at).0 in
    let owns : 1 ≤ count_of h.rank (h ∷ []) = let c : ◌≡◌ {A = ℕ} (if h.rank == h.rank then 1 else 0) 1 = ap (λ (t : Bool). if t then 1 else 0) (eq-eqb h.rank h.rank refl) in omega arith in
    let up : get_or s.words h.rank 0 ≤ n = let p = mine.place in omega arith in (
      w,
      keeps,
      tt,
      record {
        cut = reaches plan s.words h told kept.cut mine shown;
        fits = fits_set (Each (HoldFits plan (set s.words h.rank n))) s.views id w
            (λ j u apart e. each_other plan s.words h.rank n up u (alone h.rank s.views id j (h ∷ []) u (kept.apart h.rank) at owns apart e) (kept.fits j u e))
            (fits_move plan s.words h n mine, tt);
        apart = λ r. let o = owners_set r s.views id (h ∷ []) w at in let c = count_map r h.rank n (h ∷ []) in let one = kept.apart r in omega arith;
      },
      (refl, omega (arith, owns), (λ _. refl, tt)),
    )

-- K3, a split

count_cut : (r : ℕ) (v : List Hold) → count_of r (take 1 v) + count_of r (drop 1 v) ≡ count_of r v
count_cut r [] = refl
count_cut r (h ∷ hs) = omega arith

pub splits : {S : Type 0} (plan : Scripts) (id : ℕ) (v : List Hold) → Splits (IsKeptBoard {S = S} plan) id v (drop 1 v) (take 1 v)
splits plan id v s kept at =
    let mine = kept.fits id v at in
    record {
      cut = kept.cut;
      fits = λ j u e. ⊎_elim
          (λ was. fits_set (Each (HoldFits plan s.words)) s.views id (drop 1 v) (λ i y _ f. kept.fits i y f) (each_drop (HoldFits plan s.words) v mine) j u was)
          (λ (same : take 1 v ≡ u). subst (Each (HoldFits plan s.words)) same (each_take (HoldFits plan s.words) v mine))
          (at_snoc (set s.views id (drop 1 v)) (take 1 v) u j e);
      apart = λ r.
          let a = owners_append r (set s.views id (drop 1 v)) (take 1 v ∷ []) in
          let o = owners_set r s.views id v (drop 1 v) at in
          let c = count_cut r v in
          let one = kept.apart r in
          omega arith;
    }

-- K4, a join

pub joins : {S : Type 0} (plan : Scripts) (id : ℕ) (v : List Hold) (other : ℕ) (w : List Hold) → Joins (IsKeptBoard {S = S} plan) id v other w (w ++ v) []
joins plan id v other w s kept at apart there =
    let both = w ++ v in
    let Fine : List Hold → Type 0 = Each (HoldFits plan s.words) in
    let was : get_elem? s.views other ≡ some w = ⊎_elim (λ (t : (other ≡ id) × (both ≡ w)). absurd (apart t.0)) (λ (t : (other ≢ id) × (get_elem? s.views other ≡ some w)). t.1)
    (at_set s.views id other both w there) in
    let mine = kept.fits id v at in
    let theirs = kept.fits other w was in
    let first = fits_set Fine s.views id both (λ j u _ e. kept.fits j u e) (each_append (HoldFits plan s.words) w v theirs mine) in
    record {
      cut = kept.cut;
      fits = fits_set Fine (set s.views id both) other [] (λ j u _ e. first j u e) tt;
      apart = λ r.
          let a = owners_set r s.views id v both at in
          let b = owners_set r (set s.views id both) other w [] there in
          let c = count_append r w v in
          let one = kept.apart r in
          omega arith;
    }

-- the table's making

fits_zero : (plan : Scripts) (r : ℕ) → r < procs_of plan → HoldFits plan (replicate (procs_of plan) 0) (hold plan r (replicate (procs_of plan) 0))
fits_zero plan r in_plan = record {
  same = refl;
  here = let l : length (replicate {A = ℕ} (procs_of plan) 0) ≡ procs_of plan = length-replicate (procs_of plan) 0 in omega arith;
  size = refl;
  place = refl;
  below = λ k. omega arith;
}

each_zero : (plan : Scripts) (r n : ℕ) → r + n ≤ procs_of plan → Each (HoldFits plan (replicate (procs_of plan) 0)) (holds_from plan r n)
each_zero plan r zero in_plan = tt
each_zero plan r (suc n) in_plan = (fits_zero plan r (omega arith), each_zero plan (suc r) n (omega arith))

one_each : (plan : Scripts) (k r n : ℕ) → (count_of k (holds_from plan r n) ≤ 1) × (k < r → count_of k (holds_from plan r n) ≡ 0)
one_each plan k r zero = (omega arith, λ _. refl)
one_each plan k r (suc n) = let h = one_each plan k (suc r) n in grind (arith, nat_tests)

pub opens : {S : Type 0} (plan : Scripts) (words : List ℕ) → words ≡ replicate (procs_of plan) 0 → IsKeptBoard {S = S} plan (opening words [] (opening_view plan))
opens {S} plan words zeros = let P : List ℕ → Type 0 = λ ws. IsKeptBoard {S = S} plan (opening ws [] (opening_view plan)) in subst P (sym zeros) record {
  cut = cut_start (plan_of plan) (procs_of plan);
  fits = one;
  apart = λ r. let h = (one_each plan r 0 (procs_of plan)).0 in omega arith;
}
  where
    one : (j : ℕ) (v : List Hold) → get_elem? (opening_view plan ∷ []) j ≡ some v → Each (HoldFits plan (replicate (procs_of plan) 0)) v
    one zero v e = subst (Each (HoldFits plan (replicate (procs_of plan) 0))) (some-injective _ _ e) (each_zero plan 0 (procs_of plan) (omega arith))
    one (suc j) v e = absurd (some-ne-none v (sym e))

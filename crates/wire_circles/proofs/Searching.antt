-- What each move of a search keeps, and what is so at its end.
use Rattle.std.proofs.Common.{◌≡◌, ◌≢◌, ◌∙◌, ◌<◌, ◌≤◌, ◌-◌, ◌+◌, ℕ, suc, zero, List, [], ◌∷◌, ◌++◌, length, slice_index, sym, ap, subst, arith, inl, inr, refl, drop, map, length-drop}
use Rattle.std.specs.Prelude.{Vec}
use Rattle.std.specs.declared.alloc.Global.{Global}
use Rattle.std.proofs.lemmas.List.{get_or-drop}
use Rattle.std.proofs.lemmas.Bool.{cases_eq, cases_lt}
use Rattle.std.specs.List.{Contains}
use Rattle.wire_circles.specs.Circles.{IsCircle, waited_by}
use Rattle.wire_circles.specs.Search.{ChainsEnd, ends, IsChain, IsSearch, EndsPath, Lowers, MayGoOn}
use Rattle.wire_circles.proofs.Lists.{contains_at, place_in, index_before, index_last, longer}

-- no circle leads through one of whom each chain ends
pub not_around : (Waits : ℕ → ℕ → Type 0) (circle : List ℕ) → IsCircle Waits circle → (p i : ℕ) → ChainsEnd Waits p → i < length circle → slice_index circle i ≡ p → ⊥
not_around Waits circle around p i (ends each) low is = elim (cases_eq (suc i) (length circle)) [
  | inl last ↦ not_around Waits circle around (slice_index circle 0) 0
      (each (slice_index circle 0) (subst (λ x. Waits x (slice_index circle 0)) is (subst (λ k. Waits (slice_index circle k) (slice_index circle 0)) (omega (arith, last)) around.closed)))
      around.some refl
  | inr more ↦ not_around Waits circle around (slice_index circle (suc i)) (suc i)
      (each (slice_index circle (suc i)) (subst (λ x. Waits x (slice_index circle (suc i))) is (around.each i (omega (arith, low, more)))))
      (omega (arith, low, more)) refl
]

pub zero_stays : (old new : ℕ → ℕ) (p q : ℕ) → Lowers old new p → old q ≡ 0 → new q ≡ 0
zero_stays old new p q lowers is = elim (cases_eq q p) [
  | inl e ↦ let h : old p ≡ 0 = subst (λ x. old x ≡ 0) e is in omega (arith, h, lowers.here)
  | inr ne ↦ lowers.others q ne ∙ is
]

pub most_lowered : (lists : ℕ → List ℕ) (old new : ℕ → ℕ) (path : List ℕ) (p : ℕ) → IsSearch lists old path → Lowers old new p → (q : ℕ) → new q ≤ length (lists q) + 2
most_lowered lists old new path p search lowers q = elim (cases_eq q p) [
  | inl e ↦ let h : new p ≤ length (lists p) + 2 = omega (arith, search.most p, lowers.here) in subst (λ x. new x ≤ length (lists x) + 2) (sym e) h
  | inr ne ↦ omega (arith, search.most q, lowers.others q ne)
]

-- one more is looked at: it is done with
pub passed : (lists : ℕ → List ℕ) (old new : ℕ → ℕ) (path : List ℕ) (p : ℕ) → IsSearch lists old path → Lowers old new p → EndsPath path p → 2 ≤ old p →
    old (slice_index (lists p) (old p - 2)) ≡ 0 → IsSearch lists new path
passed lists old new path p search lowers last more done =
    let on : Contains path p = contains_at path (length path - 1) p (omega (arith, last.0)) last.1 in
    let few : old p ≤ length (lists p) + 1 = subst (λ x. old x ≤ length (lists x) + 1) last.1 ((search.unfinished (length path - 1) (omega (arith, last.0))).1) in
    record {
      most = most_lowered lists old new path p search lowers;
      looked = λ q i low within. elim (cases_eq q p) [
        | inl e ↦
            let low' : new p ≤ suc i = subst (λ x. new x ≤ suc i) e low in
            let within' : i < length (lists p) = subst (λ x. i < length (lists x)) e within in
            subst (λ x. new (slice_index (lists x) i) ≡ 0) (sym e) (elim (cases_eq i (old p - 2)) [
              | inl here ↦ zero_stays old new p (slice_index (lists p) i) lowers (subst (λ k. old (slice_index (lists p) k) ≡ 0) (sym here) done)
              | inr other ↦ zero_stays old new p (slice_index (lists p) i) lowers (search.looked p i (omega (arith, low', other, more, lowers.here)) within')
            ])
        | inr ne ↦ zero_stays old new p (slice_index (lists q) i) lowers (search.looked q i (omega (arith, low, lowers.others q ne)) within)
      ];
      ended = λ q none. elim (cases_eq q p) [
        | inl e ↦ let h : new p ≡ 0 = subst (λ x. new x ≡ 0) e none in absurd (omega (arith, h, more, lowers.here))
        | inr ne ↦ search.ended q (sym (lowers.others q ne) ∙ none)
      ];
      met = λ q some low. elim (cases_eq q p) [
        | inl e ↦ subst (Contains path) (sym e) on
        | inr ne ↦ search.met q (omega (arith, some, lowers.others q ne)) (omega (arith, low, lowers.others q ne))
      ];
      unfinished = λ k within. elim (cases_eq (slice_index path k) p) [
        | inl e ↦
            let h : (0 < new p) × (new p ≤ length (lists p) + 1) = (omega (arith, more, lowers.here), omega (arith, few, lowers.here)) in
            subst (λ x. (0 < new x) × (new x ≤ length (lists x) + 1)) (sym e) h
        | inr ne ↦ subst (λ n. (0 < n) × (n ≤ length (lists (slice_index path k)) + 1)) (sym (lowers.others (slice_index path k) ne)) (search.unfinished k within)
      ];
      chain = search.chain;
    }

-- the path without its end, with whom the search is done
pub finished : (lists : ℕ → List ℕ) (old new : ℕ → ℕ) (path : List ℕ) (p : ℕ) → IsSearch lists old (path ++ p ∷ []) → Lowers old new p → old p ≡ 1 → IsSearch lists new path
finished lists old new path p search lowers one =
    let longer_by : length (path ++ p ∷ []) ≡ length path + 1 = longer path p in
    record {
      most = most_lowered lists old new (path ++ p ∷ []) p search lowers;
      looked = λ q i low within. elim (cases_eq q p) [
        | inl e ↦
            let within' : i < length (lists p) = subst (λ x. i < length (lists x)) e within in
            subst (λ x. new (slice_index (lists x) i) ≡ 0) (sym e) (zero_stays old new p (slice_index (lists p) i) lowers (search.looked p i (omega (arith, one)) within'))
        | inr ne ↦ zero_stays old new p (slice_index (lists q) i) lowers (search.looked q i (omega (arith, low, lowers.others q ne)) within)
      ];
      ended = λ q none. elim (cases_eq q p) [
        | inl e ↦ subst (ChainsEnd (λ x y. Contains (lists x) y)) (sym e) (ends (λ r contains.
            let at : (k : ℕ) × (k < length (lists p)) × (slice_index (lists p) k ≡ r) = place_in (lists p) r contains in
            search.ended r (subst (λ x. old x ≡ 0) at.2 (search.looked p at.0 (omega (arith, one)) at.1))))
        | inr ne ↦ search.ended q (sym (lowers.others q ne) ∙ none)
      ];
      met = λ q some low. elim (cases_eq q p) [
        | inl e ↦ let h : 0 < new p = subst (λ x. 0 < new x) e some in absurd (omega (arith, h, one, lowers.here))
        | inr ne ↦
            let at : (k : ℕ) × (k < length (path ++ p ∷ [])) × (slice_index (path ++ p ∷ []) k ≡ q)
            = place_in (path ++ p ∷ []) q (search.met q (omega (arith, some, lowers.others q ne)) (omega (arith, low, lowers.others q ne))) in
            elim (cases_lt at.0 (length path)) [
              | inl before ↦ contains_at path at.0 q before (sym (index_before path p at.0 before) ∙ at.2)
              | inr after ↦ absurd (ne (sym at.2 ∙ index_last path p at.0 (omega (arith, after, at.1, longer_by))))
            ]
      ];
      unfinished = λ k within.
          let same : slice_index (path ++ p ∷ []) k ≡ slice_index path k = index_before path p k within in
          let ne : slice_index path k ≢ p = λ e. search.chain.once k (length path) within (omega (arith, longer_by)) (same ∙ e ∙ sym (index_last path p (length path) refl)) in
          let was : (0 < old (slice_index path k)) × (old (slice_index path k) ≤ length (lists (slice_index path k)) + 1)
          = subst (λ x. (0 < old x) × (old x ≤ length (lists x) + 1)) same (search.unfinished k (omega (arith, within, longer_by))) in
          subst (λ n. (0 < n) × (n ≤ length (lists (slice_index path k)) + 1)) (sym (lowers.others (slice_index path k) ne)) was;
      chain = record {
        next = λ k within.
            let a : slice_index (path ++ p ∷ []) k ≡ slice_index path k = index_before path p k (omega (arith, within)) in
            let b : slice_index (path ++ p ∷ []) (suc k) ≡ slice_index path (suc k) = index_before path p (suc k) within in
            subst (λ y. Contains (lists (slice_index path k)) y) b (subst (λ x. Contains (lists x) (slice_index (path ++ p ∷ []) (suc k))) a (search.chain.next k (omega (arith, within, longer_by))));
        once = λ i j below within e.
            search.chain.once i j below (omega (arith, within, longer_by)) (index_before path p i (omega (arith, below, within)) ∙ e ∙ sym (index_before path p j within));
      };
    }

-- the path with one more
pub entered : (lists : ℕ → List ℕ) (old new : ℕ → ℕ) (path : List ℕ) (q : ℕ) → IsSearch lists old path → Lowers old new q → old q ≡ length (lists q) + 2 →
    MayGoOn lists path q → IsSearch lists new (path ++ q ∷ [])
entered lists old new path q search lowers whole may =
    let longer_by : length (path ++ q ∷ []) ≡ length path + 1 = longer path q in
    let apart : (k : ℕ) → k < length path → slice_index path k ≢ q = λ k within e.
    let h : old q ≤ length (lists q) + 1 = subst (λ x. old x ≤ length (lists x) + 1) e ((search.unfinished k within).1) in omega (arith, h, whole) in
    record {
      most = most_lowered lists old new path q search lowers;
      looked = λ x i low within. elim (cases_eq x q) [
        | inl e ↦
            let low' : new q ≤ suc i = subst (λ y. new y ≤ suc i) e low in
            let within' : i < length (lists q) = subst (λ y. i < length (lists y)) e within in
            absurd (omega (arith, low', within', whole, lowers.here))
        | inr ne ↦ zero_stays old new q (slice_index (lists x) i) lowers (search.looked x i (omega (arith, low, lowers.others x ne)) within)
      ];
      ended = λ x none. elim (cases_eq x q) [
        | inl e ↦ let h : new q ≡ 0 = subst (λ y. new y ≡ 0) e none in absurd (omega (arith, h, whole, lowers.here))
        | inr ne ↦ search.ended x (sym (lowers.others x ne) ∙ none)
      ];
      met = λ x some low. elim (cases_eq x q) [
        | inl e ↦ contains_at (path ++ q ∷ []) (length path) x (omega (arith, longer_by)) (index_last path q (length path) refl ∙ sym e)
        | inr ne ↦
            let at : (k : ℕ) × (k < length path) × (slice_index path k ≡ x)
            = place_in path x (search.met x (omega (arith, some, lowers.others x ne)) (omega (arith, low, lowers.others x ne))) in
            contains_at (path ++ q ∷ []) at.0 x (omega (arith, at.1, longer_by)) (index_before path q at.0 at.1 ∙ at.2)
      ];
      unfinished = λ k within. elim (cases_lt k (length path)) [
        | inl before ↦
            let x = slice_index path k in
            let was : (0 < new x) × (new x ≤ length (lists x) + 1)
            = subst (λ n. (0 < n) × (n ≤ length (lists x) + 1)) (sym (lowers.others x (apart k before))) (search.unfinished k before) in
            subst (λ y. (0 < new y) × (new y ≤ length (lists y) + 1)) (sym (index_before path q k before)) was
        | inr after ↦
            let h : (0 < new q) × (new q ≤ length (lists q) + 1) = (omega (arith, whole, lowers.here), omega (arith, whole, lowers.here)) in
            subst (λ y. (0 < new y) × (new y ≤ length (lists y) + 1)) (sym (index_last path q k (omega (arith, after, within, longer_by)))) h
      ];
      chain = record {
        next = λ k within.
            let a : slice_index (path ++ q ∷ []) k ≡ slice_index path k = index_before path q k (omega (arith, within, longer_by)) in
            subst (λ x. Contains (lists x) (slice_index (path ++ q ∷ []) (suc k))) (sym a) (elim (cases_lt (suc k) (length path)) [
              | inl before ↦ subst (Contains (lists (slice_index path k))) (sym (index_before path q (suc k) before)) (search.chain.next k before)
              | inr after ↦
                  let end : k ≡ length path - 1 = omega (arith, after, within, longer_by) in
                  subst (Contains (lists (slice_index path k))) (sym (index_last path q (suc k) (omega (arith, after, within, longer_by))))
                  (subst (λ i. Contains (lists (slice_index path i)) q) (sym end) (may (omega (arith, after, within, longer_by))))
            ]);
        once = λ i j below within e. elim (cases_lt j (length path)) [
          | inl before ↦ search.chain.once i j below before (sym (index_before path q i (omega (arith, below, before))) ∙ e ∙ index_before path q j before)
          | inr after ↦ apart i (omega (arith, below, within, longer_by))
              (sym (index_before path q i (omega (arith, below, within, longer_by))) ∙ e ∙ index_last path q j (omega (arith, after, within, longer_by)))
        ];
      };
    }

-- where the path is empty, whoever was met is done with
pub nobody_open : (lists : ℕ → List ℕ) (left : ℕ → ℕ) → IsSearch lists left [] → (p : ℕ) → left p ≤ length (lists p) + 1 → left p ≡ 0
nobody_open lists left search p low = elim (cases_eq (left p) 0) [
  | inl none ↦ none
  | inr some ↦ let at : (k : ℕ) × (k < 0) × (slice_index [] k ≡ p) = place_in [] p (search.met p (omega (arith, some)) low) in absurd (omega (arith, at.1))
]

-- the circle from its first on
pub closes : (lists : ℕ → List ℕ) (path : List ℕ) (place first : ℕ) → IsChain lists path → place < length path → slice_index path place ≡ first →
    Contains (lists (slice_index path (length path - 1))) first → IsCircle (λ x y. Contains (lists x) y) (drop place path)
closes lists path place first chain within there closed =
    let size : length (drop place path) ≡ length path - place = length-drop place path in
    let at : (i : ℕ) → slice_index (drop place path) i ≡ slice_index path (place + i) = λ i. get_or-drop place path i 0 in
    record {
      some = omega (arith, size, within);
      each = λ i low.
          let next : place + suc i ≡ suc (place + i) = omega arith in
          subst (λ x. Contains (lists x) (slice_index (drop place path) (suc i))) (sym (at i)) (subst (Contains (lists (slice_index path (place + i))))
          (sym (at (suc i) ∙ ap (slice_index path) next)) (chain.next (place + i) (omega (arith, low, size))));
      closed =
          let end : place + (length (drop place path) - 1) ≡ length path - 1 = omega (arith, size, within) in
          let begin : place + 0 ≡ place = omega arith in
          subst (λ x. Contains (lists x) (slice_index (drop place path) 0)) (sym (at (length (drop place path) - 1) ∙ ap (slice_index path) end))
          (subst (Contains (lists (slice_index path (length path - 1)))) (sym (at 0 ∙ ap (slice_index path) begin ∙ there)) closed);
      once = λ i j below low e. chain.once (place + i) (place + j) (omega (arith, below)) (omega (arith, low, size)) (sym (at i) ∙ e ∙ at j);
    }

-- where each chain ends there is no circle
pub no_circle : (Waits : ℕ → ℕ → Type 0) → ((p : ℕ) → ChainsEnd Waits p) → (circle : List ℕ) → IsCircle Waits circle → ⊥
no_circle Waits ended circle around = not_around Waits circle around (slice_index circle 0) 0 (ended (slice_index circle 0)) around.some refl

pub whole_of : (waits : List (Vec ℕ Global)) (p : ℕ) → p < length waits → slice_index (map (λ list. length list.items + 2) waits) p ≡ length (waited_by waits p) + 2
whole_of [] p low = absurd (omega (arith, low))
whole_of (list ∷ rest) zero low = refl
whole_of (list ∷ rest) (suc p) low = whole_of rest p (omega (arith, low))

pub past_of : (waits : List (Vec ℕ Global)) (p : ℕ) → length waits ≤ p → (slice_index (map (λ list. length list.items + 2) waits) p ≡ 0) × (waited_by waits p ≡ [])
past_of [] p low = (refl, refl)
past_of (list ∷ rest) zero low = absurd (omega (arith, low))
past_of (list ∷ rest) (suc p) low = past_of rest p (omega (arith, low))

-- a search that begins
pub begun : (waits : List (Vec ℕ Global)) → IsSearch (waited_by waits) (slice_index (map (λ list. length list.items + 2) waits)) []
begun waits = record {
  most = λ p. elim (cases_lt p (length waits)) [
    | inl low ↦ omega (arith, whole_of waits p low)
    | inr past ↦ omega (arith, (past_of waits p past).0)
  ];
  looked = λ p i low within. elim (cases_lt p (length waits)) [
    | inl there ↦ absurd (omega (arith, whole_of waits p there, low, within))
    | inr past ↦ let h : i < 0 = subst (λ list. i < length list) (past_of waits p past).1 within in absurd (omega (arith, h))
  ];
  ended = λ p none. elim (cases_lt p (length waits)) [
    | inl there ↦ absurd (omega (arith, whole_of waits p there, none))
    | inr past ↦ ends (λ q contains. let at : (k : ℕ) × (k < 0) × (slice_index [] k ≡ q) = place_in [] q (subst (λ list. Contains list q) (past_of waits p past).1 contains) in absurd (omega (arith, at.1)))
  ];
  met = λ p some low. elim (cases_lt p (length waits)) [
    | inl there ↦ absurd (omega (arith, whole_of waits p there, low))
    | inr past ↦ absurd (omega (arith, (past_of waits p past).0, some))
  ];
  unfinished = λ k within. absurd (omega (arith, within));
  chain = record {
    next = λ k within. absurd (omega (arith, within));
    once = λ i j below within e. omega (arith, within);
  };
}

-- The distinct labels have each label, each once.
use Rattle.std.proofs.Common.{◌≡◌, ◌∙◌, Bool, true, false, cond, ◌||◌, List, [], ◌∷◌, ◌++◌, fold, inl, inr, refl, sym, ap}
use Rattle.std.specs.Cmp.{IsEquivalence}
use Rattle.std.specs.List.{list_any}
use Rattle.std.proofs.lemmas.Bool.{cases_Bool, or_parts}
use Rattle.std.proofs.lemmas.List.Sums.{fold-append}
use Rattle.indexmap.specs.IndexSet.{insert_key}
use Rattle.wire_report.specs.Tally.{distinct}

module _ {K : Type 0} (same : K → K → Bool) where
  -- none equals one that follows it
  abbrev pub AreApart : List K → Type 0
  AreApart [] = Unit {0}
  AreApart (k ∷ ks) = (list_any (same k) ks ≡ false) × AreApart ks

  -- each has one that equals it among these labels
  abbrev pub AreAmong : List K → List K → Type 0
  AreAmong labels [] = Unit {0}
  AreAmong labels (k ∷ ks) = (list_any (same k) labels ≡ true) × AreAmong labels ks

  any_push : (test : K → Bool) (ks : List K) (k : K) → list_any test (ks ++ k ∷ []) ≡ (list_any test ks || test k)
  any_push test [] k = or_false (test k)
    where
      or_false : (b : Bool) → (b || false) ≡ b
      or_false true = refl
      or_false false = refl
  any_push test (x ∷ ks) k = ap (λ b. test x || b) (any_push test ks k) ∙ or_assoc (test x) (list_any test ks) (test k)
    where
      or_assoc : (a b c : Bool) → (a || (b || c)) ≡ ((a || b) || c)
      or_assoc true b c = refl
      or_assoc false b c = refl

  pub distinct_push : (labels : List K) (k : K) → distinct same (labels ++ k ∷ []) ≡ insert_key same (distinct same labels) k
  distinct_push labels k = fold-append (insert_key same) [] labels (k ∷ [])

  module _ (laws : IsEquivalence same) where
    any_alike : (x y : K) → same x y ≡ true → (ks : List K) → list_any (same x) ks ≡ list_any (same y) ks
    any_alike x y alike [] = refl
    any_alike x y alike (k ∷ ks) = λ i. laws.congr x y k alike i || any_alike x y alike ks i

    any_insert : (ks : List K) (x k : K) → list_any (same x) (insert_key same ks k) ≡ (list_any (same x) ks || same x k)
    any_insert ks x k = elim (cases_Bool (list_any (same k) ks)) [
      | inl t ↦ ap (λ b. list_any (same x) (cond b ks (ks ++ k ∷ []))) t ∙ there t (same x k) refl
      | inr f ↦ ap (λ b. list_any (same x) (cond b ks (ks ++ k ∷ []))) f ∙ any_push (same x) ks k
    ]
      where
        there : list_any (same k) ks ≡ true → (b : Bool) → same x k ≡ b → list_any (same x) ks ≡ (list_any (same x) ks || b)
        there t true e = any_alike x k e ks ∙ t ∙ sym (or_true (list_any (same x) ks))
          where
            or_true : (b : Bool) → (b || true) ≡ true
            or_true true = refl
            or_true false = refl
        there t false e = or_false (list_any (same x) ks)
          where
            or_false : (b : Bool) → b ≡ (b || false)
            or_false true = refl
            or_false false = refl

    any_fold : (labels acc : List K) (x : K) → list_any (same x) (fold (insert_key same) acc labels) ≡ (list_any (same x) acc || list_any (same x) labels)
    any_fold [] acc x = or_false (list_any (same x) acc)
      where
        or_false : (b : Bool) → b ≡ (b || false)
        or_false true = refl
        or_false false = refl
    any_fold (k ∷ labels) acc x = any_fold labels (insert_key same acc k) x ∙ ap (λ b. b || list_any (same x) labels) (any_insert acc x k)
        ∙ or_assoc (list_any (same x) acc) (same x k) (list_any (same x) labels)
      where
        or_assoc : (a b c : Bool) → ((a || b) || c) ≡ (a || (b || c))
        or_assoc true b c = refl
        or_assoc false b c = refl

    -- a label is among the distinct labels exactly where it is among the labels
    pub any_distinct : (labels : List K) (x : K) → list_any (same x) (distinct same labels) ≡ list_any (same x) labels
    any_distinct labels x = any_fold labels [] x

    apart_push : (ks : List K) (k : K) → AreApart ks → list_any (same k) ks ≡ false → AreApart (ks ++ k ∷ [])
    apart_push [] k apart none = (refl, tt)
    apart_push (x ∷ ks) k (first, rest) none =
        let parts = or_parts (same k x) (list_any (same k) ks) none in
        (any_push (same x) ks k ∙ ap (λ b. b || same x k) first ∙ laws.symm x k ∙ parts.0, apart_push ks k rest parts.1)

    apart_insert : (ks : List K) (k : K) → AreApart ks → AreApart (insert_key same ks k)
    apart_insert ks k apart = elim (cases_Bool (list_any (same k) ks)) [
      | inl t ↦ rw t apart
      | inr f ↦ rw f (apart_push ks k apart f)
    ]

    apart_fold : (labels acc : List K) → AreApart acc → AreApart (fold (insert_key same) acc labels)
    apart_fold [] acc apart = apart
    apart_fold (k ∷ labels) acc apart = apart_fold labels (insert_key same acc k) (apart_insert acc k apart)

    pub distinct_apart : (labels : List K) → AreApart (distinct same labels)
    distinct_apart labels = apart_fold labels [] tt

    among_more : (x : K) (labels ks : List K) → AreAmong labels ks → AreAmong (x ∷ labels) ks
    among_more x labels [] all = tt
    among_more x labels (k ∷ ks) (first, rest) = (later (same k x) (list_any (same k) labels) first, among_more x labels ks rest)
      where
        later : (a b : Bool) → b ≡ true → (a || b) ≡ true
        later true b e = refl
        later false b e = e

    among_own : (ks : List K) → AreAmong ks ks
    among_own [] = tt
    among_own (k ∷ ks) = (ap (λ b. b || list_any (same k) ks) (laws.refl k), among_more k ks ks (among_own ks))

    among_alike : (labels others : List K) → ((x : K) → list_any (same x) labels ≡ list_any (same x) others) → (ks : List K) → AreAmong labels ks → AreAmong others ks
    among_alike labels others alike [] all = tt
    among_alike labels others alike (k ∷ ks) (first, rest) = (sym (alike k) ∙ first, among_alike labels others alike ks rest)

    pub distinct_among : (labels : List K) → AreAmong labels (distinct same labels)
    distinct_among labels = among_alike (distinct same labels) labels (any_distinct labels) (distinct same labels) (among_own (distinct same labels))

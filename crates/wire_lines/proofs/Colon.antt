-- The first colon of a word.
use Rattle.std.proofs.Common.{◌≡◌, ap, subst, sym, refl, ℕ, suc, ◌+◌, ◌-◌, ◌<◌, ◌≤◌, List, [], ◌∷◌, ◌++◌, Bool, true, false, cond, Some, None, take, drop, length, arith, length-drop}
use Rattle.std.specs.Prelude.{◌==◌, not, nat_lt, ◌&&◌, ◌||◌, position}
use Rattle.std.specs.List.{prefix_len, list_all}
use borrow.Author.Tests.{ltb-true, ltb-false, eqb-true}
use Rattle.std.proofs.lemmas.List.{take_all}
use Rattle.wire_types.specs.Said.{is_name_byte, is_word_byte}

abbrev pub colon : ℕ → Bool
colon b = b == 58

abbrev pub plain : ℕ → Bool
plain b = not (b == 58)

module _ (s : ℕ) where
  -- a text with the byte s, cut at the first
  pub cut_parts : (bs : List ℕ) → prefix_len (λ b. not (b == s)) bs < length bs
      → bs ≡ take (prefix_len (λ b. not (b == s)) bs) bs ++ s ∷ drop (prefix_len (λ b. not (b == s)) bs + 1) bs
  cut_parts [] = λ h. absurd (omega arith)
  cut_parts (b ∷ bs) =
      elim (b == s) as (λ t. (b == s) ≡ t → cond (not t) (1 + prefix_len (λ b. not (b == s)) bs) 0 < length (b ∷ bs) → b ∷ bs ≡ take (cond (not t) (1 + prefix_len (λ b. not (b == s)) bs) 0) (b ∷ bs)
      ++ s ∷ drop (cond (not t) (1 + prefix_len (λ b. not (b == s)) bs) 0 + 1) (b ∷ bs)) [
        | true ↦ λ e h. ap (λ x. x ∷ bs) (eqb-true _ _ e)
        | false ↦ λ e h.
            let one : 1 + prefix_len (λ b. not (b == s)) bs ≡ suc (prefix_len (λ b. not (b == s)) bs) = omega arith in
            let two : 1 + prefix_len (λ b. not (b == s)) bs + 1 ≡ suc (prefix_len (λ b. not (b == s)) bs + 1) = omega arith in
            rw (two, one) (ap (λ t. b ∷ t) (cut_parts bs (omega arith)))
      ] refl

-- what stands before the first colon has none
no_colon : (bs : List ℕ) → list_all plain (take (prefix_len plain bs) bs) ≡ true
no_colon [] = refl
no_colon (b ∷ bs) =
    elim (b == 58) as (λ t. (b == 58) ≡ t → list_all plain (take (cond (not t) (1 + prefix_len plain bs) 0) (b ∷ bs)) ≡ true) [
      | true ↦ λ e. refl
      | false ↦ λ e.
          let one : 1 + prefix_len plain bs ≡ suc (prefix_len plain bs) = omega arith in
          rw (one, e) (no_colon bs)
    ] refl

-- a word with a colon somewhere has a first one
some_colon : (xs ys : List ℕ) → prefix_len plain (xs ++ 58 ∷ ys) < length (xs ++ 58 ∷ ys)
some_colon [] ys = omega arith
some_colon (x ∷ xs) ys =
    elim (x == 58) as (λ t. cond (not t) (1 + prefix_len plain (xs ++ 58 ∷ ys)) 0 < length (x ∷ (xs ++ 58 ∷ ys))) [
      | true ↦ omega arith
      | false ↦ let h = some_colon xs ys in omega arith
    ]

found : (bs : List ℕ) (t : Bool) (i : ℕ) → t ≡ nat_lt (prefix_len plain bs) (length bs) → Some i ≡ cond t (Some (prefix_len plain bs)) None → (i ≡ prefix_len plain bs)
    × (prefix_len plain bs < length bs)
found bs true i e s = (let same : i ≡ prefix_len plain bs = cc in same, ltb-true _ _ (sym e))
found bs false i e s = cc

not_found : (bs : List ℕ) (t : Bool) → t ≡ nat_lt (prefix_len plain bs) (length bs) → None ≡ cond t (Some (prefix_len plain bs)) None → length bs ≤ prefix_len plain bs
not_found bs true e s = cc
not_found bs false e s = ltb-false _ _ (sym e)

pub colon_found : (bs : List ℕ) (i : ℕ) → Some i ≡ position colon bs → (bs ≡ take i bs ++ 58 ∷ take (length bs - (i + 1)) (drop (i + 1) bs)) × (list_all plain (take i bs) ≡ true)
colon_found bs i e =
    let h = found bs _ i refl e in
    let all : take (length bs - (i + 1)) (drop (i + 1) bs) ≡ drop (i + 1) bs = take_all _ _ (omega (arith, length-drop (i + 1) bs)) in
    rw (all, h.0) (cut_parts 58 bs h.1, no_colon bs)

pub colon_none : (bs xs ys : List ℕ) → None ≡ position colon bs → bs ≡ xs ++ 58 ∷ ys → ⊥
colon_none bs xs ys e is =
    let short : prefix_len plain bs < length bs = rw is (some_colon xs ys) in
    let long = not_found bs _ refl e in omega arith

pub and_left : (a b : Bool) → (a && b) ≡ true → a ≡ true
and_left true b h = refl
and_left false b h = cc

pub and_right : (a b : Bool) → (a && b) ≡ true → b ≡ true
and_right true b h = h
and_right false b h = cc

-- the bytes of a name are no colons
name_plain : (b : ℕ) → is_name_byte b ≡ true → plain b ≡ true
name_plain b =
    elim (b == 58) as (λ t. (is_word_byte b && not (t || b == 44 || b == 35 || b == 42)) ≡ true → not t ≡ true) [
      | true ↦ λ e. and_right (is_word_byte b) false e
      | false ↦ λ e. refl
    ]

pub names_plain : (xs : List ℕ) → list_all is_name_byte xs ≡ true → list_all plain xs ≡ true
names_plain [] h = refl
names_plain (x ∷ xs) h =
    let head : plain x ≡ true = name_plain x (and_left _ _ h) in
    let rest : list_all plain xs ≡ true = names_plain xs (and_right _ _ h) in
    rw (head, rest) refl

no_plain_colon : (z : ℕ) → 58 ≡ z → plain z ≡ true → ⊥
no_plain_colon z e h = let bad : plain 58 ≡ true = subst (λ n. plain n ≡ true) (sym e) h in cc

-- two cuts at a first colon are one
pub cut_once : (xs ys zs ws : List ℕ) → list_all plain xs ≡ true → list_all plain zs ≡ true → xs ++ 58 ∷ ys ≡ zs ++ 58 ∷ ws → (xs ≡ zs) × (ys ≡ ws)
cut_once [] ys [] ws p q e = (refl, cc)
cut_once [] ys (z ∷ zs) ws p q e = absurd (no_plain_colon z (cc) (and_left _ _ q))
cut_once (x ∷ xs) ys [] ws p q e = absurd (no_plain_colon x (cc) (and_left _ _ p))
cut_once (x ∷ xs) ys (z ∷ zs) ws p q e =
    let heads : x ≡ z = cc in
    let tails : xs ++ 58 ∷ ys ≡ zs ++ 58 ∷ ws = cc in
    let front : xs ≡ zs = (cut_once xs ys zs ws (and_right _ _ p) (and_right _ _ q) tails).0 in
    let more : x ∷ xs ≡ z ∷ zs = cc in
    (more, (cut_once xs ys zs ws (and_right _ _ p) (and_right _ _ q) tails).1)

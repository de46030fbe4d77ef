-- The first opening bracket of a word.
use Rattle.std.proofs.Common.{◌≡◌, subst, sym, refl, ℕ, suc, ◌+◌, ◌-◌, ◌<◌, ◌≤◌, List, [], ◌∷◌, ◌++◌, Bool, true, false, cond, Some, None, take, drop, length, arith, length-drop}
use Rattle.std.specs.Prelude.{◌==◌, not, nat_lt, ◌||◌, position, map}
use Rattle.std.specs.List.{prefix_len, list_all, join_with_byte}
use Rattle.std.proofs.lemmas.List.{take_all}
use borrow.Author.Tests.{ltb-true, ltb-false}
use Rattle.wire_lines.proofs.Colon.{cut_parts, and_left, and_right}
use Rattle.wire_pattern.specs.Lawful.{is_plain_byte, is_base}
use Rattle.wire_pattern_lines.specs.Said.{Key, Proc, spelled_key, is_lawful_key, spelled_proc}

abbrev pub bracket : ℕ → Bool
bracket b = b == 91

abbrev pub closed : ℕ → Bool
closed b = not (b == 91)

no_bracket : (bs : List ℕ) → list_all closed (take (prefix_len closed bs) bs) ≡ true
no_bracket [] = refl
no_bracket (b ∷ bs) =
    elim (b == 91) as (λ t. (b == 91) ≡ t → list_all closed (take (cond (not t) (1 + prefix_len closed bs) 0) (b ∷ bs)) ≡ true) [
      | true ↦ λ e. refl
      | false ↦ λ e.
          let one : 1 + prefix_len closed bs ≡ suc (prefix_len closed bs) = omega arith in
          rw (one, e) (no_bracket bs)
    ] refl

some_bracket : (xs ys : List ℕ) → prefix_len closed (xs ++ 91 ∷ ys) < length (xs ++ 91 ∷ ys)
some_bracket [] ys = omega arith
some_bracket (x ∷ xs) ys =
    elim (x == 91) as (λ t. cond (not t) (1 + prefix_len closed (xs ++ 91 ∷ ys)) 0 < length (x ∷ (xs ++ 91 ∷ ys))) [
      | true ↦ omega arith
      | false ↦ let h = some_bracket xs ys in omega arith
    ]

found : (bs : List ℕ) (t : Bool) (i : ℕ) → t ≡ nat_lt (prefix_len closed bs) (length bs) → Some i ≡ cond t (Some (prefix_len closed bs)) None → (i ≡ prefix_len closed bs)
    × (prefix_len closed bs < length bs)
found bs true i e s = (let same : i ≡ prefix_len closed bs = cc in same, ltb-true _ _ (sym e))
found bs false i e s = cc

not_found : (bs : List ℕ) (t : Bool) → t ≡ nat_lt (prefix_len closed bs) (length bs) → None ≡ cond t (Some (prefix_len closed bs)) None → length bs ≤ prefix_len closed bs
not_found bs true e s = cc
not_found bs false e s = ltb-false _ _ (sym e)

pub bracket_found : (bs : List ℕ) (i : ℕ) → Some i ≡ position bracket bs → (bs ≡ take i bs ++ 91 ∷ take (length bs - (i + 1)) (drop (i + 1) bs)) × (list_all closed (take i bs) ≡ true)
bracket_found bs i e =
    let h = found bs _ i refl e in
    let all : take (length bs - (i + 1)) (drop (i + 1) bs) ≡ drop (i + 1) bs = take_all _ _ (omega (arith, length-drop (i + 1) bs)) in
    rw (all, h.0) (cut_parts 91 bs h.1, no_bracket bs)

pub bracket_none : (bs xs ys : List ℕ) → None ≡ position bracket bs → bs ≡ xs ++ 91 ∷ ys → ⊥
bracket_none bs xs ys e is =
    let short : prefix_len closed bs < length bs = rw is (some_bracket xs ys) in
    let long = not_found bs _ refl e in omega arith

no_closed_bracket : (z : ℕ) → 91 ≡ z → closed z ≡ true → ⊥
no_closed_bracket z e h = let bad : closed 91 ≡ true = subst (λ n. closed n ≡ true) (sym e) h in cc

-- two cuts at a first bracket are one
pub cut_once : (xs ys zs ws : List ℕ) → list_all closed xs ≡ true → list_all closed zs ≡ true → xs ++ 91 ∷ ys ≡ zs ++ 91 ∷ ws → (xs ≡ zs) × (ys ≡ ws)
cut_once [] ys [] ws p q e = (refl, cc)
cut_once [] ys (z ∷ zs) ws p q e = absurd (no_closed_bracket z (cc) (and_left _ _ q))
cut_once (x ∷ xs) ys [] ws p q e = absurd (no_closed_bracket x (cc) (and_left _ _ p))
cut_once (x ∷ xs) ys (z ∷ zs) ws p q e =
    let heads : x ≡ z = cc in
    let tails : xs ++ 91 ∷ ys ≡ zs ++ 91 ∷ ws = cc in
    let front : xs ≡ zs = (cut_once xs ys zs ws (and_right _ _ p) (and_right _ _ q) tails).0 in
    let more : x ∷ xs ≡ z ∷ zs = cc in
    (more, (cut_once xs ys zs ws (and_right _ _ p) (and_right _ _ q) tails).1)

-- two texts that one byte more makes the same are the same
pub last_once : (xs ys : List ℕ) (b : ℕ) → xs ++ b ∷ [] ≡ ys ++ b ∷ [] → xs ≡ ys
last_once [] [] b e = refl
last_once [] (y ∷ []) b e = cc
last_once [] (y ∷ z ∷ ys) b e = cc
last_once (x ∷ []) [] b e = cc
last_once (x ∷ z ∷ xs) [] b e = cc
last_once (x ∷ xs) (y ∷ ys) b e =
    let heads : x ≡ y = cc in
    let tails : xs ++ b ∷ [] ≡ ys ++ b ∷ [] = cc in
    let rest = last_once xs ys b tails in cc

plain_closed : (b : ℕ) → is_plain_byte b ≡ true → closed b ≡ true
plain_closed b =
    elim (b == 91) as (λ t. not (t || b == 93) ≡ true → not t ≡ true) [
      | true ↦ λ e. e
      | false ↦ λ e. refl
    ]

all_closed : (bs : List ℕ) → list_all is_plain_byte bs ≡ true → list_all closed bs ≡ true
all_closed [] h = refl
all_closed (b ∷ bs) h =
    let head : closed b ≡ true = plain_closed b (and_left _ _ h) in
    let rest : list_all closed bs ≡ true = all_closed bs (and_right _ _ h) in
    rw (head, rest) refl

-- a base has no bracket
pub base_closed : (base : List ℕ) → is_base base ≡ true → list_all closed base ≡ true
base_closed base h = all_closed base (and_right _ _ h)

-- a key that something indexes has a bracket
pub key_plain : (word : List ℕ) (k : Key) → ((a b : List ℕ) → word ≡ a ++ 91 ∷ b → ⊥) → word ≡ spelled_key k → (k.indices ≡ []) × (word ≡ k.base)
key_plain word k none e = go k.indices e
  where
    go : (is : List Proc) → word ≡ spelled_key (record { base = k.base; indices = is }) → (is ≡ []) × (word ≡ k.base)
    go [] h = (refl, h)
    go (i ∷ is) h = absurd (none k.base (join_with_byte 44 (map spelled_proc (i ∷ is)) ++ 93 ∷ []) h)

-- what stands in the brackets of a key
pub key_cut : (base text : List ℕ) (k : Key) → list_all closed base ≡ true → is_lawful_key k ≡ true → base ++ 91 ∷ text ≡ spelled_key k
    → (base ≡ k.base) × (0 < length k.indices) × (text ≡ join_with_byte 44 (map spelled_proc k.indices) ++ 93 ∷ [])
key_cut base text k plain lawful e = go k.indices e
  where
    kept : list_all closed k.base ≡ true
    kept = base_closed k.base (and_left _ _ lawful)

    go : (is : List Proc) → base ++ 91 ∷ text ≡ spelled_key (record { base = k.base; indices = is })
        → (base ≡ k.base) × (0 < length is) × (text ≡ join_with_byte 44 (map spelled_proc is) ++ 93 ∷ [])
    go [] h = absurd (bad (k.base) kept (sym h))
      where
        bad : (xs : List ℕ) → list_all closed xs ≡ true → xs ≡ base ++ 91 ∷ text → ⊥
        bad xs p is = bracket_in base xs p is
          where
            bracket_in : (bs xs : List ℕ) → list_all closed xs ≡ true → xs ≡ bs ++ 91 ∷ text → ⊥
            bracket_in [] [] p is = cc
            bracket_in [] (x ∷ xs) p is = no_closed_bracket x (cc) (and_left _ _ p)
            bracket_in (b ∷ bs) [] p is = cc
            bracket_in (b ∷ bs) (x ∷ xs) p is = let rest : xs ≡ bs ++ 91 ∷ text = cc in bracket_in bs xs (and_right _ _ p) rest
    go (i ∷ is) h = let c = cut_once base text k.base (join_with_byte 44 (map spelled_proc (i ∷ is)) ++ 93 ∷ []) plain kept h in (c.0, omega arith, c.1)

-- A table of processes by their texts, filled process by process.
use Rattle.std.proofs.Common.{◌≡◌, ◌∙◌, ap, sym, refl, subst, ℕ, suc, ◌+◌, ◌<◌, inl, inr, Bool, true, false, true≢false, cond, not, List, [], ◌∷◌, ◌++◌, length, take, get_or, add-one, position}
use Rattle.std.proofs.Common.{Option, Some, None, option_map, is_some, if◌then◌else◌, arith, take-suc}
use Rattle.std.specs.Prelude.{nat_lt}
use Rattle.std.specs.Option.{option_or}
use Rattle.std.specs.List.{position_or_len}
use Rattle.std.specs.Str.{bytes_eq}
use Rattle.std.specs.HashMap.{HashMap, get_by, Updates}
use Rattle.std.specs.Map.{lookup, IsKeyTest, AreApart, KeepsOthers}
use Rattle.std.proofs.lemmas.Bool.{cases_Bool}
use Rattle.std.proofs.lemmas.List.{length-take}
use Rattle.std.proofs.lemmas.Slice.Eq.{bytes_eq-Decides}
use Rattle.wire_runs.proofs.Lists.{less_both}
use borrow.Author.Tests.{lt-ltb}

-- the first place is here, or one further than in the rest
position_cons : {X : Type 0} (t : X → Bool) (x : X) (xs : List X) → position t (x ∷ xs) ≡ cond (t x) (Some 0) (option_map suc (position t xs))
position_cons t x xs = go (t x)
  where
    further : (b : Bool) (n : ℕ) → cond b (Some (1 + n)) None ≡ option_map suc (cond b (Some n) None)
    further true n = let e : 1 + n ≡ suc n = omega arith in ap Some e
    further false n = refl

    go : (b : Bool) → cond (nat_lt (cond {A = ℕ} (not b) (1 + position_or_len t xs) 0) (suc (length xs))) (Some (cond {A = ℕ} (not b) (1 + position_or_len t xs) 0)) None
        ≡ cond b (Some 0) (option_map suc (cond (nat_lt (position_or_len t xs) (length xs)) (Some (position_or_len t xs)) None))
    go true = ap (λ b. cond b (Some 0) None) (lt-ltb 0 (suc (length xs)) (omega arith))
    go false =
        ap (λ b. cond b (Some (1 + position_or_len t xs)) None) (less_both (position_or_len t xs) (length xs))
        ∙ further (nat_lt (position_or_len t xs) (length xs)) (position_or_len t xs)

-- one more at the end is found where none was before it
position_push : {X : Type 0} (t : X → Bool) (xs : List X) (x : X) → position t (xs ++ x ∷ []) ≡ option_or (position t xs) (if t x then Some (length xs) else None)
position_push t [] x = position_cons t x []
position_push t (y ∷ ys) x =
    position_cons t y (ys ++ x ∷ [])
    ∙ ap (λ o. cond (t y) (Some 0) (option_map suc o)) (position_push t ys x)
    ∙ go (t y) (position t ys) (t x)
    ∙ ap (λ o. option_or o (if t x then Some (suc (length ys)) else None)) (sym (position_cons t y ys))
  where
    last : (b : Bool) (n : ℕ) → option_map suc (cond b (Some n) None) ≡ cond b (Some (suc n)) None
    last true n = refl
    last false n = refl

    go : (b : Bool) (o : Option ℕ) (c : Bool) → cond b (Some 0) (option_map suc (option_or o (cond c (Some (length ys)) None)))
        ≡ option_or (cond b (Some 0) (option_map suc o)) (cond c (Some (suc (length ys))) None)
    go true o c = refl
    go false None c = last c (length ys)
    go false (Some n) c = refl

-- what is found among one more
pub position_more : {X : Type 0} (t : X → Bool) (xs : List X) (i : ℕ) (d : X) → i < length xs
    → position t (take (i + 1) xs) ≡ option_or (position t (take i xs)) (if t (get_or xs i d) then Some i else None)
position_more t xs i d low =
    let all : length (take i xs) ≡ i = omega (arith, low, length-take i xs) in
    ap (λ n. position t (take n xs)) (add-one i)
    ∙ ap (position t) (take-suc xs i d low)
    ∙ position_push t (take i xs) (get_or xs i d)
    ∙ ap (λ n. option_or (position t (take i xs)) (if t (get_or xs i d) then Some n else None)) all

-- and what a table finds that was given the word of one more
pub position_next : {X : Type 0} (t : X → Bool) (xs : List X) (i : ℕ) (x : X) → i < length xs → x ≡ get_or xs i x → (old new : Option ℕ) (b : Bool) (n : ℕ)
    → old ≡ position t (take i xs) → b ≡ t x → n ≡ i → new ≡ option_or old (if b then Some n else None) → new ≡ position t (take (i + 1) xs)
position_next t xs i x low here old new b n so_far same at e =
    e
    ∙ (λ j. option_or (so_far j) (if same j then Some (at j) else None))
    ∙ ap (λ y. option_or (position t (take i xs)) (if t y then Some i else None)) here
    ∙ sym (position_more t xs i x low)

-- whether two keys have the same bytes
abbrev same_bytes : {K : Type 0} → (K → List ℕ) → K → K → Bool
same_bytes bytes x y = bytes_eq (bytes x) (bytes y)

module _ {K X : Type 0} (bytes : K → List ℕ) where
  kept : (test other : K → Bool) (old new : List (K × X)) → KeepsOthers (same_bytes bytes) test old new → IsKeyTest (same_bytes bytes) other → AreApart test other → lookup other new ≡ lookup other old
  unfolding KeepsOthers
  kept test other old new h = h other

module _ {K X S : Type 0} (bytes : K → List ℕ) where
  -- what a table finds after it was given one key and its value
  pub found_after : (m n : HashMap K X S) (k : K) (v : X) → Updates (same_bytes bytes) m n k (Some v) → (text : List ℕ)
      → get_by (λ q. bytes_eq text (bytes q)) n ≡ (if bytes_eq text (bytes k) then Some v else get_by (λ q. bytes_eq text (bytes q)) m)
  found_after m n k v h text = elim (cases_Bool (bytes_eq text (bytes k))) [
    | inl t ↦ rw t (subst (λ (w : List ℕ). get_by (λ q. bytes_eq w (bytes q)) n ≡ Some v) (sym ((bytes_eq-Decides text (bytes k)).0 t)) h.1)
    | inr f ↦
        rw f (kept bytes (same_bytes bytes k) (λ q. bytes_eq text (bytes q)) m.entries n.entries h.3
        (λ x y e. ap (λ t. bytes_eq t (bytes y)) ((bytes_eq-Decides text (bytes x)).0 e))
        (λ q e. ap (bytes_eq text) (sym ((bytes_eq-Decides (bytes k) (bytes q)).0 e)) ∙ f))
  ]

module _ {X : Type 0} (number : X → ℕ) (text word : List ℕ) where
  -- a word that has a process keeps it
  pub number_stays : (f : List ℕ → Option X) (v : ℕ) → is_some (f word) ≡ true
      → option_map number (f text) ≡ option_or (option_map number (f text)) (if bytes_eq text word then Some v else None)
  number_stays f v there = go (f text) (bytes_eq text word) (λ t. ap (λ w. is_some (f w)) ((bytes_eq-Decides text word).0 t) ∙ there)
    where
      go : (o : Option X) (b : Bool) → (b ≡ true → is_some o ≡ true) → option_map number o ≡ option_or (option_map number o) (cond b (Some v) None)
      go (Some x) b h = refl
      go None false h = refl
      go None true h = absurd (true≢false (sym (h refl)))

  -- a word that has none is given one
  pub number_comes : (f : List ℕ → Option X) (found : Option X) (v : X) → is_some (f word) ≡ false → found ≡ (if bytes_eq text word then Some v else f text)
      → option_map number found ≡ option_or (option_map number (f text)) (if bytes_eq text word then Some (number v) else None)
  number_comes f found v none e = ap (option_map number) e ∙ go (f text) (bytes_eq text word) (λ t. ap (λ w. is_some (f w)) ((bytes_eq-Decides text word).0 t) ∙ none)
    where
      go : (o : Option X) (b : Bool) → (b ≡ true → is_some o ≡ false) → option_map number (cond b (Some v) o) ≡ option_or (option_map number o) (cond b (Some (number v)) None)
      go None true h = refl
      go None false h = refl
      go (Some x) false h = refl
      go (Some x) true h = absurd (true≢false (h refl))

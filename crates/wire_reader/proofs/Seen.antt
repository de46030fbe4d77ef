-- Texts as they are first seen, one by one and at once.
use Rattle.std.proofs.Common.{◌≡◌, ◌∙◌, ap, sym, subst, refl, ℕ, zero, suc, ◌+◌, ◌<◌, ◌≤◌, List, [], ◌∷◌, ◌++◌, Bool, true, false, cond, Some, length, filter, append_assoc, arith}
use Rattle.std.proofs.Common.{true≢false, if◌then◌else◌}
use Rattle.std.specs.Prelude.{not, nat_lt, ◌||◌, slice_get, slice_index_or, ⊤}
use Rattle.std.specs.List.{list_any, position_or_len, flat_map}
use Rattle.std.specs.Str.{bytes_eq}
use Rattle.std.proofs.lemmas.List.{append-nil}
use Rattle.std.proofs.lemmas.List.Folds.{list_any-append}
use Rattle.std.proofs.lemmas.List.Concat.{flat_map-cons}
use Rattle.std.proofs.lemmas.Bool.{lt-ltb, le-ltb}
use Rattle.std.proofs.lemmas.Slice.Eq.{bytes_eq-Decides}
use Rattle.std.proofs.Math.Bool.{or-false, or-true}
use Rattle.wire_runs.proofs.Lists.{less_both}
use Rattle.wire_reader.specs.FirstPass.{is_among, number_or_count}
use Rattle.wire_reader.specs.Reads.{first_seen}
use Rattle.wire_reader.specs.Tabled.{with_text, IsPrefix}

abbrev Texts : Type 0
Texts = List (List ℕ)

same_self : (x : List ℕ) → bytes_eq x x ≡ true
same_self x = (bytes_eq-Decides x x).1 refl

same_is : (x y : List ℕ) → bytes_eq x y ≡ true → x ≡ y
same_is x y e = (bytes_eq-Decides x y).0 e

-- the test is the same both ways
same_swap : (x y : List ℕ) → bytes_eq x y ≡ bytes_eq y x
same_swap x y = elim (bytes_eq x y) as (λ t. bytes_eq x y ≡ t → t ≡ bytes_eq y x) [
  | true ↦ λ e. sym ((bytes_eq-Decides y x).1 (sym (same_is x y e)))
  | false ↦ λ e. other (bytes_eq y x) refl e
] refl
  where
    other : (t : Bool) → bytes_eq y x ≡ t → bytes_eq x y ≡ false → false ≡ t
    other true e f = absurd (true≢false (sym ((bytes_eq-Decides x y).1 (sym (same_is y x e))) ∙ f))
    other false e f = refl

pub alone : (x : List ℕ) → is_among (x ∷ []) x ≡ true
alone x = rw (same_self x) refl

-- the texts of a table with one more
among_push : (t : Texts) (x u : List ℕ) → is_among (t ++ x ∷ []) u ≡ (is_among t u || bytes_eq u x)
among_push t x u = list_any-append (bytes_eq u) t (x ∷ []) ∙ ap (λ b. is_among t u || b) (or-false (bytes_eq u x))

pub among_with : (t : Texts) (x : List ℕ) → is_among (with_text t x) x ≡ true
among_with t x = elim (is_among t x) as (λ b. is_among t x ≡ b → is_among (if b then t else t ++ x ∷ []) x ≡ true) [
  | true ↦ λ e. e
  | false ↦ λ e. among_push t x x ∙ ap (λ b. is_among t x || b) (same_self x) ∙ or-true (is_among t x)
] refl

-- a table with one text more goes on
pub with_goes_on : (t : Texts) (x : List ℕ) → IsPrefix t (with_text t x)
with_goes_on t x = elim (is_among t x) as (λ b. IsPrefix t (if b then t else t ++ x ∷ [])) [
  | true ↦ ([], sym (append-nil t))
  | false ↦ (x ∷ [], refl)
]

pub goes_on_self : (t : Texts) → IsPrefix t t
goes_on_self t = ([], sym (append-nil t))

pub goes_on_more : (t u v : Texts) → IsPrefix t u → IsPrefix u v → IsPrefix t v
goes_on_more t u v a b = (a.0 ++ b.0, b.1 ∙ ap (λ l. l ++ b.0) a.1 ∙ append_assoc t a.0 b.0)

module _ (p : List ℕ → Bool) where
  place_kept : (t more : Texts) → list_any p t ≡ true → position_or_len p (t ++ more) ≡ position_or_len p t
  place_kept [] more h = absurd (true≢false (sym h))
  place_kept (y ∷ ys) more h =
      elim (p y) as (λ b. (b || list_any p ys) ≡ true → cond (not b) (1 + position_or_len p (ys ++ more)) 0 ≡ cond (not b) (1 + position_or_len p ys) 0) [
        | true ↦ λ e. refl
        | false ↦ λ e. ap (λ n. 1 + n) (place_kept ys more e)
      ] h

  place_pushed : (t : Texts) (x : List ℕ) → list_any p t ≡ false → p x ≡ true → position_or_len p (t ++ x ∷ []) ≡ position_or_len p t
  place_pushed [] x none h = rw h refl
  place_pushed (y ∷ ys) x none h =
      elim (p y) as (λ b. (b || list_any p ys) ≡ false → cond (not b) (1 + position_or_len p (ys ++ x ∷ [])) 0 ≡ cond (not b) (1 + position_or_len p ys) 0) [
        | true ↦ λ e. refl
        | false ↦ λ e. ap (λ n. 1 + n) (place_pushed ys x e h)
      ] none

-- a text that is there stays there
pub among_kept : (t later : Texts) (x : List ℕ) → is_among t x ≡ true → IsPrefix t later → is_among later x ≡ true
among_kept t later x h g = rw g.1 (list_any-append (bytes_eq x) t g.0 ∙ rw h refl)

-- a text that is there keeps its number
pub number_kept : (t later : Texts) (x : List ℕ) → is_among t x ≡ true → IsPrefix t later → number_or_count t x ≡ number_or_count later x
number_kept t later x h g = sym (rw g.1 (place_kept (bytes_eq x) t g.0 h))

-- a text that is added gets the number of all before it
pub number_with : (t : Texts) (x : List ℕ) → number_or_count (with_text t x) x ≡ number_or_count t x
number_with t x = elim (is_among t x) as (λ b. is_among t x ≡ b → number_or_count (if b then t else t ++ x ∷ []) x ≡ number_or_count t x) [
  | true ↦ λ e. refl
  | false ↦ λ e. place_pushed (bytes_eq x) t x e (same_self x)
] refl

-- a text that is added goes on with its number
pub number_pushed : (t later : Texts) (x : List ℕ) → is_among t x ≡ false → IsPrefix (t ++ x ∷ []) later → number_or_count t x ≡ number_or_count later x
number_pushed t later x none g =
    sym (place_pushed (bytes_eq x) t x none (same_self x))
    ∙ number_kept (t ++ x ∷ []) later x (among_push t x x ∙ ap (λ b. is_among t x || b) (same_self x) ∙ or-true (is_among t x)) g

-- texts, one by one
abbrev pub texts_after : Texts → Texts → Texts
texts_after t [] = t
texts_after t (x ∷ xs) = texts_after (with_text t x) xs

pub after_both : (t xs ys : Texts) → texts_after t (xs ++ ys) ≡ texts_after (texts_after t xs) ys
after_both t [] ys = refl
after_both t (x ∷ xs) ys = after_both (with_text t x) xs ys

-- what is not in a table yet
abbrev new_in : Texts → Texts → Texts
new_in t xs = filter (λ u. not (is_among t u)) xs

-- a text that is in the table already
drop_known : (t : Texts) (x : List ℕ) (us : Texts) → is_among t x ≡ true → new_in t (filter (λ u. not (bytes_eq x u)) us) ≡ new_in t us
drop_known t x [] h = refl
drop_known t x (u ∷ us) h =
    elim (bytes_eq x u) as (λ b. bytes_eq x u ≡ b → new_in t (if not b then u ∷ filter (λ u. not (bytes_eq x u)) us else filter (λ u. not (bytes_eq x u)) us) ≡ new_in t (u ∷ us)) [
      | true ↦ λ e.
          let known : is_among t u ≡ true = rw (← same_is x u e) h in
          drop_known t x us h ∙ sym (rw known refl)
      | false ↦ λ e. ap (λ l. if not (is_among t u) then u ∷ l else l) (drop_known t x us h)
    ] refl

-- a text that the table gets
drop_pushed : (t : Texts) (x : List ℕ) (us : Texts) → new_in (t ++ x ∷ []) us ≡ new_in t (filter (λ u. not (bytes_eq x u)) us)
drop_pushed t x [] = refl
drop_pushed t x (u ∷ us) =
    ap (λ b. if not b then u ∷ new_in (t ++ x ∷ []) us else new_in (t ++ x ∷ []) us) (among_push t x u ∙ ap (λ b. is_among t u || b) (same_swap u x))
    ∙ elim (bytes_eq x u) as (λ b. (if not (is_among t u || b) then u ∷ new_in (t ++ x ∷ []) us else new_in (t ++ x ∷ []) us) ≡ new_in t
    (if not b then u ∷ filter (λ u. not (bytes_eq x u)) us else filter (λ u. not (bytes_eq x u)) us)) [
      | true ↦ rw (or-true (is_among t u)) (drop_pushed t x us)
      | false ↦ rw (or-false (is_among t u)) (ap (λ l. if not (is_among t u) then u ∷ l else l) (drop_pushed t x us))
    ]

after_first : (t xs : Texts) → texts_after t xs ≡ t ++ new_in t (first_seen xs)
after_first t [] = sym (append-nil t)
after_first t (x ∷ xs) =
    elim (is_among t x) as (λ b. is_among t x ≡ b → texts_after (if b then t else t ++ x ∷ []) xs ≡ t
    ++ (if not b then x ∷ new_in t (filter (λ u. not (bytes_eq x u)) (first_seen xs)) else new_in t (filter (λ u. not (bytes_eq x u)) (first_seen xs)))) [
      | true ↦ λ e. after_first t xs ∙ ap (λ l. t ++ l) (sym (drop_known t x (first_seen xs) e))
      | false ↦ λ e. after_first (t ++ x ∷ []) xs ∙ append_assoc t (x ∷ []) (new_in (t ++ x ∷ []) (first_seen xs)) ∙ ap (λ l. t ++ (x ∷ l)) (drop_pushed t x (first_seen xs))
    ] refl

all_new : (xs : Texts) → new_in [] xs ≡ xs
all_new [] = refl
all_new (x ∷ xs) = ap (λ l. x ∷ l) (all_new xs)

-- added one by one to an empty table, texts stand as first seen
pub seen_at_once : (xs : Texts) → texts_after [] xs ≡ first_seen xs
seen_at_once xs = after_first [] xs ∙ all_new (first_seen xs)

-- each of some texts
abbrev pub Each : (List ℕ → Type 0) → Texts → Type 0
Each P [] = ⊤
Each P (x ∷ xs) = P x × Each P xs

each_filter : (P : List ℕ → Type 0) (f : List ℕ → Bool) (xs : Texts) → Each P xs → Each P (filter f xs)
each_filter P f [] h = h
each_filter P f (x ∷ xs) h = elim (f x) as (λ b. Each P (if b then x ∷ filter f xs else filter f xs)) [
  | true ↦ (h.0, each_filter P f xs h.1)
  | false ↦ each_filter P f xs h.1
]

pub each_seen : (P : List ℕ → Type 0) (xs : Texts) → Each P xs → Each P (first_seen xs)
each_seen P [] h = h
each_seen P (x ∷ xs) h = (h.0, each_filter P (λ u. not (bytes_eq x u)) (first_seen xs) (each_seen P xs h.1))

pub each_both : (P : List ℕ → Type 0) (xs ys : Texts) → Each P xs → Each P ys → Each P (xs ++ ys)
each_both P [] ys h k = k
each_both P (x ∷ xs) ys h k = (h.0, each_both P xs ys h.1 k)

pub each_at : (P : List ℕ → Type 0) (xs : Texts) (n : ℕ) (x : List ℕ) → Each P xs → slice_get xs n ≡ Some x → P x
each_at P [] n x h at = absurd (cc)
each_at P (y ∷ ys) zero x h at = let same : y ≡ x = cc in subst P same h.0
each_at P (y ∷ ys) (suc n) x h at = each_at P ys n x h.1 at

-- no text is there twice
abbrev AreApart : Texts → Type 0
AreApart [] = ⊤
AreApart (x ∷ xs) = (is_among xs x ≡ false) × AreApart xs

filter_none : (x : List ℕ) (f : List ℕ → Bool) (xs : Texts) → is_among xs x ≡ false → is_among (filter f xs) x ≡ false
filter_none x f [] h = refl
filter_none x f (y ∷ ys) h = both (bytes_eq x y) refl h (filter_none x f ys)
  where
    both : (b : Bool) → bytes_eq x y ≡ b → (b || is_among ys x) ≡ false → (is_among ys x ≡ false → is_among (filter f ys) x ≡ false) → is_among (filter f (y ∷ ys)) x ≡ false
    both true e none rest = absurd (true≢false none)
    both false e none rest = elim (f y) as (λ t. is_among (if t then y ∷ filter f ys else filter f ys) x ≡ false) [
      | true ↦ rw e (rest none)
      | false ↦ rest none
    ]

apart_filter : (f : List ℕ → Bool) (xs : Texts) → AreApart xs → AreApart (filter f xs)
apart_filter f [] h = h
apart_filter f (x ∷ xs) h = elim (f x) as (λ t. AreApart (if t then x ∷ filter f xs else filter f xs)) [
  | true ↦ (filter_none x f xs h.0, apart_filter f xs h.1)
  | false ↦ apart_filter f xs h.1
]

dropped : (x : List ℕ) (xs : Texts) → is_among (filter (λ u. not (bytes_eq x u)) xs) x ≡ false
dropped x [] = refl
dropped x (y ∷ ys) = elim (bytes_eq x y) as (λ b. bytes_eq x y ≡ b → is_among (if not b then y ∷ filter (λ u. not (bytes_eq x u)) ys else filter (λ u. not (bytes_eq x u)) ys) x ≡ false) [
  | true ↦ λ e. dropped x ys
  | false ↦ λ e. rw e (dropped x ys)
] refl

pub seen_apart : (xs : Texts) → AreApart (first_seen xs)
seen_apart [] = tt
seen_apart (x ∷ xs) = (dropped x (first_seen xs), apart_filter (λ u. not (bytes_eq x u)) (first_seen xs) (seen_apart xs))

among_at : (xs : Texts) (n : ℕ) (x : List ℕ) → slice_get xs n ≡ Some x → is_among xs x ≡ true
among_at [] n x at = absurd (cc)
among_at (y ∷ ys) zero x at = let same : y ≡ x = cc in let e : bytes_eq x y ≡ true = rw same (same_self x) in rw e refl
among_at (y ∷ ys) (suc n) x at = rw (among_at ys n x at) (or-true (bytes_eq x y))

-- a text that is there once has one number
pub apart_once : (xs : Texts) (m n : ℕ) (x : List ℕ) → AreApart xs → slice_get xs m ≡ Some x → slice_get xs n ≡ Some x → m ≡ n
apart_once [] m n x h a b = absurd (cc)
apart_once (y ∷ ys) zero zero x h a b = refl
apart_once (y ∷ ys) zero (suc n) x h a b = let same : y ≡ x = cc in absurd (true≢false (sym (among_at ys n x b) ∙ (rw same at h.0)))
apart_once (y ∷ ys) (suc m) zero x h a b = let same : y ≡ x = cc in absurd (true≢false (sym (among_at ys m x a) ∙ (rw same at h.0)))
apart_once (y ∷ ys) (suc m) (suc n) x h a b = ap suc (apart_once ys m n x h.1 a b)

-- a text that is among some is first seen
filter_kept : (x y : List ℕ) (xs : Texts) → bytes_eq x y ≡ false → is_among xs x ≡ true → is_among (filter (λ u. not (bytes_eq y u)) xs) x ≡ true
filter_kept x y [] ne h = absurd (true≢false (sym h))
filter_kept x y (z ∷ zs) ne h = both (bytes_eq y z) refl (filter_kept x y zs ne)
  where
    both : (b : Bool) → bytes_eq y z ≡ b → (is_among zs x ≡ true → is_among (filter (λ u. not (bytes_eq y u)) zs) x ≡ true)
        → is_among (if not b then z ∷ filter (λ u. not (bytes_eq y u)) zs else filter (λ u. not (bytes_eq y u)) zs) x ≡ true
    both true e rest =
        let other : bytes_eq x z ≡ false = rw (← same_is y z e) ne in
        rest (rw other at h)
    both false e rest = elim (bytes_eq x z) as (λ t. (t || is_among zs x) ≡ true → (t || is_among (filter (λ u. not (bytes_eq y u)) zs) x) ≡ true) [
      | true ↦ λ k. refl
      | false ↦ λ k. rest k
    ] h

pub seen_among : (xs : Texts) (x : List ℕ) → is_among xs x ≡ true → is_among (first_seen xs) x ≡ true
seen_among [] x h = h
seen_among (y ∷ ys) x h = elim (bytes_eq x y) as (λ t. bytes_eq x y ≡ t → (t || is_among ys x) ≡ true → (t || is_among (filter (λ u. not (bytes_eq y u)) (first_seen ys)) x) ≡ true) [
  | true ↦ λ e k. refl
  | false ↦ λ e k. filter_kept x y (first_seen ys) e (seen_among ys x k)
] refl h

pub among_both_left : (xs ys : Texts) (x : List ℕ) → is_among xs x ≡ true → is_among (xs ++ ys) x ≡ true
among_both_left xs ys x h = list_any-append (bytes_eq x) xs ys ∙ rw h refl

pub among_both_right : (xs ys : Texts) (x : List ℕ) → is_among ys x ≡ true → is_among (xs ++ ys) x ≡ true
among_both_right xs ys x h = list_any-append (bytes_eq x) xs ys ∙ rw h (or-true (is_among xs x))

module _ {A : Type 0} (f : A → Texts) where
  -- what one element gives is among what all give
  pub among_flat : (xs : List A) (i : ℕ) (a : A) (x : List ℕ) → slice_get xs i ≡ Some a → is_among (f a) x ≡ true → is_among (flat_map f xs) x ≡ true
  among_flat [] i a x at h = absurd (cc)
  among_flat (b ∷ bs) zero a x at h = let same : b ≡ a = cc in rw (flat_map-cons f b bs) (among_both_left (f b) (flat_map f bs) x (rw same h))
  among_flat (b ∷ bs) (suc i) a x at h = rw (flat_map-cons f b bs) (among_both_right (f b) (flat_map f bs) x (among_flat bs i a x at h))

  pub each_flat : (P : List ℕ → Type 0) → ((a : A) → Each P (f a)) → (xs : List A) → Each P (flat_map f xs)
  each_flat P h [] = tt
  each_flat P h (b ∷ bs) = rw (flat_map-cons f b bs) (each_both P (f b) (flat_map f bs) (h b) (each_flat P h bs))

-- a text that is among others stands at its number
pub text_at_number : (t : Texts) (x : List ℕ) → is_among t x ≡ true → (number_or_count t x < length t) × (slice_index_or t (number_or_count t x) [] ≡ x)
text_at_number [] x h = absurd (true≢false (sym h))
text_at_number (y ∷ ys) x h = elim (bytes_eq x y) as (λ b. bytes_eq x y ≡ b → (b || is_among ys x) ≡ true
    → (cond (not b) (1 + number_or_count ys x) 0 < length (y ∷ ys)) × (slice_index_or (y ∷ ys) (cond (not b) (1 + number_or_count ys x) 0) [] ≡ x)) [
      | true ↦ λ e k. (omega arith, sym (same_is x y e))
      | false ↦ λ e k.
          let r = text_at_number ys x k in
          let one : 1 + number_or_count ys x ≡ suc (number_or_count ys x) = omega arith in
          (let l = r.0 in omega arith, rw one r.1)
    ] refl h

-- a text is there where its number is below that of all
pub number_below : (names : List (List ℕ)) (x : List ℕ) → nat_lt (number_or_count names x) (length names) ≡ is_among names x
number_below [] x = refl
number_below (y ∷ ys) x = elim (bytes_eq x y) as (λ b. nat_lt (cond (not b) (1 + number_or_count ys x) 0) (length (y ∷ ys)) ≡ (b || is_among ys x)) [
  | true ↦ lt-ltb 0 (length (y ∷ ys)) (omega arith)
  | false ↦ less_both (number_or_count ys x) (length ys) ∙ number_below ys x
]

-- a text whose number is below that of all is there
pub known_below : (t : Texts) (x : List ℕ) (n all : ℕ) → n ≡ number_or_count t x → all ≡ length t → n < all → is_among t x ≡ true
known_below t x n all is len h = sym (number_below t x) ∙ lt-ltb (number_or_count t x) (length t) (omega arith)

-- and one whose number isn't is new
pub new_past : (t : Texts) (x : List ℕ) (n all : ℕ) → n ≡ number_or_count t x → all ≡ length t → all ≤ n → is_among t x ≡ false
new_past t x n all is len h = sym (number_below t x) ∙ le-ltb (number_or_count t x) (length t) (omega arith)

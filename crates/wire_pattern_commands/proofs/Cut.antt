-- A part of the word that is cut at its last `=`.
use Rattle.std.proofs.Common.{◌≡◌, ◌∙◌, sym, subst, refl, ℕ, ◌<◌, ◌^◌, List, [], ◌∷◌, ◌++◌, Bool, true, false, decimal, arith, rules}
use Rattle.std.specs.Prelude.{◌==◌, not}
use Rattle.std.specs.List.{list_all}
use Rattle.std.specs.Str.{all_ascii_digits}
use Rattle.std.specs.Char.{is_ascii_digit}
use Rattle.std.proofs.lemmas.Fmt.{decimal_injective}
use Rattle.wire_lines.proofs.Colon.{and_left, and_right}
use Rattle.wire_lines.proofs.Joined.{decimal_digits}
use Rattle.wire_instances.specs.Asked.{Asked}
use Rattle.wire_pattern_commands.specs.Ranks.{asked_text}

abbrev pub plain : ℕ → Bool
plain b = not (b == 61)

digit_plain : (b : ℕ) → is_ascii_digit b ≡ true → plain b ≡ true
digit_plain b =
    elim (b == 61) as (λ t. (b == 61) ≡ t → is_ascii_digit b ≡ true → not t ≡ true) [
      | true ↦ λ e h. search (rules, e)
      | false ↦ λ e h. refl
    ] refl

digits_plain : (xs : List ℕ) → all_ascii_digits xs ≡ true → list_all plain xs ≡ true
digits_plain [] h = refl
digits_plain (x ∷ xs) h =
    let head : plain x ≡ true = digit_plain x (and_left _ _ h) in
    let rest : list_all plain xs ≡ true = digits_plain xs (and_right _ _ h) in
    rw (head, rest) refl

decimal_plain : (n : ℕ) → n < 10 ^ 9 → list_all plain (decimal n) ≡ true
decimal_plain n h = digits_plain (decimal n) (decimal_digits n h)

-- a `=` that stands somewhere
has_equals : (xs ys : List ℕ) → list_all plain (xs ++ 61 ∷ ys) ≡ true → ⊥
has_equals [] ys h = cc
has_equals (x ∷ xs) ys h = has_equals xs ys (and_right _ _ h)

-- two cuts at the last `=` are one
cut_once : (xs ys zs ws : List ℕ) → list_all plain ys ≡ true → list_all plain ws ≡ true → xs ++ 61 ∷ ys ≡ zs ++ 61 ∷ ws → (xs ≡ zs) × (ys ≡ ws)
cut_once [] ys [] ws p q e = (refl, cc)
cut_once [] ys (z ∷ zs) ws p q e =
    let tails : ys ≡ zs ++ 61 ∷ ws = cc in
    absurd (has_equals zs ws (subst (λ t. list_all plain t ≡ true) tails p))
cut_once (x ∷ xs) ys [] ws p q e =
    let tails : ws ≡ xs ++ 61 ∷ ys = cc in
    absurd (has_equals xs ys (subst (λ t. list_all plain t ≡ true) tails q))
cut_once (x ∷ xs) ys (z ∷ zs) ws p q e =
    let heads : x ≡ z = cc in
    let tails : xs ++ 61 ∷ ys ≡ zs ++ 61 ∷ ws = cc in
    let front : xs ≡ zs = (cut_once xs ys zs ws p q tails).0 in
    let more : x ∷ xs ≡ z ∷ zs = cc in
    (more, (cut_once xs ys zs ws p q tails).1)

-- what isn't a number asks for nothing
pub no_number : (part name number : List ℕ) → part ≡ name ++ 61 ∷ number → list_all plain number ≡ true → ((n : ℕ) → n < 10 ^ 9 → number ≡ decimal n → ⊥)
    → (asked : Asked) → asked.count < 10 ^ 9 → part ≡ asked_text asked → ⊥
no_number part name number is last none asked few says =
    none asked.count few (cut_once name number asked.name (decimal asked.count) last (decimal_plain asked.count few) (sym is ∙ says)).1

-- a part asks for one thing
pub asks_once : (part : List ℕ) (a b : Asked) → a.count < 10 ^ 9 → b.count < 10 ^ 9 → part ≡ asked_text a → part ≡ asked_text b → a ≡ b
asks_once part a b few less says also =
    let both = cut_once a.name (decimal a.count) b.name (decimal b.count) (decimal_plain a.count few) (decimal_plain b.count less) (sym says ∙ also) in
    let counts : a.count ≡ b.count = decimal_injective a.count b.count (omega (arith, few)) (omega (arith, less)) both.1 in
    λ t. record { name = both.0 t; count = counts t }

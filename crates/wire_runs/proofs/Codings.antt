-- There is a coding: a word's base and processes, each so many ones and a zero, make a list of bits, and lists of bits are numbered.
use Rattle.std.proofs.Common.{◌≡◌, ℕ, zero, suc, ◌+◌, List, [], ◌∷◌, Bool, true, false, Option, Some, None, refl, sym, ap, ◌∙◌, arith}
use Rattle.std.specs.Prelude.{option_map}
use Rattle.std.proofs.lemmas.Option.{none-some, same_Some}
use Rattle.wire_runs.specs.Patterns.{Coding}

-- lists of bits, one after another
abbrev next : List Bool → List Bool
next [] = false ∷ []
next (false ∷ bits) = true ∷ bits
next (true ∷ bits) = false ∷ next bits

abbrev bits_of : ℕ → List Bool
bits_of zero = []
bits_of (suc n) = next (bits_of n)

abbrev number_of : List Bool → ℕ
number_of [] = 0
number_of (false ∷ bits) = suc (number_of bits + number_of bits)
number_of (true ∷ bits) = suc (suc (number_of bits + number_of bits))

number_next : (bits : List Bool) → number_of (next bits) ≡ suc (number_of bits)
number_next [] = refl
number_next (false ∷ bits) = refl
number_next (true ∷ bits) = let h = number_next bits in omega (arith, h)

number_bits : (n : ℕ) → number_of (bits_of n) ≡ n
number_bits zero = refl
number_bits (suc n) = number_next (bits_of n) ∙ ap suc (number_bits n)

bits_odd : (n : ℕ) → bits_of (suc (n + n)) ≡ false ∷ bits_of n
bits_odd zero = refl
bits_odd (suc n) =
    let s : suc n + suc n ≡ suc (suc (n + n)) = omega arith in
    ap (λ m. bits_of (suc m)) s ∙ ap (λ bits. next (next bits)) (bits_odd n)

bits_number : (bits : List Bool) → bits_of (number_of bits) ≡ bits
bits_number [] = refl
bits_number (false ∷ bits) = bits_odd (number_of bits) ∙ ap (λ bs. false ∷ bs) (bits_number bits)
bits_number (true ∷ bits) = ap next (bits_odd (number_of bits)) ∙ ap (λ bs. true ∷ bs) (bits_number bits)

-- numbers in bits
abbrev ones : ℕ → List Bool → List Bool
ones zero bits = bits
ones (suc n) bits = true ∷ ones n bits

abbrev said : List ℕ → List Bool
said [] = []
said (n ∷ ns) = ones n (false ∷ said ns)

-- the numbers that bits say, after so many ones
abbrev heard : ℕ → List Bool → Option (List ℕ)
heard zero [] = Some []
heard (suc n) [] = None
heard n (true ∷ bits) = heard (suc n) bits
heard n (false ∷ bits) = option_map (λ ns. n ∷ ns) (heard 0 bits)

heard_ones : (m n : ℕ) (bits : List Bool) → heard m (ones n (false ∷ bits)) ≡ option_map (λ ns. (m + n) ∷ ns) (heard 0 bits)
heard_ones zero zero bits = refl
heard_ones (suc m) zero bits = let s : suc m ≡ suc m + 0 = omega arith in ap (λ k. option_map (λ ns. k ∷ ns) (heard 0 bits)) s
heard_ones zero (suc n) bits = let s : 1 + n ≡ 0 + suc n = omega arith in heard_ones 1 n bits ∙ ap (λ k. option_map (λ ns. k ∷ ns) (heard 0 bits)) s
heard_ones (suc m) (suc n) bits =
    let s : suc (suc m) + n ≡ suc m + suc n = omega arith in heard_ones (suc (suc m)) n bits ∙ ap (λ k. option_map (λ ns. k ∷ ns) (heard 0 bits)) s

heard_said : (ns : List ℕ) → heard 0 (said ns) ≡ Some ns
heard_said [] = refl
heard_said (n ∷ ns) =
    let s : 0 + n ≡ n = omega arith in
    heard_ones 0 n (said ns) ∙ ap (λ k. option_map (λ ms. k ∷ ms) (heard 0 (said ns))) s ∙ ap (option_map (λ ms. n ∷ ms)) (heard_said ns)

one_more : (n : ℕ) (bits : List Bool) → ones n (true ∷ bits) ≡ true ∷ ones n bits
one_more zero bits = refl
one_more (suc n) bits = ap (λ bs. true ∷ bs) (one_more n bits)

by_rest : (n : ℕ) (bits : List Bool) (ns : List ℕ) (o : Option (List ℕ)) → heard 0 bits ≡ o → option_map (λ ms. n ∷ ms) o ≡ Some ns →
    ((ms : List ℕ) → heard 0 bits ≡ Some ms → said ms ≡ bits) → said ns ≡ ones n (false ∷ bits)
by_rest n bits ns None is h rest = absurd (none-some ns h)
by_rest n bits ns (Some ms) is h rest = ap said (sym (same_Some _ _ h)) ∙ ap (λ bs. ones n (false ∷ bs)) (rest ms is)

said_heard : (n : ℕ) (bits : List Bool) (ns : List ℕ) → heard n bits ≡ Some ns → said ns ≡ ones n bits
said_heard zero [] ns h = ap said (sym (same_Some _ _ h))
said_heard (suc n) [] ns h = absurd (none-some ns h)
said_heard zero (true ∷ bits) ns h = said_heard 1 bits ns h
said_heard (suc n) (true ∷ bits) ns h = said_heard (suc (suc n)) bits ns h ∙ ap (λ bs. true ∷ bs) (sym (one_more n bits))
said_heard zero (false ∷ bits) ns h = by_rest 0 bits ns (heard 0 bits) refl h (said_heard 0 bits)
said_heard (suc n) (false ∷ bits) ns h = by_rest (suc n) bits ns (heard 0 bits) refl h (said_heard 0 bits)

abbrev first_and_rest : Option (List ℕ) → Option (ℕ × List ℕ)
first_and_rest None = None
first_and_rest (Some []) = None
first_and_rest (Some (n ∷ ns)) = Some (n, ns)

parted : (o : Option (List ℕ)) (base : ℕ) (indices : List ℕ) → first_and_rest o ≡ Some (base, indices) → o ≡ Some (base ∷ indices)
parted None base indices h = absurd (none-some _ h)
parted (Some []) base indices h = absurd (none-some _ h)
parted (Some (n ∷ ns)) base indices h = ap (λ (w : ℕ × List ℕ). Some (w.0 ∷ w.1)) (same_Some _ _ h)

pub have_coding : Coding
have_coding = record {
  code = λ base indices. number_of (said (base ∷ indices));
  decode = λ n. first_and_rest (heard 0 (bits_of n));
  decodes = λ base indices. ap (λ bits. first_and_rest (heard 0 bits)) (bits_number (said (base ∷ indices))) ∙ ap first_and_rest (heard_said (base ∷ indices));
  encodes = λ n base indices h.
      ap number_of (said_heard 0 (bits_of n) (base ∷ indices) (parted (heard 0 (bits_of n)) base indices h)) ∙ number_bits n;
}

-- What a getter of `clap` gives, as the rows of the matches say it.
use Rattle.std.proofs.Common.{◌≡◌, ◌∙◌, ap, sym, refl, List, Option, Some, None, option_map, is_some, Bor, ◌++◌, ◌∷◌, [], map, ℕ, ◌+◌, ◌<◌, append_assoc, arith, drop, get_or, length, suc}
use Rattle.std.specs.List.{flat_map}
use Rattle.std.proofs.Math.Seq.{drop-cons}
use Rattle.std.proofs.lemmas.List.{map-append}
use Rattle.clap.specs.Matches.{first_value}
use Rattle.clap.specs.Walk.{Text, first_of, rows_of}
use Rattle.clap.specs.declared.parser.matches.Found.{Found}
use Rattle.clap.proofs.WalkLemmas.{first_value-rows}

pub word_given : (o : Option (Bor Text)) (found : Found) (name : Text) (w : Option (Bor Text)) → option_map (λ s. s.now) o ≡ first_value found name → o ≡ w →
    first_of name (rows_of found) ≡ option_map (λ s. s.now) w
word_given o found name w is at = sym (first_value-rows found name) ∙ sym is ∙ ap (option_map (λ s. s.now)) at

same_there : (o : Option (Bor Text)) → is_some (option_map (λ s. s.now) o) ≡ is_some o
same_there (Some w) = refl
same_there None = refl

pub is_given : (o : Option (Bor Text)) (found : Found) (name : Text) → option_map (λ s. s.now) o ≡ first_value found name → is_some o ≡ is_some (first_of name (rows_of found))
is_given o found name is = sym (same_there o) ∙ ap is_some (is ∙ first_value-rows found name)

pub added : (old new : List (Bor Text)) (w : Bor Text) → new ≡ old ++ w ∷ [] → map (λ s. s.now) new ≡ map (λ s. s.now) old ++ w.now ∷ []
added old new w is = ap (map (λ s. s.now)) is ∙ map-append (λ s. s.now) old (w ∷ [])

-- what is taken so far, with what the next of some names gives
module _ {A B : Type 0} (f : A → List B) where
  pub taken_on : (xs : List A) (i : ℕ) (none : A) (now next all : List B) → i < length xs → next ≡ now ++ f (get_or xs i none) → now ++ flat_map f (drop i xs) ≡ all
      → next ++ flat_map f (drop (i + 1) xs) ≡ all
  taken_on xs i none now next all there is so_far =
      let after : suc i ≡ i + 1 = omega arith in
      let opened : drop i xs ≡ get_or xs i none ∷ drop (i + 1) xs = drop-cons xs i none there ∙ ap (λ n. get_or xs i none ∷ drop n xs) after in
      let rest = flat_map f (drop (i + 1) xs) in
      ap (λ l. l ++ rest) is ∙ append_assoc now (f (get_or xs i none)) rest ∙ sym (ap (λ l. now ++ flat_map f l) opened) ∙ so_far

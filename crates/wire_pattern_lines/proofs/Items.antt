-- A word that is no process and no job with a star is no item.
use Rattle.std.proofs.Common.{◌≡◌, ◌∙◌, sym, List, [], ◌∷◌, ◌++◌, ℕ, true, append_assoc, codes}
use Rattle.wire_pattern_lines.specs.Said.{Proc, Item, One, Every, spelled_proc, is_lawful_proc, spelled_item, is_lawful_item, is_bare_name}
use Rattle.wire_pattern_lines.proofs.Bracket.{last_once}

pub no_item : (word : List ℕ) → ((p : Proc) → is_lawful_proc p ≡ true → word ≡ spelled_proc p → ⊥) → ((job : List ℕ) → is_bare_name job ≡ true → word ≡ job ++ codes ":*" → ⊥)
    → (i : Item) → is_lawful_item i ≡ true → word ≡ spelled_item i → ⊥
no_item word none star (One p) l e = none p l e
no_item word none star (Every job) l e = star job l e

-- two names that a colon and a star make the same are the same
pub star_once : (xs ys : List ℕ) → xs ++ codes ":*" ≡ ys ++ codes ":*" → xs ≡ ys
star_once xs ys e = last_once xs ys 58 (last_once (xs ++ 58 ∷ []) (ys ++ 58 ∷ []) 42 (append_assoc xs (58 ∷ []) (42 ∷ []) ∙ e ∙ sym (append_assoc ys (58 ∷ []) (42 ∷ []))))

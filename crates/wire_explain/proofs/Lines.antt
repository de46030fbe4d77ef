-- A line whose first word is neither a put nor a fence.
use Rattle.std.proofs.Common.{◌≡◌, subst, ℕ, Bool, true, false, cond, List, Option, codes, true≢false}
use Rattle.std.specs.Prelude.{slice_get}
use Rattle.std.specs.Str.{bytes_eq}
use Rattle.wire_lines.specs.Said.{collect_words}
use Rattle.wire_explain.specs.declared.language.Language.{Language}
use Rattle.wire_explain.specs.Format.{choices, choice_place, format_words, scopes}
use Rattle.wire_explain.specs.Hint.{IsHintFor}
use Rattle.wire_explain.specs.Place.{first_in}

neither : (language : Language) (words : List (List ℕ)) (hint : Option (List ℕ)) (put fence : Bool) → put ≡ false → fence ≡ false → IsHintFor (format_words language) (slice_get words 0) hint →
    IsHintFor (cond put scopes (cond fence (collect_words true) (format_words language))) (slice_get words (cond put 1 (cond fence 2 0))) hint
neither language words hint true fence p f is = absurd (true≢false p)
neither language words hint false true p f is = absurd (true≢false f)
neither language words hint false false p f is = is

pub other_line : (language : Language) (words known : List (List ℕ)) (word hint : Option (List ℕ)) → bytes_eq (first_in words) (codes "put") ≡ false → bytes_eq (first_in words) (codes "fence") ≡ false →
    known ≡ format_words language → word ≡ slice_get words 0 → IsHintFor known word hint → IsHintFor (choices language (first_in words)) (slice_get words (choice_place (first_in words))) hint
other_line language words known word hint put fence all at is =
    neither language words hint (bytes_eq (first_in words) (codes "put")) (bytes_eq (first_in words) (codes "fence")) put fence
    (subst (λ (w : Option (List ℕ)). IsHintFor (format_words language) w hint) at (subst (λ (ws : List (List ℕ)). IsHintFor ws word hint) all is))

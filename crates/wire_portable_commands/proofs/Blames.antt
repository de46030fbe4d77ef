-- The libraries that some line has, and the lines of a rule.
use Rattle.std.proofs.Common.{◌≡◌, ◌∙◌, ap, sym, ℕ, ◌+◌, ◌<◌, ◌≤◌, Bool, List, [], ◌∷◌, ◌++◌, length, take, drop, drop-cons, get_or, add-one, filter}
use Rattle.std.proofs.lemmas.List.{drop_all}
use Rattle.std.proofs.lemmas.List.Elements.{filter_more}
use Rattle.std.proofs.Math.Bool.{or_assoc, or-false}
use Rattle.wire_portable.specs.Libraries.{either, none}
use Rattle.wire_portable.specs.declared.libraries.Libraries.{Libraries}
use Rattle.wire_portable.specs.declared.listed.Unportable.{Unportable}
use Rattle.wire_portable_commands.specs.Words.{blamed_in}

either_none : (s : Libraries) → either s none ≡ s
either_none s = λ k. record { v4 = or-false s.v4 k; v5 = or-false s.v5 k; v7 = or-false s.v7 k }

either_assoc : (s t u : Libraries) → either (either s t) u ≡ either s (either t u)
either_assoc s t u = λ k. record { v4 = or_assoc s.v4 t.v4 u.v4 k; v5 = or_assoc s.v5 t.v5 u.v5 k; v7 = or_assoc s.v7 t.v7 u.v7 k }

opened : {X : Type 0} (xs : List X) (i : ℕ) (d : X) → i < length xs → drop i xs ≡ get_or xs i d ∷ drop (i + 1) xs
opened xs i d there = drop-cons xs i d there ∙ ap (λ m. get_or xs i d ∷ drop m xs) (sym (add-one i))

-- the libraries of one more line
pub blamed_more : (lines : List Unportable) (i : ℕ) (d : Unportable) (old new all : Libraries) → i < length lines → either old (blamed_in (drop i lines)) ≡ all →
    new ≡ either old (get_or lines i d).libraries → either new (blamed_in (drop (i + 1) lines)) ≡ all
blamed_more lines i d old new all there before is =
    ap (λ s. either s (blamed_in (drop (i + 1) lines))) is ∙ either_assoc old (get_or lines i d).libraries (blamed_in (drop (i + 1) lines))
    ∙ ap (λ ls. either old (blamed_in ls)) (sym (opened lines i d there))
    ∙ before

-- where no line is left, they are those of all
pub blamed_all : (lines : List Unportable) (i : ℕ) (now all : Libraries) → length lines ≤ i → either now (blamed_in (drop i lines)) ≡ all → now ≡ all
blamed_all lines i now all past before = sym (either_none now) ∙ ap (λ ls. either now (blamed_in ls)) (sym (drop_all i lines past)) ∙ before

-- one more line, kept where it passes
pub one_kept : {X : Type 0} (p : X → Bool) (xs : List X) (i : ℕ) (d : X) (old new : List X) → i < length xs → old ≡ filter p (take i xs) →
    new ≡ old ++ filter p (get_or xs i d ∷ []) → new ≡ filter p (take (i + 1) xs)
one_kept p xs i d old new there before is = is ∙ ap (λ ys. ys ++ filter p (get_or xs i d ∷ [])) before ∙ sym (filter_more p xs i d there)

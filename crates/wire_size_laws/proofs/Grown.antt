-- A cast with one rank more: a copy of a rank, before it.
use Rattle.std.proofs.Common.{◌≡◌, ℕ, zero, suc, ◌≤◌, ◌<◌, List, [], ◌∷◌, ◌++◌, map, length, length-append, ◌==◌, Some, inl, inr, refl, sym, ap, ◌∙◌, subst, arith, eq-eqb, ne_eqb}
use Rattle.std.specs.Prelude.{slice_get, cond}
use Rattle.std.proofs.lemmas.List.{length-map}
use Rattle.std.proofs.lemmas.Bool.{cond-true, cond-false, cases_eq}
use Rattle.wire_runs.specs.Patterns.{Pattern, Cast, group, IsCastOf}
use Rattle.wire_runs.specs.Restrictions.{back, without, restricted}
use Rattle.wire_runs.proofs.Skip.{back_skip}
use Rattle.wire_pattern_laws.specs.Ordered.{DontFall, HasRolesInOrder}
use Rattle.std.proofs.lemmas.Option.{none-some, same_Some}

abbrev pub with_one : ℕ → ℕ → List ℕ → List ℕ
with_one zero x xs = x ∷ xs
with_one (suc r) x [] = x ∷ []
with_one (suc r) x (y ∷ ys) = y ∷ with_one r x ys

abbrev pub grown : ℕ → ℕ → Cast → Cast
grown r role cast = record {
  roles = with_one r role cast.roles;
  chosen = λ p i e. cast.chosen (back r p) i (back r e);
  nodes = λ p. cast.nodes (back r p);
}

without_with : (r x : ℕ) (xs : List ℕ) → r < length xs → without r (with_one r x xs) ≡ xs
without_with zero x xs lt = refl
without_with (suc r) x [] lt = absurd (omega (arith, lt))
without_with (suc r) x (y ∷ ys) lt = ap (λ zs. y ∷ zs) (without_with r x ys (omega (arith, lt)))

pub one_there : (r x : ℕ) (xs : List ℕ) → r < length xs → slice_get (with_one r x xs) r ≡ Some x
one_there zero x xs lt = refl
one_there (suc r) x [] lt = absurd (omega (arith, lt))
one_there (suc r) x (y ∷ ys) lt = one_there r x ys (omega (arith, lt))

-- without it the cast is as before
pub grown_back : (r role : ℕ) (cast : Cast) → r < length cast.roles → restricted r (grown r role cast) ≡ cast
grown_back r role cast lt =
    let same = without_with r role cast.roles lt in
    λ t. record {
      roles = same t;
      chosen = λ p i e. cast.chosen (back_skip r p t) i (back_skip r e t);
      nodes = λ p. cast.nodes (back_skip r p t);
    }

-- of its role there is one more
pub one_more_of : (r role : ℕ) (roles : List ℕ) → length (group role (with_one r role roles)) ≡ suc (length (group role roles))
one_more_of zero role roles =
    ap (λ ys. length (ys ++ map suc (group role roles))) (cond-true (role == role) (0 ∷ []) [] (eq-eqb role role refl)) ∙ ap suc (length-map (group role roles) suc)
one_more_of (suc r) role [] = ap (λ ys. length (ys ++ [])) (cond-true (role == role) (0 ∷ []) [] (eq-eqb role role refl))
one_more_of (suc r) role (y ∷ ys) =
    let h = one_more_of r role ys in
    let front : List ℕ = cond (y == role) (0 ∷ []) [] in
    let a = length-append front (map suc (group role (with_one r role ys))) in
    let b = length-append front (map suc (group role ys)) in
    let c = length-map (group role (with_one r role ys)) suc in
    let d = length-map (group role ys) suc in
    omega (arith, h, a, b, c, d)

-- of others there are as many
pub as_many_of : (other r role : ℕ) (roles : List ℕ) → (role ≡ other → ⊥) → length (group other (with_one r role roles)) ≡ length (group other roles)
as_many_of other zero role roles ne =
    ap (λ ys. length (ys ++ map suc (group other roles))) (cond-false (role == other) (0 ∷ []) [] (ne_eqb role other ne)) ∙ length-map (group other roles) suc
as_many_of other (suc r) role [] ne = ap (λ ys. length (ys ++ [])) (cond-false (role == other) (0 ∷ []) [] (ne_eqb role other ne))
as_many_of other (suc r) role (y ∷ ys) ne =
    let h = as_many_of other r role ys ne in
    let front : List ℕ = cond (y == other) (0 ∷ []) [] in
    let a = length-append front (map suc (group other (with_one r role ys))) in
    let b = length-append front (map suc (group other ys)) in
    let c = length-map (group other (with_one r role ys)) suc in
    let d = length-map (group other ys) suc in
    omega (arith, h, a, b, c, d)

only_of : (xs : List ℕ) → length xs ≡ 1 → (p : ℕ) × (xs ≡ p ∷ [])
only_of [] h = absurd (omega (arith, h))
only_of (x ∷ []) h = (x, refl)
only_of (x ∷ (y ∷ ys)) h = absurd (omega (arith, h))

-- it is a cast of the pattern, if its role has three already
pub grown_cast : (pattern : Pattern) (cast : Cast) (r role : ℕ) → IsCastOf pattern cast → 3 ≤ length (group role cast.roles) → IsCastOf pattern (grown r role cast)
grown_cast pattern cast r role is three = record {
  only = λ other single. (
      let o = is.only other single in
      let one : length (group other cast.roles) ≡ 1 = ap length o.1 in
      elim (cases_eq role other) [
        | inl s ↦ absurd (let t : 3 ≤ length (group other cast.roles) = subst (λ v. 3 ≤ length (group v cast.roles)) s three in omega (arith, one, t))
        | inr ne ↦ only_of (group other (with_one r role cast.roles)) (as_many_of other r role cast.roles ne ∙ one)
      ]);
}

-- and in order if the cast is
with_one_order : (low r x : ℕ) (xs : List ℕ) → slice_get xs r ≡ Some x → DontFall low xs → DontFall low (with_one r x xs)
with_one_order low r x [] is d = absurd (none-some x is)
with_one_order low zero x (y ∷ ys) is d =
    let same : y ≡ x = same_Some _ _ is in
    (subst (λ v. low ≤ v) same d.0, ((let e = same in omega (arith, e)), d.1))
with_one_order low (suc r) x (y ∷ ys) is d = (d.0, with_one_order y r x ys is d.1)

with_one_get : (r x : ℕ) (xs : List ℕ) → slice_get xs r ≡ Some x → (p : ℕ) → slice_get (with_one r x xs) p ≡ slice_get xs (back r p)
with_one_get r x [] is p = absurd (none-some x is)
with_one_get zero x (y ∷ ys) is zero = sym is
with_one_get zero x (y ∷ ys) is (suc p) = refl
with_one_get (suc r) x (y ∷ ys) is zero = refl
with_one_get (suc r) x (y ∷ ys) is (suc p) = with_one_get r x ys is p

pub grown_order : (bound r role : ℕ) (cast : Cast) → slice_get cast.roles r ≡ Some role → HasRolesInOrder bound cast → HasRolesInOrder bound (grown r role cast)
grown_order bound r role cast plays order = record {
  order = with_one_order 0 r role cast.roles plays order.order;
  below = λ p other is. order.below (back r p) other (sym (with_one_get r role cast.roles plays p) ∙ is);
}

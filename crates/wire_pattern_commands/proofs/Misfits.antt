-- The first part of a word that is wrong.
use Rattle.std.proofs.Common.{◌≡◌, ◌∙◌, ap, sym, subst, ℕ, ◌+◌, ◌<◌, ◌^◌, List, [], ◌∷◌, ◌++◌, true, false, Some, Ok, length, map, take, get_or, arith, Result, IfOk, Option, IfSome, zero, suc, refl}
use Rattle.std.specs.Prelude.{nat_lt, slice_get, ◌&&◌}
use Rattle.std.proofs.lemmas.Bool.{and_parts, lt-ltb}
use Rattle.std.proofs.lemmas.List.{length-map, length-take, take-map}
use Rattle.std.specs.Borrow.{Bor}
use Rattle.wire_types.specs.Texts.{texts_of}
use Rattle.wire_types.specs.declared.Fault.TheVariants.{BadOrder}
use Rattle.wire_pattern.specs.Pattern.{Role}
use Rattle.wire_instances.specs.Asked.{Asked, are_fit}
use Rattle.wire_pattern_commands.specs.Ranks.{are_few, asked_text, IsMisfitPart}
use Rattle.wire_pattern_commands.proofs.Cut.{asks_once}

pub misfit_at : (roles : List Role) (parts : List (List ℕ)) (asked : List Asked) (n : ℕ) (part : List ℕ) → n < length parts → map asked_text asked ≡ take n parts
    → are_few asked ≡ true → slice_get parts n ≡ Some part → are_fit roles asked ≡ true
    → ((a : Asked) → a.count < 10 ^ 9 → part ≡ asked_text a → are_fit roles (asked ++ a ∷ []) ≡ false) → IsMisfitPart roles parts (BadOrder (n + 1))
misfit_at roles parts asked n part there says few here fit misfit =
    let long : length asked ≡ n = omega (arith, there, sym (length-map asked asked_text) ∙ ap length says, length-take n parts) in
    record {
      before = asked;
      part = part;
      begin = record { spelled = ap (λ k. take k parts) long ∙ sym says; few = few };
      here = ap (slice_get parts) long ∙ here;
      fit = fit;
      misfit = misfit;
      is = ap (λ k. BadOrder (k + 1)) (sym long);
    }

-- what is asked for is all that the part can ask for
pub only_misfit : {E : Type 0} (roles : List Role) (old new : List Asked) (one : Asked) (part : List ℕ) (r : Result _ E) → new ≡ old ++ one ∷ [] → part ≡ asked_text one → one.count < 10 ^ 9
    → IfOk r (λ b. b ≡ are_fit roles new) → r ≡ Ok false
    → (a : Asked) → a.count < 10 ^ 9 → part ≡ asked_text a → are_fit roles (old ++ a ∷ []) ≡ false
only_misfit roles old new one part r items says few told is a less also =
    let fit : false ≡ are_fit roles new = subst (λ s. IfOk s (λ b. b ≡ are_fit roles new)) is told in
    let same : one ≡ a = asks_once part one a few less says also in
    ap (λ b. are_fit roles (old ++ b ∷ [])) (sym same) ∙ ap (are_fit roles) (sym items) ∙ sym fit

-- what is known of something that is there
pub told : {A : Type 0} (o : Option A) (a : A) (P : A → Type 0) → o ≡ Some a → IfSome o P → P a
told o a P is known = subst (λ p. IfSome p P) is known

-- parts as borrowed texts
pub part_there : (parts : List (Bor (List ℕ))) (n : ℕ) (d : Bor (List ℕ)) → n < length parts → slice_get (texts_of parts) n ≡ Some (get_or parts n d).now
part_there [] n d h = absurd (omega (arith, h))
part_there (p ∷ ps) zero d h = refl
part_there (p ∷ ps) (suc n) d h = part_there ps n d (omega (arith, h))

pub texts_taken : (parts : List (Bor (List ℕ))) (n : ℕ) (says : List (List ℕ)) → n < length parts → says ≡ texts_of (take n parts)
    → (n < length (texts_of parts)) × (says ≡ take n (texts_of parts))
texts_taken parts n says h is = (omega (arith, h, length-map parts (λ w. w.now)), is ∙ sym (take-map (λ w. w.now) n parts))

-- one more that is asked for
few_behind : (asked : List Asked) (one : Asked) → nat_lt one.count (10 ^ 9) ≡ true → are_few asked ≡ true → are_few (asked ++ one ∷ []) ≡ true
few_behind [] one here h = ap (λ b. b && true) here
few_behind (a ∷ asked) one here h =
    let parts = and_parts (nat_lt a.count (10 ^ 9)) (are_few asked) h in
    ap (λ b. b && are_few (asked ++ one ∷ [])) parts.0 ∙ few_behind asked one here parts.1

pub few_more : (old new : List Asked) (one : Asked) → new ≡ old ++ one ∷ [] → one.count < 10 ^ 9 → are_few old ≡ true → are_few new ≡ true
few_more old new one items less few = ap are_few items ∙ few_behind old one (lt-ltb one.count (10 ^ 9) less) few

-- Counts of loops, one role after the other.
use Rattle.std.proofs.Common.{◌≡◌, ◌∙◌, ap, sym, ℕ, suc, ◌+◌, ◌<◌, ◌≤◌, List, [], ◌∷◌, length, map, drop, drop-cons, get_or, add-one, arith}
use Rattle.std.specs.Prelude.{max, false}
use Rattle.std.proofs.lemmas.List.{get_or-map}
use Rattle.wire_pattern.specs.declared.pattern.Role.{Role as CodeRole}
use Rattle.wire_pattern.specs.Views.{role_by}
use Rattle.wire_pattern.specs.Pattern.{Role}
use Rattle.wire_pattern_later.specs.Through.{group_count, most_through, first_size}

pub max_apart : (a b c : ℕ) → max (max a b) c ≡ max a (max b c)
max_apart a b c = grind arith

pub three_least : (roles : List Role) → 3 ≤ first_size roles
three_least [] = omega arith
three_least (role ∷ roles) = let h = three_least roles in grind (arith, h)

pub max_least : (n m : ℕ) → n ≤ m → max n m ≡ m
max_least n m h = grind (arith, h)

-- any role
abbrev no_role : Role
no_role = record { job = 0; name = []; single = false; least = 0; number = 0; steps = [] }

-- the role of this number, as the code has it
pub role_there : (roles : List Role) (xs : List CodeRole) (n : ℕ) (d : CodeRole) → map role_by xs ≡ roles → n < length xs → d ≡ get_or xs n d
    → role_by d ≡ get_or roles n no_role
role_there roles xs n d is lt got =
    ap role_by got ∙ sym (get_or-map role_by xs n d no_role lt) ∙ ap (λ rs. get_or rs n no_role) is

pub most_step : (roles : List Role) (n : ℕ) (role : Role) (most count now whole : ℕ) → n < length roles → role ≡ get_or roles n no_role
    → count ≡ group_count roles n role → now ≡ max most count
    → max most (most_through roles n (drop n roles)) ≡ whole → max now (most_through roles (n + 1) (drop (n + 1) roles)) ≡ whole
most_step roles n role most count now whole lt there is more inv =
    ap (λ m. max m (most_through roles (n + 1) (drop (n + 1) roles))) (more ∙ ap (max most) is)
    ∙ max_apart most (group_count roles n role) (most_through roles (n + 1) (drop (n + 1) roles))
    ∙ ap (λ m. max most (max (group_count roles n role) (most_through roles m (drop (n + 1) roles)))) (add-one n)
    ∙ ap (λ m. max most (max (group_count roles n role) (most_through roles (suc n) (drop m roles)))) (add-one n)
    ∙ ap (λ r. max most (max (group_count roles n r) (most_through roles (suc n) (drop (suc n) roles)))) there
    ∙ ap (λ rs. max most (most_through roles n rs)) (sym (drop-cons roles n no_role lt)) ∙ inv

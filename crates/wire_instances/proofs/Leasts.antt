-- Sizes that fit are no lower than the least ones, since no two roles have the same name.
use Rattle.std.proofs.Common.{◌≡◌, ◌∙◌, ap, sym, refl, subst, ℕ, zero, suc, ◌<◌, ◌≤◌, true, false, List, [], ◌∷◌, length, map, Some, slice_get, arith, true≢false, if◌then◌else◌}
use Rattle.std.specs.Prelude.{not, nat_le, ◌&&◌, ◌||◌}
use Rattle.std.specs.List.{list_any}
use Rattle.std.specs.Str.{bytes_eq}
use Rattle.std.proofs.lemmas.Bool.{and_parts, leb-true}
use Rattle.std.proofs.lemmas.List.{length-map}
use Rattle.std.proofs.lemmas.Option.{same_Some, slice_get_within, get_or_from_slice_get}
use Rattle.std.proofs.lemmas.Slice.Eq.{bytes_eq-Decides}
use Rattle.wire_runs.proofs.Lists.{slice_get-map_kept}
use Rattle.wire_scripts.specs.Apart.{AreDistinct}
use Rattle.wire_scripts.specs.Scripts.{text_at}
use Rattle.wire_pattern.specs.Pattern.{Pattern, Role}
use Rattle.wire_pattern.specs.Instances.{HaveLeast}
use Rattle.wire_pattern.specs.Lawful.{IsSoundPattern}
use Rattle.wire_instances.specs.Asked.{Asked, fits_role, fits, is_named, are_fit, group_size, size_asked}

abbrev name_of : Role → List ℕ
name_of role = role.name

abbrev names : List Role → List (List ℕ)
names roles = map name_of roles

-- a role that fits is there
fitting : (roles : List Role) (a : Asked) → fits roles a ≡ true → (k : ℕ) × (role : Role) × (slice_get roles k ≡ Some role) × (fits_role a role ≡ true)
fitting [] a h = absurd (true≢false (sym h))
fitting (r ∷ roles) a h =
    elim (fits_role a r) as (λ b. fits_role a r ≡ b → (b || list_any (fits_role a) roles) ≡ true
    → (k : ℕ) × (role : Role) × (slice_get (r ∷ roles) k ≡ Some role) × (fits_role a role ≡ true)) [
      | true ↦ λ is t. (zero, r, refl, is)
      | false ↦ λ is t. let later = fitting roles a t in (suc later.0, later.1, later.2, later.3)
    ] refl h

-- roles of one name are one role
same_role : (roles : List Role) (k r : ℕ) (a b : Role) → AreDistinct (names roles) → slice_get roles k ≡ Some a → slice_get roles r ≡ Some b → a.name ≡ b.name → a ≡ b
same_role roles k r a b apart at here same =
    let one : text_at (names roles) k ≡ a.name = get_or_from_slice_get (names roles) k a.name [] (slice_get-map_kept name_of roles k a at) in
    let two : text_at (names roles) r ≡ b.name = get_or_from_slice_get (names roles) r b.name [] (slice_get-map_kept name_of roles r b here) in
    let long : length (names roles) ≡ length roles = length-map roles name_of in
    let low : k < length (names roles) = omega (arith, long, slice_get_within roles k a at) in
    let there : r < length (names roles) = omega (arith, long, slice_get_within roles r b here) in
    let e : k ≡ r = apart k r low there (one ∙ same ∙ sym two) in
    same_Some a b (sym at ∙ ap (slice_get roles) e ∙ here)

-- a group that is named has no fewer than its least number
named_least : (roles : List Role) (a : Asked) (r : ℕ) (role : Role) → AreDistinct (names roles) → fits roles a ≡ true → slice_get roles r ≡ Some role → a.name ≡ role.name → role.least ≤ a.count
named_least roles a r role apart fit here same =
    let its = fitting roles a fit in
    let parts = and_parts (bytes_eq a.name its.1.name) _ its.3 in
    let more = and_parts (not its.1.single) (nat_le its.1.least a.count) parts.1 in
    let found : a.name ≡ its.1.name = (bytes_eq-Decides a.name its.1.name).0 parts.0 in
    let one : its.1 ≡ role = same_role roles its.0 r its.1 role apart its.2 here (sym found ∙ same) in
    subst (λ (x : Role). x.least ≤ a.count) one (leb-true its.1.least a.count more.1)

group_least : (roles : List Role) (asked : List Asked) (r : ℕ) (role : Role) → AreDistinct (names roles) → are_fit roles asked ≡ true → slice_get roles r ≡ Some role → role.least ≤ group_size asked role
group_least roles [] r role apart fit here = omega arith
group_least roles (a ∷ asked) r role apart fit here =
    let parts = and_parts (fits roles a) (not (is_named asked a.name) && are_fit roles asked) fit in
    let later = group_least roles asked r role apart (and_parts (not (is_named asked a.name)) (are_fit roles asked) parts.1).1 here in
    elim (bytes_eq a.name role.name) as (λ b. bytes_eq a.name role.name ≡ b → role.least ≤ (if b then a.count else group_size asked role)) [
      | true ↦ λ is. named_least roles a r role apart parts.0 here ((bytes_eq-Decides a.name role.name).0 is)
      | false ↦ λ is. later
    ] refl

-- so no size that is asked for is lower
pub least_asked : (p : Pattern) (asked : List Asked) → IsSoundPattern p → are_fit p.roles asked ≡ true → HaveLeast p.roles (map (size_asked asked) p.roles)
least_asked p asked sound fit r role size here at =
    let is : size_asked asked role ≡ size = same_Some _ _ (sym (slice_get-map_kept (size_asked asked) p.roles r role here) ∙ at) in
    subst (λ n. role.least ≤ n) is
    (elim (role.single) as (λ b. role.single ≡ b → role.least ≤ (if b then 1 else group_size asked role)) [
      | true ↦ λ single. omega (arith, (sound.least r role here).0 single)
      | false ↦ λ group. group_least p.roles asked r role sound.roles_apart fit here
    ] refl)

-- the sizes that are made
pub made_least : (p : Pattern) (asked : List Asked) (roles : List Role) (sizes : List ℕ) → IsSoundPattern p → roles ≡ p.roles → are_fit roles asked ≡ true → sizes ≡ map (size_asked asked) roles
    → HaveLeast p.roles sizes
made_least p asked roles sizes sound r fit s =
    subst (HaveLeast p.roles) (sym (s ∙ ap (map (size_asked asked)) r)) (least_asked p asked sound (ap (λ rs. are_fit rs asked) (sym r) ∙ fit))

-- How many processes each group is asked to have.
use Rattle.std.specs.Prelude.{◌≡◌, ◌≤◌, ◌<◌, ◌+◌, ◌&&◌, ℕ, Bool, true, not, nat_le, List, [], ◌∷◌, sum_by, take}
use Rattle.std.specs.Prelude.{slice_get, if◌then◌else◌}
use Rattle.std.specs.List.{list_any}
use Rattle.std.specs.Str.{bytes_eq}
use Rattle.wire_types.specs.declared.fault.Fault.{Fault}
use Rattle.wire_types.specs.declared.fault.Fault.TheVariants.{TooMany}
use Rattle.wire_pattern.specs.Pattern.{Role}
use Rattle.wire_pattern.specs.Instances.{number_in}
use Rattle.wire_instances.specs.declared.sizes.Asked.{Asked as CodeAsked}

-- so many processes of the group of this name
pub record Asked : Type 0 where
  pub name : List ℕ
  pub count : ℕ

abbrev pub asked_by : CodeAsked → Asked
asked_by a = record { name = a.name.items; count = a.count }

-- a group of the name is there, and may have so many processes
abbrev pub fits_role : Asked → Role → Bool
fits_role a role = bytes_eq a.name role.name && (not role.single && nat_le role.least a.count)

abbrev pub fits : List Role → Asked → Bool
fits roles a = list_any (fits_role a) roles

abbrev pub is_named : List Asked → List ℕ → Bool
is_named asked name = list_any (λ a. bytes_eq a.name name) asked

-- each fits, and none is named twice
abbrev pub are_fit : List Role → List Asked → Bool
are_fit roles [] = true
are_fit roles (a ∷ asked) = fits roles a && (not (is_named asked a.name) && are_fit roles asked)

-- how many processes a role has: a single one 1, a group that isn't named its least number
abbrev pub group_size : List Asked → Role → ℕ
group_size [] role = role.least
group_size (a ∷ asked) role = if bytes_eq a.name role.name then a.count else group_size asked role

abbrev pub size_asked : List Asked → Role → ℕ
size_asked asked role = if role.single then 1 else group_size asked role

-- with the processes of the role number r there are more than so many, without them not
pub record IsPassed (roles : List Role) (sizes : List ℕ) (most : ℕ) (e : Fault) : Type 0 where
  pub role : ℕ
  pub within : sum_by (λ (size : ℕ). size) (take role sizes) ≤ most
  pub passed : most < sum_by (λ (size : ℕ). size) (take (role + 1) sizes)
  pub fault : e ≡ TooMany (number_in (slice_get roles role))

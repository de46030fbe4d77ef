-- Three of each role suffice, where only instances are looked at whose processes are in the order of their roles.
use Rattle.std.specs.Prelude.{◌≡◌, ℕ, zero, suc, ◌<◌, ◌≤◌, List, [], ◌∷◌, ◌++◌, length, replicate, Some, slice_get}
use Rattle.wire_runs.specs.Races.{IsSettled}
use Rattle.wire_runs.specs.Patterns.{Pattern, Coding, Cast, group, instance_of, IsLawful, IsCastOf}

-- none of these numbers is below one before it, and none below the first
abbrev pub DontFall : (first : ℕ) → List ℕ → Type 0
DontFall first [] = Unit {0}
DontFall first (x ∷ xs) = (first ≤ x) × DontFall x xs

-- the processes stand in the order of their roles, and each role is below the bound
pub record HasRolesInOrder (bound : ℕ) (cast : Cast) : Type 0 where
  pub order : DontFall 0 cast.roles
  pub below : (p role : ℕ) → slice_get cast.roles p ≡ Some role → role < bound

-- so many processes of role 0, then so many of role 1, and so on
abbrev pub in_blocks : (size : ℕ → ℕ) → (bound : ℕ) → List ℕ
in_blocks size zero = []
in_blocks size (suc role) = in_blocks size role ++ replicate (size role) role

-- the processes of a cast in order stand in blocks, and those that do are in order; their sizes are those of the groups
pub record StandInBlocks (bound : ℕ) (cast : Cast) : Type 0 where
  pub blocks : HasRolesInOrder bound cast → cast.roles ≡ in_blocks (λ role. length (group role cast.roles)) bound
  pub order : (size : ℕ → ℕ) → cast.roles ≡ in_blocks size bound → HasRolesInOrder bound cast
  pub sizes : (size : ℕ → ℕ) → cast.roles ≡ in_blocks size bound → (role : ℕ) → role < bound
      → length (group role cast.roles) ≡ size role

abbrev pub OrderIsBlocks : Type 0
OrderIsBlocks = (bound : ℕ) (cast : Cast) → StandInBlocks bound cast

-- of each role below the bound so many processes at least, or at most
abbrev pub HasLeast : (bound : ℕ) → (ℕ → ℕ) → Cast → Type 0
HasLeast bound least cast = (role : ℕ) → role < bound → least role ≤ length (group role cast.roles)

abbrev pub HasMost : (bound : ℕ) → (ℕ → ℕ) → Cast → Type 0
HasMost bound most cast = (role : ℕ) → role < bound → length (group role cast.roles) ≤ most role

-- the bounds allow three processes of each role
abbrev pub AllowThree : (bound : ℕ) → (least most : ℕ → ℕ) → Type 0
AllowThree bound least most = (role : ℕ) → role < bound → (3 ≤ most role) × (least role ≤ most role)

-- a pattern's instances in order are settled, with at least so many of each role and at most so many
abbrev pub SmallOnesAreSettled : Pattern → Coding → (bound : ℕ) → (least most : ℕ → ℕ) → Type 0
SmallOnesAreSettled pattern coding bound least most = (cast : Cast) → IsCastOf pattern cast → HasRolesInOrder bound cast
    → HasLeast bound least cast → HasMost bound most cast → IsSettled (instance_of pattern coding cast)

-- where these are, so is each instance in order, with any number of processes of each role
abbrev pub OrderedSuffice : Type 0
OrderedSuffice = (pattern : Pattern) (coding : Coding) (bound : ℕ) (least most : ℕ → ℕ) → IsLawful pattern
    → AllowThree bound least most → SmallOnesAreSettled pattern coding bound least most
    → (cast : Cast) → IsCastOf pattern cast → HasRolesInOrder bound cast → HasLeast bound least cast
    → IsSettled (instance_of pattern coding cast)

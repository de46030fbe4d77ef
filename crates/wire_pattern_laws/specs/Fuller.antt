-- Which turns the optional loops take: those alone matter that there are, and a loop of reads may take all of its.
use Rattle.std.specs.Prelude.{◌≡◌, ◌≢◌, ◌⊎◌, ℕ, ◌<◌, List, [], ◌∷◌, length, Bool, true, false, Some, slice_get}
use Rattle.wire_runs.specs.Races.{IsSettled}
use Rattle.wire_runs.specs.Patterns.{Line, LineGetNow, LineLookup, Loop, Chosen, Pattern, Coding, Cast, instance_of}

-- whether the lines only read: they are get-nows and lookups
abbrev pub only_reads : List Line → Bool
only_reads [] = true
only_reads (LineGetNow owner key ∷ lines) = only_reads lines
only_reads (LineLookup name ∷ lines) = only_reads lines
only_reads (line ∷ lines) = false

-- step number i of the script of p is an optional loop of these lines over the role of e, another process
pub record MayTake (pattern : Pattern) (cast : Cast) (p i e : ℕ) (lines : List Line) : Type 0 where
  pub role : ℕ
  pub loops_over : ℕ
  pub role_of_p : slice_get cast.roles p ≡ Some role
  pub step : slice_get (pattern.script role) i ≡ Some (Loop loops_over Chosen lines)
  pub role_of_e : slice_get cast.roles e ≡ Some loops_over
  pub another : e ≢ p

-- the same roles and nodes, and the same turns
pub record IsSameCast (pattern : Pattern) (cast other : Cast) : Type 0 where
  pub roles : other.roles ≡ cast.roles
  pub nodes : (p : ℕ) → p < length cast.roles → other.nodes p ≡ cast.nodes p
  pub turns : (p i e : ℕ) (lines : List Line) → MayTake pattern cast p i e lines
      → other.chosen p i e ≡ cast.chosen p i e

-- the instance has them too
abbrev pub SameInstance : Type 0
SameInstance = (pattern : Pattern) (coding : Coding) (cast other : Cast) → IsSameCast pattern cast other
    → instance_of pattern coding other ≡ instance_of pattern coding cast

-- the same roles and nodes, and each turn is the same; but in loops that only read, the fuller cast may take more
pub record IsFuller (pattern : Pattern) (cast fuller : Cast) : Type 0 where
  pub roles : fuller.roles ≡ cast.roles
  pub nodes : (p : ℕ) → p < length cast.roles → fuller.nodes p ≡ cast.nodes p
  pub turns : (p i e : ℕ) (lines : List Line) → MayTake pattern cast p i e lines
      → (fuller.chosen p i e ≡ cast.chosen p i e) ⊎ ((only_reads lines ≡ true) × (fuller.chosen p i e ≡ true))

-- where the fuller instance is settled, so is the other
abbrev pub ReadsWhole : Type 0
ReadsWhole = (pattern : Pattern) (coding : Coding) (cast fuller : Cast) → IsFuller pattern cast fuller
    → IsSettled (instance_of pattern coding fuller) → IsSettled (instance_of pattern coding cast)

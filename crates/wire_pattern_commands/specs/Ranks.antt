-- The word that says how many ranks each group is to have: `NAME=N`, with commas between them.
use Rattle.std.specs.Prelude.{◌≡◌, ◌<◌, ◌+◌, ◌^◌, ◌==◌, ◌++◌, ◌∷◌, [], ℕ, nat_lt, Bool, true, false, List, map, length, take, decimal}
use Rattle.std.specs.Prelude.{Option, Some, None, slice_get}
use Rattle.std.specs.List.{list_all, slice_split}
use Rattle.wire_types.specs.declared.Fault.{Fault}
use Rattle.wire_types.specs.declared.Fault.TheVariants.{BadOrder}
use Rattle.wire_pattern.specs.Pattern.{Pattern, Role}
use Rattle.wire_pattern.specs.Instances.{HaveLeast}
use Rattle.wire_instances.specs.Asked.{Asked, are_fit, size_asked}

-- a part of the word: the name of a group, `=`, and the number
abbrev pub asked_text : Asked → List ℕ
asked_text asked = asked.name ++ 61 ∷ decimal asked.count

abbrev pub parts_of : List ℕ → List (List ℕ)
parts_of word = slice_split (λ b. b == 44) word

-- each is fewer than 10^9 ranks
abbrev pub are_few : List Asked → Bool
are_few asked = list_all (λ a. nat_lt a.count (10 ^ 9)) asked

-- the parts ask for this
pub record AskFor (parts : List (List ℕ)) (asked : List Asked) : Type 0 where
  pub spelled : parts ≡ map asked_text asked
  pub few : are_few asked ≡ true

-- the word asks for this; without a word nothing is asked for
abbrev pub Asks : Option (List ℕ) → List Asked → Type 0
Asks None asked = asked ≡ []
Asks (Some word) asked = AskFor (parts_of word) asked

-- of each role so many processes as are asked for, and no fewer than its least number: a group that isn't named has just
-- these
pub record AreSizesAsked (p : Pattern) (word : Option (List ℕ)) (sizes : List ℕ) : Type 0 where
  pub named : List Asked
  pub asks : Asks word named
  pub fit : are_fit p.roles named ≡ true
  pub are : sizes ≡ map (size_asked named) p.roles
  pub least : HaveLeast p.roles sizes

-- the parts before this one ask for what the pattern can have. This one doesn't ask for fewer than 10^9 ranks, or what
-- it asks for the pattern can't have beside them: no group has the name, its `min` is more, or the name stands before
pub record IsMisfitPart (roles : List Role) (parts : List (List ℕ)) (fault : Fault) : Type 0 where
  pub before : List Asked
  pub part : List ℕ
  pub begin : AskFor (take (length before) parts) before
  pub here : slice_get parts (length before) ≡ Some part
  pub fit : are_fit roles before ≡ true
  pub misfit : (asked : Asked) → asked.count < 10 ^ 9 → part ≡ asked_text asked → are_fit roles (before ++ asked ∷ []) ≡ false
  pub is : fault ≡ BadOrder (length before + 1)

-- a part of the word is wrong
pub record HasMisfit (roles : List Role) (word : Option (List ℕ)) (fault : Fault) : Type 0 where
  pub text : List ℕ
  pub given : word ≡ Some text
  pub wrong : IsMisfitPart roles (parts_of text) fault

-- Of a set the test of items tests the processes that they are, too.
use Rattle.std.proofs.Common.{◌≡◌, ◌∙◌, ap, refl, ℕ, List, [], ◌∷◌, Bool, true, false, flat_map}
use Rattle.std.specs.Prelude.{◌&&◌}
use Rattle.std.specs.List.{list_all}
use Rattle.wire_runs.specs.Patterns.{Who}
use Rattle.wire_pattern.specs.Pattern.{Item, One, Group, Job, Role}
use Rattle.wire_pattern.specs.Lawful.{whos_in_item, is_known_who, is_known_item}
use Rattle.wire_pattern_script.specs.Faults.{is_declared_who, is_declared_item}

absorbed : (p a b : Bool) → ((p && a) && (p && b)) ≡ (p && (a && b))
absorbed true a b = refl
absorbed false a b = refl

right_out : (q a b : Bool) → (a && (q && b)) ≡ (q && (a && b))
right_out true a b = refl
right_out false true b = refl
right_out false false b = refl

twice : (P : Who → Bool) (Q : Item → Bool) → ((w : Who) → Q (One w) ≡ P w) → (items : List Item) → (list_all P (flat_map whos_in_item items) && list_all Q items) ≡ list_all Q items
twice P Q same [] = refl
twice P Q same (One w ∷ items) =
    rw (same w) (absorbed (P w) (list_all P (flat_map whos_in_item items)) (list_all Q items) ∙ ap (λ b. P w && b) (twice P Q same items))
twice P Q same (Group r ∷ items) =
    right_out (Q (Group r)) (list_all P (flat_map whos_in_item items)) (list_all Q items) ∙ ap (λ b. Q (Group r) && b) (twice P Q same items)
twice P Q same (Job j ∷ items) =
    right_out (Q (Job j)) (list_all P (flat_map whos_in_item items)) (list_all Q items) ∙ ap (λ b. Q (Job j) && b) (twice P Q same items)

pub declared_twice : (jobs roles : ℕ) (items : List Item)
    → (list_all (is_declared_who roles) (flat_map whos_in_item items) && list_all (is_declared_item jobs roles) items) ≡ list_all (is_declared_item jobs roles) items
declared_twice jobs roles items = twice (is_declared_who roles) (is_declared_item jobs roles) (λ w. refl) items

pub known_twice : (jobs : ℕ) (roles : List Role) (items : List Item)
    → (list_all (is_known_who roles) (flat_map whos_in_item items) && list_all (is_known_item jobs roles) items) ≡ list_all (is_known_item jobs roles) items
known_twice jobs roles items = twice (is_known_who roles) (is_known_item jobs roles) (λ w. refl) items

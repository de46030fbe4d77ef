-- Lists in vectors, one by one.
use Rattle.std.proofs.Common.{◌≡◌, ◌∙◌, ap, sym, subst, refl, ℕ, ◌<◌, ◌^◌, List, length, Some, arith, get_or}
use Rattle.std.specs.Prelude.{Vec, slice_get, option_map}
use Rattle.std.specs.declared.alloc.Global.{Global}
use Rattle.std.proofs.lemmas.Option.{slice_get-map, slice_get_read}
use Rattle.wire_types.specs.Texts.{lists_of}
use Rattle.wire_pattern.specs.Pattern.{Role}
use Rattle.wire_cutoff_laws.specs.Sizes.{AreFewSizes, all_sizes, total_of}
use Rattle.wire_cutoff.specs.Selections.{most_sizes}
use Rattle.wire_cutoff.proofs.Members.{at_place}
use Rattle.wire_cutoff.proofs.Listed.{sizes_are, sizes_bounded}

-- all lists are of few processes of each role
abbrev pub AreAllSizes : List Role → List (List ℕ) → Type 0
AreAllSizes roles lists = (i : ℕ) (list : List ℕ) → slice_get lists i ≡ Some list → AreFewSizes roles list

-- the list at a place is of few processes of each role
pub item_are : (roles : List Role) (all : List (Vec ℕ Global)) (i : ℕ) (v : Vec ℕ Global) (now : List ℕ) → AreAllSizes roles (lists_of all) → i < length all
    → v ≡ get_or all i v → now ≡ v.items → AreFewSizes roles now
item_are roles all i v now are lt at is =
    subst (AreFewSizes roles) (sym is) (are i v.items (slice_get-map (λ r. r.items) all i ∙ ap (option_map (λ r. r.items)) (slice_get_read all (length all) i v refl lt at)))

pub item_few : (roles : List Role) (all : List (Vec ℕ Global)) (i : ℕ) (v : Vec ℕ Global) (now : List ℕ) → AreAllSizes roles (lists_of all) → i < length all
    → v ≡ get_or all i v → now ≡ v.items → total_of (most_sizes roles) < 2 ^ 31 → total_of now < 2 ^ 31
item_few roles all i v now are lt at is few = let b = sizes_bounded roles now (item_are roles all i v now are lt at is) in omega (arith, b, few)

pub all_are : (roles : List Role) (lists : List (List ℕ)) → lists ≡ all_sizes roles → AreAllSizes roles lists
all_are roles lists is = λ i list at. sizes_are roles list (at_place list (all_sizes roles) i (ap (λ ls. slice_get ls i) (sym is) ∙ at))

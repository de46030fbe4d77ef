-- The largest instance that is judged, and its faults.
use Rattle.std.proofs.Common.{◌≡◌, ◌∙◌, ap, sym, subst, refl, ℕ, suc, ◌+◌, ◌<◌, ◌^◌, List, [], ◌∷◌, map, length, Result, Ok, Err, inl, inr, ◌⊎◌, arith}
use Rattle.std.specs.Prelude.{slice_index_or, OnOk, IfErr, IsErrAnd}
use Rattle.wire_types.specs.declared.Fault.{Fault}
use Rattle.wire_types.specs.declared.Fault.TheVariants.{Memory}
use Rattle.wire_scripts.specs.Scripts.{Scripts}
use Rattle.wire_reader.specs.declared.Size.TheVariants.{OfVersion}
use Rattle.wire_reader.specs.Reads.{Reads}
use Rattle.wire_pattern.specs.Pattern.{Pattern}
use Rattle.wire_pattern.specs.Lawful.{IsSoundPattern}
use Rattle.wire_pattern.specs.Instances as text
use Rattle.wire_pattern.specs.Instances.{instance_text}
use Rattle.wire_instances.specs.declared.cast.Cast.{Cast}
use Rattle.wire_instances.specs.declared.cast.Nodes.{Nodes}
use Rattle.wire_instances.specs.Nodes.{AreNodes, HaveOwnNodes}
use Rattle.wire_instances.specs.Views.{cast_by, choice_by}
use Rattle.wire_cutoff_laws.specs.Sizes.{numbers_from, total_of}
use Rattle.wire_cutoff.specs.Selections.{most_sizes}
use Rattle.wire_cutoff.specs.Judged.{IsFewCast, IsTextFault, HasFewProcesses, HasManyTurns, HasFewTurns, largest_cast, IsLargestRead, IsLimitFault, IsWithinPatternLimits}
use Rattle.wire_cutoff.specs.Views.{AreUsed}
use Rattle.wire_cutoff.proofs.FewCasts.{few_cast}
use Rattle.wire_cutoff.proofs.Listed.{most_are}

-- it has few processes of each role
pub largest : (p : Pattern) (cast : Cast) (total : ℕ) → IsSoundPattern p → cast.sizes.items ≡ most_sizes p.roles → total ≡ total_of cast.sizes.items → total < 2 ^ 31
    → AreNodes total cast.nodes → AreUsed cast.nodes → IsFewCast p (cast_by cast)
largest p cast total sound most count few nodes used =
    few_cast p cast (most_sizes p.roles) total sound (most_are p.roles sound.least) most (count ∙ ap total_of most) few nodes used

-- rising numbers
numbers_are : (xs : List ℕ) (n : ℕ) → ((v : ℕ) → v < length xs → slice_index_or xs v 0 ≡ n + v) → xs ≡ numbers_from n (length xs)
numbers_are [] n each = refl
numbers_are (x ∷ xs) n each = ap (λ y. y ∷ xs) first ∙ ap (λ ys. n ∷ ys) (numbers_are xs (suc n) later)
  where
    none : n + 0 ≡ n
    none = omega arith

    first : x ≡ n
    first = each 0 (omega arith) ∙ none

    next : (v : ℕ) → n + suc v ≡ suc n + v
    next v = omega arith

    later : (v : ℕ) → v < length xs → slice_index_or xs v 0 ≡ suc n + v
    later v lt = each (suc v) (omega (arith, lt)) ∙ next v

alone_list : (processes : ℕ) (nodes : Nodes) → AreNodes processes nodes → HaveOwnNodes processes nodes → nodes.of.items ≡ numbers_from 0 processes
alone_list processes nodes are alone = numbers_are nodes.of.items 0 own ∙ ap (numbers_from 0) are.placed
  where
    own : (v : ℕ) → v < length nodes.of.items → slice_index_or nodes.of.items v 0 ≡ 0 + v
    own v lt = let a = alone.node v (omega (arith, lt, are.placed)) in omega (arith, a)

pub largest_is : (p : Pattern) (cast : Cast) (total : ℕ) → cast.sizes.items ≡ most_sizes p.roles → cast.chosen.items ≡ [] → total ≡ total_of cast.sizes.items
    → AreNodes total cast.nodes → HaveOwnNodes total cast.nodes → cast_by cast ≡ largest_cast p
largest_is p cast total most none count are alone =
    λ t. record { sizes = most t; chosen = ap (map choice_by) none t; node_count = (alone.count ∙ own) t; nodes = (alone_list total cast.nodes are alone ∙ ap (numbers_from 0) own) t }
  where
    own : total ≡ total_of (most_sizes p.roles)
    own = count ∙ ap total_of most

pub largest_read : (p : Pattern) (cast : text.Cast) (s : Scripts) → cast ≡ largest_cast p → Reads OfVersion (instance_text p cast) (Ok s) → IsLargestRead p
largest_read p cast s is reads = (s, subst (λ c. Reads OfVersion (instance_text p c) (Ok s)) is reads)

pub largest_fault : (p : Pattern) (cast : text.Cast) (e : Fault) → cast ≡ largest_cast p → (e ≡ Memory) ⊎ IsTextFault p cast e
    → (e ≡ Memory) ⊎ IsTextFault p (largest_cast p) e
largest_fault p cast e is fault = subst (λ c. (e ≡ Memory) ⊎ IsTextFault p c e) is fault

-- the limits, one after the other
pub turns_limit : (p : Pattern) (e : Fault) → HasFewProcesses p → (e ≡ Memory) ⊎ HasManyTurns p e → (e ≡ Memory) ⊎ IsLimitFault p e
turns_limit p e few (inl memory) = inl memory
turns_limit p e few (inr many) = inr (inr (few, inl many))

pub text_limit : {A : Type 0} (p : Pattern) (r : Result A Fault) → HasFewProcesses p → HasFewTurns p
    → IfErr r (λ e. (e ≡ Memory) ⊎ IsTextFault p (largest_cast p) e) → IfErr r (λ e. (e ≡ Memory) ⊎ IsLimitFault p e)
text_limit p (Ok x) few turns is = tt
text_limit p (Err e) few turns (inl memory) = inl memory
text_limit p (Err e) few turns (inr told) = inr (inr (few, inr (turns, told)))

pub within_limits : {A : Type 0} (p : Pattern) (r : Result A Fault) → HasFewProcesses p → HasFewTurns p → OnOk r (IsLargestRead p) → OnOk r (IsWithinPatternLimits p)
within_limits p (Ok x) few turns read = record { processes = few; turns = turns; largest = read }
within_limits p (Err e) few turns read = tt

-- a fault that is handed on
pub told_on : {A : Type 0} (r : Result A Fault) (e : Fault) (P : Fault → Type 0) → IsErrAnd r (λ f. f ≡ e) → P e → IfErr r P
told_on (Ok x) e P is told = tt
told_on (Err f) e P is told = subst P (sym is) told

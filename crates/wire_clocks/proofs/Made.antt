-- What a clock says that was made of others.
use Rattle.std.proofs.Common.{◌≡◌, ◌∙◌, ◌==◌, ◌*◌, ◌/◌, ◌%◌, ◌^◌, ◌<◌, ℕ, List, slice_index, max, refl, sym, ap, subst, arith}
use Rattle.std.specs.Prelude.{Bool, true, false, nat_lt, if◌then◌else◌}
use Rattle.std.proofs.lemmas.Bool.{eqb-true, ltb-true, lt-ltb, true≢false}
use Rattle.wire_clocks.specs.Rows.{tree_says}
use Rattle.wire_clocks.specs.ClockTrees.{says}
use Rattle.wire_clocks.specs.declared.notes.Note.{Note}
use Rattle.wire_clocks.specs.Notes.{IsTopOf, clock_number}
use Rattle.wire_clocks.specs.Trees.{clocks_of, AreTrees}
use Rattle.wire_clocks.proofs.Standing.{top_says, clock_says}
use Rattle.wire_clocks.proofs.Blocks.{block_says}

-- the number of a process is raised, where that of the clock is lower
raise_cases : (b here : Bool) (new old number : ℕ) → (b ≡ true → new ≡ (if here then number else old)) → (here ≡ true → b ≡ true) → (here ≡ true → (if b then old else 0) < number) →
    (if b then new else 0) ≡ (if here then max (if b then old else 0) number else (if b then old else 0))
raise_cases true true new old number is held low = let e = is refl in let l = low refl in omega (arith, e, l)
raise_cases true false new old number is held low = is refl
raise_cases false true new old number is held low = let l = low refl in let none = held refl in absurd (none_holds none)
  where
    none_holds : false ≡ true → ⊥
    none_holds e = true≢false (sym e)
raise_cases false false new old number is held low = refl

pub raised_says : (old new : List (List ℕ)) (notes : List Note) (height tree root process number t r : ℕ) → AreTrees old height → AreTrees new height → IsTopOf tree root → IsTopOf t r →
    process < 16 ^ height → says (clocks_of old notes height) root process < number →
    ((q : ℕ) → q < 16 ^ height → tree_says new height t q ≡ (if q == process then number else tree_says old height tree q)) → (q : ℕ) →
    says (clocks_of new notes height) r q ≡ (if q == process then max (says (clocks_of old notes height) root q) number else says (clocks_of old notes height) root q)
raised_says old new notes height tree root process number t r are are' top top' low below each q =
    let same = top_says old notes height tree root q are top in
    top_says new notes height t r q are' top'
    ∙ raise_cases (nat_lt q (16 ^ height)) (q == process) (tree_says new height t q) (tree_says old height tree q) number (λ b. each q (ltb-true q (16 ^ height) b))
    (λ e. let is = eqb-true q process e in lt-ltb q (16 ^ height) (omega (arith, is, low)))
    (λ e. subst (λ p. (if nat_lt p (16 ^ height) then tree_says old height tree p else 0) < number) (sym (eqb-true q process e))
    (let is = top_says old notes height tree root process are top in omega (arith, is, below)))
    ∙ ap (λ v. if q == process then max v number else v) (sym same)

-- two clocks are joined
join_cases : (b : Bool) (new left right : ℕ) → (b ≡ true → new ≡ max left right) → (if b then new else 0) ≡ max (if b then left else 0) (if b then right else 0)
join_cases true new left right is = is refl
join_cases false new left right is = refl

pub joined_says : (old new : List (List ℕ)) (notes : List Note) (height left_tree left right_tree right t r : ℕ) → AreTrees old height → AreTrees new height → IsTopOf left_tree left →
    IsTopOf right_tree right → IsTopOf t r → ((q : ℕ) → q < 16 ^ height → tree_says new height t q ≡ max (tree_says old height left_tree q) (tree_says old height right_tree q)) → (q : ℕ) →
    says (clocks_of new notes height) r q ≡ max (says (clocks_of old notes height) left q) (says (clocks_of old notes height) right q)
joined_says old new notes height left_tree left right_tree right t r are are' left_top right_top top each q =
    let clocks = clocks_of old notes height in
    top_says new notes height t r q are' top
    ∙ join_cases (nat_lt q (16 ^ height)) (tree_says new height t q) (tree_says old height left_tree q) (tree_says old height right_tree q) (λ b. each q (ltb-true q (16 ^ height) b))
    ∙ ap (λ v. max v (if nat_lt q (16 ^ height) then tree_says old height right_tree q else 0)) (sym (top_says old notes height left_tree left q are left_top))
    ∙ ap (max (says clocks left q)) (sym (top_says old notes height right_tree right q are right_top))

-- a block of processes is raised
pub block_raised_says : (old new : List (List ℕ)) (notes : List Note) (height tree root block t r : ℕ) (least : List ℕ) → AreTrees old height → AreTrees new height → IsTopOf tree root →
    IsTopOf t r → 16 * block < 16 ^ height → ((q : ℕ) → q < 16 ^ height →
    tree_says new height t q ≡ (if q / 16 == block then max (tree_says old height tree q) (slice_index least (q % 16)) else tree_says old height tree q)) → (q : ℕ) →
    says (clocks_of new notes height) r q
    ≡ (if q / 16 == block then max (says (clocks_of old notes height) root q) (slice_index least (q % 16)) else says (clocks_of old notes height) root q)
block_raised_says old new notes height tree root block t r least are are' top top' low each q =
    top_says new notes height t r q are' top'
    ∙ block_says height block q (tree_says new height t q) (tree_says old height tree q) (slice_index least (q % 16)) are.high low (each q)
    ∙ ap (λ v. if q / 16 == block then max v (slice_index least (q % 16)) else v) (sym (top_says old notes height tree root q are top))

-- a clock is put into a tree of its own
same_cases : (b : Bool) (new old : ℕ) → (b ≡ true → new ≡ old) → (if b then new else 0) ≡ (if b then old else 0)
same_cases true new old is = is refl
same_cases false new old is = refl

pub flattened_says : (old new : List (List ℕ)) (notes : List Note) (height root t r : ℕ) → AreTrees old height → AreTrees new height → IsTopOf t r →
    ((q : ℕ) → q < 16 ^ height → tree_says new height t q ≡ clock_number old notes height 16 root q) → (q : ℕ) →
    says (clocks_of new notes height) r q ≡ says (clocks_of old notes height) root q
flattened_says old new notes height root t r are are' top each q =
    top_says new notes height t r q are' top
    ∙ same_cases (nat_lt q (16 ^ height)) (tree_says new height t q) (clock_number old notes height 16 root q) (λ b. each q (ltb-true q (16 ^ height) b))
    ∙ sym (clock_says old notes height root q are)

-- a note is added above a clock
noted_cases : (b here : Bool) (new old number : ℕ) → (b ≡ true → new ≡ (if here then max old number else old)) → (here ≡ true → b ≡ true) →
    (if b then new else 0) ≡ (if here then max (if b then old else 0) number else (if b then old else 0))
noted_cases true here new old number is held = is refl
noted_cases false true new old number is held = absurd (none_holds (held refl))
  where
    none_holds : false ≡ true → ⊥
    none_holds e = true≢false (sym e)
noted_cases false false new old number is held = refl

pub noted_says : (old new : List (List ℕ)) (ns ns' : List Note) (height root r process number : ℕ) → AreTrees old height → AreTrees new height → process < 16 ^ height →
    ((q : ℕ) → q < 16 ^ height → clock_number new ns' height 16 r q ≡ (if q == process then max (clock_number old ns height 16 root q) number else clock_number old ns height 16 root q)) → (q : ℕ) →
    says (clocks_of new ns' height) r q ≡ (if q == process then max (says (clocks_of old ns height) root q) number else says (clocks_of old ns height) root q)
noted_says old new ns ns' height root r process number are are' low each q =
    clock_says new ns' height r q are'
    ∙ noted_cases (nat_lt q (16 ^ height)) (q == process) (clock_number new ns' height 16 r q) (clock_number old ns height 16 root q) number (λ b. each q (ltb-true q (16 ^ height) b))
    (λ e. let is = eqb-true q process e in lt-ltb q (16 ^ height) (omega (arith, is, low)))
    ∙ ap (λ v. if q == process then max v number else v) (sym (clock_says old ns height root q are))

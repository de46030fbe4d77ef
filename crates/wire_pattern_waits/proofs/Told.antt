-- The instance of one selection, and where its processes wait.
use Rattle.std.proofs.Common.{◌≡◌, ◌∙◌, ap, sym, subst, refl, ℕ, zero, suc, ◌+◌, ◌<◌, List, [], ◌∷◌, true, length, Ok, Err, Result, ◌↔◌, add-zero, arith}
use Rattle.std.specs.Prelude.{slice_index_or}
use Rattle.std.specs.List.{range_with_len}
use Rattle.wire_types.specs.declared.Fault.{Fault}
use Rattle.wire_scripts.specs.Scripts.{Scripts}
use Rattle.wire_reader.specs.declared.Size.TheVariants.{OfVersion}
use Rattle.wire_reader.specs.Reads.{Reads, ReadsOnce}
use Rattle.wire_pattern.specs.Pattern.{Pattern}
use Rattle.wire_pattern.specs.Instances as spec
use Rattle.wire_pattern.specs.Instances.{process_count, instance_text}
use Rattle.wire_instances.specs.declared.cast.Cast.{Cast}
use Rattle.wire_instances.specs.Nodes.{HaveOwnNodes}
use Rattle.wire_instances.specs.Views.{cast_by}
use Rattle.wire_cutoff_laws.specs.Sizes.{total_of}
use Rattle.wire_cutoff.specs.Judged.{IsFewCast}
use Rattle.wire_cutoff.specs.Selections.{Selection, IsCastFor}
use Rattle.wire_pattern_waits.specs.Stops.{StuckAt}
use Rattle.wire_pattern_waits.specs.Waits.{alone, StopsIn}

counted : (xs : List ℕ) (a n : ℕ) → length xs ≡ n → ((v : ℕ) → v < n → slice_index_or xs v 0 ≡ a + v) → xs ≡ range_with_len a n
counted [] a zero count at = refl
counted [] a (suc n) count at = absurd (omega (arith, count))
counted (x ∷ xs) a zero count at = absurd (omega (arith, count))
counted (x ∷ xs) a (suc n) count at =
    let first : x ≡ a = at 0 (omega arith) ∙ add-zero a in
    let rest : xs ≡ range_with_len (a + 1) n = counted xs (a + 1) n (omega (arith, count)) (λ v lt. at (suc v) (omega (arith, lt)) ∙ omega arith) in
    ap (λ y. y ∷ xs) first ∙ ap (λ ys. a ∷ ys) rest

-- the cast of a selection is one
pub cast_is : (p : Pattern) (s : Selection) (cast : Cast) → IsFewCast p (cast_by cast) → IsCastFor p s (cast_by cast) → HaveOwnNodes (total_of s.sizes) cast.nodes
    → cast_by cast ≡ alone p s
cast_is p s cast few of apart = λ t. record { sizes = of.sizes t; chosen = of.chosen t; node_count = apart.count t; nodes = nodes t }
  where
    placed : length cast.nodes.of.items ≡ total_of s.sizes
    placed = few.cast_is.placed ∙ ap total_of of.sizes

    nodes : cast.nodes.of.items ≡ range_with_len 0 (total_of s.sizes)
    nodes = counted cast.nodes.of.items 0 (total_of s.sizes) placed (λ v lt. apart.node v lt ∙ omega arith)

-- the scripts that are read, or others where none are
abbrev read_or : Scripts → Result Scripts Fault → Scripts
read_or other (Ok scripts) = scripts
read_or other (Err fault) = other

-- where a process waits in the instance's scripts is where one does in the selection
pub selection_stops : (p : Pattern) (s : Selection) (cast : spec.Cast) (scripts : Scripts) → ReadsOnce → cast ≡ alone p s
    → Reads OfVersion (instance_text p cast) (Ok scripts) → (role line : ℕ) → StuckAt p cast scripts role line ↔ StopsIn p s role line
selection_stops p s cast scripts once is reads role line = (to, from)
  where
    read_alone : Reads OfVersion (instance_text p (alone p s)) (Ok scripts)
    read_alone = subst (λ c. Reads OfVersion (instance_text p c) (Ok scripts)) is reads

    to : StuckAt p cast scripts role line → StopsIn p s role line
    to x = record { scripts = scripts; reads = read_alone; stops = subst (λ c. StuckAt p c scripts role line) is x }

    from : StopsIn p s role line → StuckAt p cast scripts role line
    from x =
        let same : x.scripts ≡ scripts = ap (read_or scripts) (once OfVersion (instance_text p (alone p s)) (Ok x.scripts) (Ok scripts) x.reads read_alone) in
        subst (λ c. StuckAt p c scripts role line) (sym is) (subst (λ t. StuckAt p (alone p s) t role line) same x.stops)

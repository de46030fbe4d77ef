-- The lines that calls come from, by their places in the script and by their numbers in the file, are the same.
use Rattle.std.proofs.Common.{◌≡◌, ◌∙◌, ap, sym, refl, ℕ, suc, ◌+◌, ◌-◌, ◌++◌, List, [], ◌∷◌, length, map, flat_map, get_or, append_assoc, arith}
use Rattle.std.specs.List.{range_with_len}
use Rattle.std.proofs.lemmas.List.{length-append, length-map, map-append}
use Rattle.wire_runs.specs.Patterns.{turns}
use Rattle.wire_pattern.specs.Pattern.{Step, Once, Loop, Line}
use Rattle.wire_pattern.specs.Instances.{Cast, cast_of, step_lines, steps_lines}
use Rattle.wire_pattern_waits.specs.Lines.{lines_in}
use Rattle.wire_pattern_waits.specs.Places.{line_count, step_places, steps_places, PlacesLead}

-- the element n of a list, counted from 1
abbrev nth : List ℕ → ℕ → ℕ
nth xs n = get_or xs (n - 1) 0

nth_here : (before : List ℕ) (x : ℕ) (after : List ℕ) → nth (before ++ x ∷ after) (suc (length before)) ≡ x
nth_here before x after =
    ap (λ k. get_or (before ++ x ∷ after) k 0) less ∙ here before
  where
    less : suc (length before) - 1 ≡ length before
    less = omega arith

    here : (bs : List ℕ) → get_or (bs ++ x ∷ after) (length bs) 0 ≡ x
    here [] = refl
    here (b ∷ bs) = here bs

range_leads : (before xs after : List ℕ) → map (nth (before ++ (xs ++ after))) (range_with_len (suc (length before)) (length xs)) ≡ xs
range_leads before [] after = refl
range_leads before (x ∷ xs) after =
    ap (λ y. y ∷ map (nth (before ++ (x ∷ (xs ++ after)))) (range_with_len (suc (length before) + 1) (length xs))) (nth_here before x (xs ++ after))
    ∙ ap (λ ys. x ∷ ys) (ap (λ all. map (nth all) (range_with_len (suc (length before) + 1) (length xs))) (sym (append_assoc before (x ∷ []) (xs ++ after)))
    ∙ ap (λ n. map (nth ((before ++ x ∷ []) ++ (xs ++ after))) (range_with_len n (length xs))) next ∙ range_leads (before ++ x ∷ []) xs after)
  where
    next : suc (length before) + 1 ≡ suc (length (before ++ x ∷ []))
    next = let count = length-append before (x ∷ []) in omega (arith, count)

turns_lead : (before xs after : List ℕ) (k : ℕ) (es : List ℕ) → k ≡ length xs
    → map (nth (before ++ (xs ++ after))) (flat_map (λ (e : ℕ). range_with_len (suc (length before)) k) es) ≡ flat_map (λ (e : ℕ). xs) es
turns_lead before xs after k [] is = refl
turns_lead before xs after k (e ∷ es) is =
    map-append (nth (before ++ (xs ++ after))) (range_with_len (suc (length before)) k) (flat_map (λ (e : ℕ). range_with_len (suc (length before)) k) es)
    ∙ ap (λ ys. ys ++ map (nth (before ++ (xs ++ after))) (flat_map (λ (e : ℕ). range_with_len (suc (length before)) k) es))
    (ap (λ m. map (nth (before ++ (xs ++ after))) (range_with_len (suc (length before)) m)) is ∙ range_leads before xs after)
    ∙ ap (λ ys. xs ++ ys) (turns_lead before xs after k es is)

abbrev numbers : List Line → List ℕ
numbers lines = map (λ l. l.number) lines

step_leads : (cast : Cast) (v i : ℕ) (before : List ℕ) (step : Step) (after : List ℕ)
    → map (nth (before ++ (numbers (lines_in step) ++ after))) (step_places cast v i (suc (length before)) step) ≡ step_lines cast v i step
step_leads cast v i before (Once line) after = ap (λ y. y ∷ []) (nth_here before line.number after)
step_leads cast v i before (Loop number role mode lines) after =
    turns_lead before (numbers lines) after (length lines) (turns (cast_of cast) v i role mode) (sym (length-map lines (λ l. l.number)))

counted : (step : Step) → length (numbers (lines_in step)) ≡ line_count step
counted (Once line) = refl
counted (Loop number role mode lines) = length-map lines (λ l. l.number)

steps_lead : (cast : Cast) (v i : ℕ) (before : List ℕ) (steps : List Step)
    → map (nth (before ++ numbers (flat_map lines_in steps))) (steps_places cast v i (suc (length before)) steps) ≡ steps_lines cast v i steps
steps_lead cast v i before [] = refl
steps_lead cast v i before (step ∷ steps) =
    ap (λ all. map (nth (before ++ all)) (steps_places cast v i (suc (length before)) (step ∷ steps))) (map-append (λ l. l.number) (lines_in step) (flat_map lines_in steps))
    ∙ map-append (nth (before ++ (own ++ rest))) (step_places cast v i (suc (length before)) step) (steps_places cast v (suc i) (suc (length before) + line_count step) steps)
    ∙ ap (λ ys. ys ++ map (nth (before ++ (own ++ rest))) (steps_places cast v (suc i) (suc (length before) + line_count step) steps)) (step_leads cast v i before step rest)
    ∙ ap (λ ys. step_lines cast v i step ++ ys)
    (ap (λ all. map (nth all) (steps_places cast v (suc i) (suc (length before) + line_count step) steps)) (sym (append_assoc before own rest))
    ∙ ap (λ n. map (nth ((before ++ own) ++ rest)) (steps_places cast v (suc i) n steps)) next
    ∙ steps_lead cast v (suc i) (before ++ own) steps)
  where
    own : List ℕ
    own = numbers (lines_in step)

    rest : List ℕ
    rest = numbers (flat_map lines_in steps)

    next : suc (length before) + line_count step ≡ suc (length (before ++ own))
    next = let count = length-append before own in let here = counted step in omega (arith, count, here)

pub places_lead : PlacesLead
places_lead cast v steps = steps_lead cast v 0 [] steps

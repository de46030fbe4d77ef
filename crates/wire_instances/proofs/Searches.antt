-- How a search goes on, and what it finds.
use Rattle.std.proofs.Common.{◌≡◌, ◌∙◌, ◌-◌, ◌==◌, ap, sym, refl, ℕ, zero, suc, List, [], ◌∷◌, ◌++◌, length, map, flat_map, true, false, arith, Option, Some}
use Rattle.std.proofs.Common.{None, if◌then◌else◌}
use Rattle.std.specs.Prelude.{slice_index_or, IsSome}
use Rattle.std.proofs.lemmas.Bool.{eqb-true}
use Rattle.wire_pattern.specs.declared.step.Line.{Line}
use Rattle.wire_pattern.specs.Pattern.{Pattern}
use Rattle.wire_pattern.specs.Views.{line_by}
use Rattle.wire_pattern.specs.Instances.{Cast, nodes_lines, jobs_lines, instance_lines}
use Rattle.wire_instances.specs.Faults.{line_in}
use Rattle.wire_instances.specs.declared.search.LineSearch.{LineSearch}
use Rattle.wire_instances.specs.Search.{past, past_line, found_in}

past_both : (search : LineSearch) (a b : List ℕ) → past search (a ++ b) ≡ past (past search a) b
past_both search [] b = refl
past_both search (line ∷ a) b = past_both (past_line search.before search.found line) a b

-- the first piece of what was left has passed
pub moved_past : (old now : LineSearch) (piece rest whole : List ℕ) (all : LineSearch) → now ≡ past old piece → whole ≡ piece ++ rest → past old whole ≡ all
    → past now rest ≡ all
moved_past old now piece rest whole all more is h = ap (λ s. past s rest) more ∙ sym (past_both old piece rest) ∙ ap (past old) (sym is) ∙ h

-- what is found stays
stays : (before number : ℕ) (lines : List ℕ) → past (record { before = before; found = Some number }) lines ≡ record { before = before; found = Some number }
stays before number [] = refl
stays before number (line ∷ lines) = stays before number lines

over_with : (before : ℕ) (found : Option ℕ) → IsSome found → (lines : List ℕ)
    → past (record { before = before; found = found }) lines ≡ record { before = before; found = found }
over_with before None is lines = let no : false ≡ true = is in absurd (cc)
over_with before (Some number) is lines = stays before number lines

pub over : (search : LineSearch) → IsSome search.found → (lines : List ℕ) → search ≡ past search lines
over search is lines = sym (over_with search.before search.found is lines)

-- the line that is looked for is found
pub finds : (before : ℕ) (lines : List ℕ) → found_in (past (record { before = before; found = None }) lines) ≡ slice_index_or lines before 0
finds before [] = refl
finds zero (line ∷ lines) = ap found_in (stays 0 line lines)
finds (suc before) (line ∷ lines) = finds before lines

-- a loop without lines has none, whatever its turns
pub no_turns : (lines : List Line) (turns : List ℕ) → (length lines == 0) ≡ true → flat_map (λ (e : ℕ). map (λ l. l.number) (map line_by lines)) turns ≡ []
no_turns [] [] is = refl
no_turns [] (e ∷ turns) is = no_turns [] turns is
no_turns (line ∷ lines) turns is = absurd (omega (arith, eqb-true (suc (length lines)) 0 is))

-- the header, `keep`, the nodes and the jobs have passed
pub line_found : (p : Pattern) (cast : Cast) (line : ℕ) (start header keep nodes jobs : LineSearch) → start ≡ record { before = line - 1; found = None }
    → header ≡ past start (0 ∷ [])
    → keep ≡ past header (if p.keeps then 0 ∷ [] else []) → nodes ≡ past keep (nodes_lines p cast 0 cast.node_count)
    → jobs ≡ past nodes (jobs_lines p cast 0 p.jobs)
    → found_in jobs ≡ line_in (instance_lines p cast) line
line_found p cast line start header keep nodes jobs s h k n j =
    let kept = if p.keeps then 0 ∷ [] else [] in
    let of_nodes = nodes_lines p cast 0 cast.node_count in
    let of_jobs = jobs_lines p cast 0 p.jobs in
    ap found_in (j ∙ ap (λ t. past t of_jobs) n ∙ sym (past_both keep of_nodes of_jobs) ∙ ap (λ t. past t (of_nodes ++ of_jobs)) k
    ∙ sym (past_both header kept (of_nodes ++ of_jobs)) ∙ ap (λ t. past t (kept ++ (of_nodes ++ of_jobs))) h ∙ ap (λ t. past t (instance_lines p cast)) s)
    ∙ finds (line - 1) (instance_lines p cast)

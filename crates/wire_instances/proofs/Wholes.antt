-- The last piece of a text is written, and a text is whole.
use Rattle.std.proofs.Common.{◌≡◌, ◌∙◌, ap, sym, ℕ, ◌+◌, ◌<◌, List, [], ◌∷◌, ◌++◌, Bool, Result, Ok, Err, OnOk, take, drop, map, flat_map, length, replicate, get_or, cond, is_ok}
use Rattle.std.proofs.Common.{append_assoc, append-nil, add-one}
use Rattle.std.proofs.lemmas.Grind.{flat_map-append}
use Rattle.wire_types.specs.Said as said
use Rattle.wire_types.specs.declared.Version.TheVariants.{Two}
use Rattle.wire_scripts.specs.Canonical.{line_text, keep_said}
use Rattle.wire_pattern.specs.Pattern.{Pattern, JobLine}
use Rattle.wire_pattern.specs.Instances.{Cast, nodes_said, jobs_said, instance_text, roles_from}
use Rattle.wire_instances.specs.Tables.{Scene}
use Rattle.wire_instances.specs.Written.{AgreeOn, rest_text, calls_text}
use Rattle.wire_instances.proofs.Texts.{moved, opened_list, get_or_same, then_words}

pub last_piece : {A E : Type 0} (r : Result A E) (old new a whole : List ℕ) → new ≡ cond (is_ok r) (old ++ a) old → a ≡ whole → OnOk r (new ≡ old ++ whole)
last_piece (Ok x) old new a whole more is = more ∙ ap (λ t. old ++ t) is
last_piece (Err e) old new a whole more is = tt

-- the name of a job, a colon, a star and a comma
pub job_written : {A E : Type 0} (r : Result A E) (old mid new shown name star : List ℕ) → mid ≡ old ++ shown → shown ≡ name → star ≡ 58 ∷ 42 ∷ 44 ∷ []
    → new ≡ cond (is_ok r) (mid ++ star) mid → OnOk r (new ≡ old ++ (((name ++ 58 ∷ 42 ∷ []) ++ 44 ∷ []) ++ []))
job_written (Ok x) old mid new shown name star first is all more =
    more ∙ ap (λ t. mid ++ t) all ∙ ap (λ t. t ++ 58 ∷ 42 ∷ 44 ∷ []) (first ∙ ap (λ t. old ++ t) is) ∙ append_assoc old name (58 ∷ 42 ∷ 44 ∷ [])
    ∙ ap (λ t. old ++ t) (sym (append_assoc name (58 ∷ 42 ∷ []) (44 ∷ [])) ∙ sym (append-nil ((name ++ 58 ∷ 42 ∷ []) ++ 44 ∷ [])))
job_written (Err e) old mid new shown name star first is all more = tt

-- a process and a key behind it
pub owned_written : {A E : Type 0} (r : Result A E) (old spaced mid new owner key : List ℕ) → spaced ≡ old ++ 32 ∷ [] → mid ≡ spaced ++ owner
    → OnOk r (new ≡ mid ++ rest_text (key ∷ [])) → OnOk r (new ≡ old ++ rest_text (owner ∷ key ∷ []))
owned_written (Ok x) old spaced mid new owner key first second last =
    last ∙ ap (λ t. t ++ rest_text (key ∷ [])) (second ∙ ap (λ t. t ++ owner) first) ∙ then_words old owner (key ∷ [])
owned_written (Err e) old spaced mid new owner key first second last = tt

-- the only call of a step
pub once_written : {A E : Type 0} (r : Result A E) (n : ℕ) (old new : List ℕ) (call : said.Call) (calls : List said.Call) → calls ≡ call ∷ []
    → OnOk r (AgreeOn n new (old ++ line_text (said.Calls call))) → OnOk r (AgreeOn n new (old ++ calls_text calls))
once_written (Ok x) n old new call calls is wrote =
    wrote ∙ ap (λ t. take n (old ++ t)) (sym (append-nil (line_text (said.Calls call))) ∙ ap calls_text (sym is))
once_written (Err e) n old new call calls is wrote = tt

-- the processes of one more role
pub roles_step : (sizes : List ℕ) (n : ℕ) (old now all : List ℕ) → n < length sizes → now ≡ old ++ replicate (get_or sizes n 0) n
    → old ++ roles_from n (drop n sizes) ≡ all → now ++ roles_from (n + 1) (drop (n + 1) sizes) ≡ all
roles_step sizes n old now all h more inv =
    let size = get_or sizes n 0 in
    moved old now (replicate size n) (roles_from (n + 1) (drop (n + 1) sizes)) (roles_from n (drop n sizes)) all more
    (ap (roles_from n) (opened_list sizes n size h (get_or_same sizes n 0 h))
    ∙ ap (λ m. replicate size n ++ roles_from m (drop (n + 1) sizes)) (sym (add-one n))) inv

-- the header, the nodes and the jobs
pub front_written : (n : ℕ) (p : Pattern) (cast : Cast) (frame : Scene) (keeps : Bool) (none header nodes jobs new : List ℕ) → none ≡ []
    → keeps ≡ p.keeps → header ≡ none ++ flat_map line_text (said.Header Two ∷ keep_said keeps)
    → nodes ≡ header ++ flat_map line_text (nodes_said 0 cast.node_count) → frame ≡ record { pattern = p; cast = cast }
    → AgreeOn n jobs (nodes ++ flat_map line_text (jobs_said frame.pattern frame.cast 0 (map (λ (j : JobLine). j.name) frame.pattern.jobs)))
    → new ≡ take n jobs → new ≡ take n (instance_text p cast)
front_written n p cast frame keeps none header nodes jobs new e0 k e1 e2 is e3 e =
    let first = said.Header Two ∷ keep_said p.keeps in
    let second = nodes_said 0 cast.node_count in
    let third = jobs_said p cast 0 (map (λ (j : JobLine). j.name) p.jobs) in
    e ∙ e3
    ∙ ap (λ (f : Scene). take n (nodes ++ flat_map line_text (jobs_said f.pattern f.cast 0 (map (λ (j : JobLine). j.name) f.pattern.jobs)))) is
    ∙ ap (λ t. take n (t ++ flat_map line_text third)) (e2 ∙ ap (λ t. t ++ flat_map line_text second)
    (e1 ∙ ap (λ t. t ++ flat_map line_text (said.Header Two ∷ keep_said keeps)) e0 ∙ ap (λ k. flat_map line_text (said.Header Two ∷ keep_said k)) k))
    ∙ ap (take n) (append_assoc (flat_map line_text first) (flat_map line_text second) (flat_map line_text third)
    ∙ sym (flat_map-append line_text first (second ++ third) ∙ ap (λ t. flat_map line_text first ++ t) (flat_map-append line_text second third)))

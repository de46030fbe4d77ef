-- What is declared has its lines in their order.
use Rattle.std.proofs.Common.{◌≡◌, ◌∙◌, ap, sym, subst, refl, ℕ, suc, ◌+◌, ◌-◌, ◌<◌, ◌≤◌, List, [], ◌∷◌, ◌++◌, Bool, true, false, cond, map, length, filter, flat_map, arith, append_assoc, append-nil}
use Rattle.std.proofs.Common.{length-append, true≢false, zero-add}
use Rattle.std.specs.Prelude.{◌==◌, ◌&&◌, not, ⊤}
use borrow.Author.Tests.{ltb-true, eqb-true, eq-eqb, ne_eqb}
use Rattle.std.proofs.lemmas.List.{map-append}
use Rattle.wire_types.specs.declared.Version.{Version}
use Rattle.wire_lines.specs.Said.{Call, Said, Header, Keep, Node, Job, Rank, Calls}
use Rattle.wire_reader.specs.declared.limits.Size.{Size}
use Rattle.wire_lines.proofs.Colon.{and_left}
use Rattle.wire_scripts.specs.Scripts.{text_at}
use Rattle.wire_scripts.specs.Canonical.{keep_said}
use Rattle.wire_reader.specs.FirstPass.{Name, Started, Declared, nothing, number_or_count, has_keep, after, with_call}
use Rattle.wire_reader.proofs.Changed.{IsTaken, Takes, with_calls}
use Rattle.wire_reader.proofs.Seen.{text_at_number}

-- the lines of a process, of a job and of the jobs from a number on
abbrev pub process_lines : List Name → Started → List Said
process_lines nodes p = Rank (text_at nodes p.node) ∷ map (λ c. Calls c.1) p.calls

abbrev pub of_job : List Started → ℕ → List Started
of_job ps n = filter (λ p. p.job == n) ps

abbrev pub job_lines : List Name → List Started → ℕ → Name → List Said
job_lines nodes ps n job = Job job ∷ flat_map (process_lines nodes) (of_job ps n)

abbrev pub jobs_lines : List Name → List Started → ℕ → List Name → List Said
jobs_lines nodes ps n [] = []
jobs_lines nodes ps n (job ∷ jobs) = job_lines nodes ps n job ++ jobs_lines nodes ps (n + 1) jobs

-- the lines of the nodes and the jobs
abbrev pub body_lines : Declared → List Said
body_lines d = map (λ n. Node n) d.nodes ++ jobs_lines d.nodes d.processes 0 d.jobs

abbrev pub declared_lines : Declared → List Said
declared_lines d = keep_said d.keeps ++ body_lines d

-- processes of jobs below a number
abbrev pub AllBelow : ℕ → List Started → Type 0
AllBelow n [] = ⊤
AllBelow n (p ∷ ps) = (p.job < n) × AllBelow n ps

pub record IsShaped (d : Declared) : Type 0 where
  pub below : AllBelow (length d.jobs) d.processes
  pub last : 0 < d.ranks → (qs : List Started) × (p : Started) × (d.processes ≡ qs ++ p ∷ []) × (p.job + 1 ≡ length d.jobs)

filter_push_yes : (f : Started → Bool) (qs : List Started) (p : Started) → f p ≡ true → filter f (qs ++ p ∷ []) ≡ filter f qs ++ p ∷ []
filter_push_yes f [] p h = rw h refl
filter_push_yes f (q ∷ qs) p h =
    elim (f q) as (λ t. cond t (q ∷ filter f (qs ++ p ∷ [])) (filter f (qs ++ p ∷ [])) ≡ cond t (q ∷ filter f qs) (filter f qs) ++ p ∷ []) [
      | true ↦ ap (λ t. q ∷ t) (filter_push_yes f qs p h)
      | false ↦ filter_push_yes f qs p h
    ]

filter_push_no : (f : Started → Bool) (qs : List Started) (p : Started) → f p ≡ false → filter f (qs ++ p ∷ []) ≡ filter f qs
filter_push_no f [] p h = rw h refl
filter_push_no f (q ∷ qs) p h =
    elim (f q) as (λ t. cond t (q ∷ filter f (qs ++ p ∷ [])) (filter f (qs ++ p ∷ [])) ≡ cond t (q ∷ filter f qs) (filter f qs)) [
      | true ↦ ap (λ t. q ∷ t) (filter_push_no f qs p h)
      | false ↦ filter_push_no f qs p h
    ]

flat_push : (f : Started → List Said) (qs : List Started) (p : Started) → flat_map f (qs ++ p ∷ []) ≡ flat_map f qs ++ f p
flat_push f [] p = append-nil (f p)
flat_push f (q ∷ qs) p = ap (λ t. f q ++ t) (flat_push f qs p) ∙ sym (append_assoc (f q) (flat_map f qs) (f p))

-- one more job
jobs_push : (nodes : List Name) (ps : List Started) (n : ℕ) (jobs : List Name) (j : Name) → jobs_lines nodes ps n (jobs ++ j ∷ []) ≡ jobs_lines nodes ps n jobs
    ++ job_lines nodes ps (n + length jobs) j
jobs_push nodes ps n [] j = let same : n + 0 ≡ n = omega arith in rw same (append-nil (job_lines nodes ps n j))
jobs_push nodes ps n (k ∷ jobs) j =
    let same : n + 1 + length jobs ≡ n + suc (length jobs) = omega arith in
    ap (λ t. job_lines nodes ps n k ++ t) (jobs_push nodes ps (n + 1) jobs j)
    ∙ sym (append_assoc (job_lines nodes ps n k) (jobs_lines nodes ps (n + 1) jobs) (job_lines nodes ps (n + 1 + length jobs) j))
    ∙ ap (λ m. (job_lines nodes ps n k ++ jobs_lines nodes ps (n + 1) jobs) ++ job_lines nodes ps m j) same

-- jobs of which the processes are the same
jobs_same : (nodes : List Name) (ps qs : List Started) (n : ℕ) (jobs : List Name) → ((i : ℕ) → i < n + length jobs → of_job ps i ≡ of_job qs i) →
    jobs_lines nodes ps n jobs ≡ jobs_lines nodes qs n jobs
jobs_same nodes ps qs n [] h = refl
jobs_same nodes ps qs n (k ∷ jobs) h =
    ap (λ t. (Job k ∷ flat_map (process_lines nodes) t) ++ jobs_lines nodes ps (n + 1) jobs) (h n (omega arith))
    ∙ ap (λ t. job_lines nodes qs n k ++ t) (jobs_same nodes ps qs (n + 1) jobs (λ i small. h i (omega arith)))

-- one more process of the last job
last_push : (nodes : List Name) (qs : List Started) (p : Started) (js : List Name) (j : Name) → p.job ≡ length js
    → jobs_lines nodes (qs ++ p ∷ []) 0 (js ++ j ∷ []) ≡ jobs_lines nodes qs 0 (js ++ j ∷ []) ++ process_lines nodes p
last_push nodes qs p js j at =
    jobs_push nodes (qs ++ p ∷ []) 0 js j
    ∙ ap (λ t. t ++ job_lines nodes (qs ++ p ∷ []) (0 + length js) j)
    (jobs_same nodes (qs ++ p ∷ []) qs 0 js (λ i small. filter_push_no (λ x. x.job == i) qs p (ne_eqb p.job i (λ e. omega arith))))
    ∙ ap (λ t. jobs_lines nodes qs 0 js ++ Job j ∷ t)
    (ap (flat_map (process_lines nodes)) (filter_push_yes (λ x. x.job == 0 + length js) qs p (eq-eqb p.job (0 + length js) (omega arith)))
    ∙ flat_push (process_lines nodes) (of_job qs (0 + length js)) p)
    ∙ sym (append_assoc (jobs_lines nodes qs 0 js) (job_lines nodes qs (0 + length js) j) (process_lines nodes p))
    ∙ ap (λ t. t ++ process_lines nodes p) (sym (jobs_push nodes qs 0 js j))

ends : (xs : List Name) → 0 < length xs → (ys : List Name) × (y : Name) × (xs ≡ ys ++ y ∷ [])
ends [] h = absurd (omega arith)
ends (x ∷ []) h = ([], x, refl)
ends (x ∷ z ∷ xs) h = let r = ends (z ∷ xs) (omega arith) in (x ∷ r.0, r.1, ap (λ t. x ∷ t) r.2)

-- one more process of the last of some jobs
job_push : (nodes jobs : List Name) (qs : List Started) (p : Started) → p.job + 1 ≡ length jobs → jobs_lines nodes (qs ++ p ∷ []) 0 jobs ≡ jobs_lines nodes qs 0 jobs ++ process_lines nodes p
job_push nodes jobs qs p at =
    let e = ends jobs (omega arith) in
    subst (λ t. jobs_lines nodes (qs ++ p ∷ []) 0 t ≡ jobs_lines nodes qs 0 t ++ process_lines nodes p) (sym e.2)
    (last_push nodes qs p e.0 e.1 (let n : length jobs ≡ length (e.0 ++ e.1 ∷ []) = ap length e.2 in omega (arith, length-append e.0 (e.1 ∷ []))))

call_last : (qs : List Started) (p : Started) (c : ℕ × Call) → with_call (qs ++ p ∷ []) c ≡ qs ++ with_calls p (p.calls ++ c ∷ []) ∷ []
call_last [] p c = refl
call_last (q ∷ []) p c = refl
call_last (q ∷ r ∷ qs) p c = ap (λ t. q ∷ t) (call_last (r ∷ qs) p c)

-- one more call of the last process
call_push : (nodes jobs : List Name) (qs : List Started) (p : Started) (c : ℕ × Call) → p.job + 1 ≡ length jobs
    → jobs_lines nodes (with_call (qs ++ p ∷ []) c) 0 jobs ≡ jobs_lines nodes (qs ++ p ∷ []) 0 jobs ++ Calls c.1 ∷ []
call_push nodes jobs qs p c at =
    let new = with_calls p (p.calls ++ c ∷ []) in
    let more : process_lines nodes new ≡ process_lines nodes p ++ Calls c.1 ∷ [] = ap (λ t. Rank (text_at nodes p.node) ∷ t) (map-append (λ x. Calls x.1) p.calls (c ∷ [])) in
    ap (λ t. jobs_lines nodes t 0 jobs) (call_last qs p c)
    ∙ job_push nodes jobs qs new at
    ∙ ap (λ t. jobs_lines nodes qs 0 jobs ++ t) more
    ∙ sym (append_assoc (jobs_lines nodes qs 0 jobs) (process_lines nodes p) (Calls c.1 ∷ []))
    ∙ ap (λ t. t ++ Calls c.1 ∷ []) (sym (job_push nodes jobs qs p at))

none_of : (n : ℕ) (ps : List Started) → AllBelow n ps → of_job ps n ≡ []
none_of n [] h = refl
none_of n (p ∷ ps) h = let e : (p.job == n) ≡ false = ne_eqb p.job n (λ e. let s = h.0 in omega arith) in rw e (none_of n ps h.1)

pub below_more : (n m : ℕ) (ps : List Started) → n ≤ m → AllBelow n ps → AllBelow m ps
below_more n m [] le h = h
below_more n m (p ∷ ps) le h = (let s = h.0 in omega arith, below_more n m ps le h.1)

pub below_push : (n : ℕ) (qs : List Started) (p : Started) → AllBelow n qs → p.job < n → AllBelow n (qs ++ p ∷ [])
below_push n [] p h s = (s, tt)
below_push n (q ∷ qs) p h s = (h.0, below_push n qs p h.1 s)

below_front : (n : ℕ) (qs : List Started) (p : Started) → AllBelow n (qs ++ p ∷ []) → AllBelow n qs
below_front n [] p h = tt
below_front n (q ∷ qs) p h = (h.0, below_front n qs p h.1)

node_push : (nodes jobs : List Name) (ps : List Started) (x : Name) → (length jobs == 0) ≡ true
    → map (λ n. Node n) (nodes ++ x ∷ []) ++ jobs_lines (nodes ++ x ∷ []) ps 0 jobs ≡ (map (λ n. Node n) nodes ++ jobs_lines nodes ps 0 jobs) ++ Node x ∷ []
node_push nodes [] ps x h =
    append-nil (map (λ n. Node n) (nodes ++ x ∷ [])) ∙ map-append (λ n. Node n) nodes (x ∷ []) ∙ ap (λ t. t ++ Node x ∷ []) (sym (append-nil (map (λ n. Node n) nodes)))
node_push nodes (j ∷ jobs) ps x h = let none = eqb-true (length (j ∷ jobs)) 0 h in absurd (omega arith)

-- where one more line of the jobs is a line at the end
at_end : (nodes : List Said) (old new : List Said) (a : Said) → new ≡ old ++ a ∷ [] → nodes ++ new ≡ (nodes ++ old) ++ a ∷ []
at_end nodes old new a e = ap (λ t. nodes ++ t) e ∙ sym (append_assoc nodes old (a ∷ []))

-- where `keep` is taken it is the first line
keep_first : (has keeps : Bool) (nodes jobs : List Name) (ps : List Started) → (has && (not keeps && (length nodes == 0 && length jobs == 0))) ≡ true
    → Keep ∷ (map (λ n. Node n) nodes ++ jobs_lines nodes ps 0 jobs) ≡ (keep_said keeps ++ (map (λ n. Node n) nodes ++ jobs_lines nodes ps 0 jobs)) ++ Keep ∷ []
keep_first true false [] [] ps h = refl
keep_first true false [] (j ∷ jobs) ps h = let none = eqb-true (length (j ∷ jobs)) 0 h in absurd (omega arith)
keep_first true false (n ∷ nodes) jobs ps h = let none = eqb-true (length (n ∷ nodes)) 0 (and_left _ _ h) in absurd (omega arith)
keep_first true true nodes jobs ps h = absurd (true≢false (sym h))
keep_first false keeps nodes jobs ps h = absurd (true≢false (sym h))

-- a line of the nodes and the jobs that is taken is the last of these
body_added : (d : Declared) (a : Said) → IsTaken d a → IsShaped d → (a ≡ Keep → ⊥) → body_lines (after d 0 a) ≡ body_lines d ++ a ∷ []
body_added d (Header version) t s other = absurd (true≢false (sym t.place))
body_added d Keep t s other = absurd (other refl)
body_added d (Node x) t s other = node_push d.nodes d.jobs d.processes x t.place
body_added d (Job j) t s other =
    at_end (map (λ n. Node n) d.nodes) (jobs_lines d.nodes d.processes 0 d.jobs) (jobs_lines d.nodes d.processes 0 (d.jobs ++ j ∷ [])) (Job j)
    (jobs_push d.nodes d.processes 0 d.jobs j
    ∙ ap (λ m. jobs_lines d.nodes d.processes 0 d.jobs ++ job_lines d.nodes d.processes m j) (zero-add (length d.jobs))
    ∙ ap (λ t. jobs_lines d.nodes d.processes 0 d.jobs ++ Job j ∷ flat_map (process_lines d.nodes) t) (none_of (length d.jobs) d.processes s.below))
body_added d (Rank node) t s other =
    let p : Started = record { job = length d.jobs - 1; rank = d.ranks; node = number_or_count d.nodes node; calls = [] } in
    let some = ltb-true _ _ t.place in
    at_end (map (λ n. Node n) d.nodes) (jobs_lines d.nodes d.processes 0 d.jobs) (jobs_lines d.nodes (d.processes ++ p ∷ []) 0 d.jobs) (Rank node)
    (job_push d.nodes d.jobs d.processes p (omega arith)
    ∙ ap (λ x. jobs_lines d.nodes d.processes 0 d.jobs ++ Rank x ∷ []) ((text_at_number d.nodes node t.known).1))
body_added d (Calls c) t s other =
    let l = s.last (ltb-true _ _ (and_left _ _ t.place)) in
    at_end (map (λ n. Node n) d.nodes) (jobs_lines d.nodes d.processes 0 d.jobs) (jobs_lines d.nodes (with_call d.processes (0, c)) 0 d.jobs) (Calls c)
    (subst (λ ps. jobs_lines d.nodes (with_call ps (0, c)) 0 d.jobs ≡ jobs_lines d.nodes ps 0 d.jobs ++ Calls c ∷ []) (sym l.2) (call_push d.nodes d.jobs l.0 l.1 (0, c) l.3))

-- a line that is taken is the last line
line_added : (d : Declared) (a : Said) → IsTaken d a → IsShaped d → declared_lines (after d 0 a) ≡ declared_lines d ++ a ∷ []
line_added d (Header version) t s = absurd (true≢false (sym t.place))
line_added d Keep t s = keep_first (has_keep d.version) d.keeps d.nodes d.jobs d.processes t.place
line_added d (Node x) t s = at_end (keep_said d.keeps) (body_lines d) (body_lines (after d 0 (Node x))) (Node x) (body_added d (Node x) t s (λ e. cc))
line_added d (Job j) t s = at_end (keep_said d.keeps) (body_lines d) (body_lines (after d 0 (Job j))) (Job j) (body_added d (Job j) t s (λ e. cc))
line_added d (Rank node) t s = at_end (keep_said d.keeps) (body_lines d) (body_lines (after d 0 (Rank node))) (Rank node) (body_added d (Rank node) t s (λ e. cc))
line_added d (Calls c) t s = at_end (keep_said d.keeps) (body_lines d) (body_lines (after d 0 (Calls c))) (Calls c) (body_added d (Calls c) t s (λ e. cc))

shape_kept : (d : Declared) (a : Said) → IsTaken d a → IsShaped d → IsShaped (after d 0 a)
shape_kept d (Header version) t s = s
shape_kept d Keep t s = record { below = s.below; last = s.last }
shape_kept d (Node x) t s = record { below = s.below; last = s.last }
shape_kept d (Job j) t s = record {
  below = below_more (length d.jobs) (length (d.jobs ++ j ∷ [])) d.processes (omega (arith, length-append d.jobs (j ∷ []))) s.below;
  last = λ h. absurd (omega arith);
}
shape_kept d (Rank node) t s =
    let p : Started = record { job = length d.jobs - 1; rank = d.ranks; node = number_or_count d.nodes node; calls = [] } in
    let some = ltb-true _ _ t.place in
    record {
      below = below_push (length d.jobs) d.processes p s.below (omega arith);
      last = λ h. (d.processes, p, refl, omega arith);
    }
shape_kept d (Calls c) t s =
    let l = s.last (ltb-true _ _ (and_left _ _ t.place)) in
    let new = with_calls l.1 (l.1.calls ++ (0, c) ∷ []) in
    let is : with_call d.processes (0, c) ≡ l.0 ++ new ∷ [] = ap (λ ps. with_call ps (0, c)) l.2 ∙ call_last l.0 l.1 (0, c) in
    let front = below_front (length d.jobs) l.0 l.1 (subst (AllBelow (length d.jobs)) l.2 s.below) in
    record {
      below = subst (AllBelow (length d.jobs)) (sym is) (below_push (length d.jobs) l.0 new front (let h = l.3 in omega arith));
      last = λ h. (l.0, new, is, l.3);
    }

-- the lines that lead from one declaration to another stand at the end
pub lines_added : (xs : List Said) (d e : Declared) → Takes xs d e → IsShaped d → (declared_lines e ≡ declared_lines d ++ xs) × IsShaped e
lines_added [] d e t s = (ap declared_lines (sym t) ∙ sym (append-nil (declared_lines d)), subst IsShaped t s)
lines_added (a ∷ xs) d e t s =
    let r = lines_added xs (after d 0 a) e t.2 (shape_kept d a t.1 s) in
    (r.0 ∙ ap (λ x. x ++ xs) (line_added d a t.1 s) ∙ append_assoc (declared_lines d) (a ∷ []) xs, r.1)

pub nothing_shaped : (size : Size) (v : Version) → IsShaped (nothing size v)
nothing_shaped size v = record { below = tt; last = λ h. absurd (omega arith) }

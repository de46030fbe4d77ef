-- The lines of an instance declare its processes, in their order.
use Rattle.std.proofs.Common.{◌≡◌, ◌∙◌, ap, sym, subst, refl, ℕ, zero, suc, ◌+◌, ◌-◌, ◌<◌, ◌≤◌, List, [], ◌∷◌, ◌++◌, map, length, length-append, append_assoc, append-nil, Bool, true, false, Some, slice_get, slice_index_or, filter, inl, inr, if◌then◌else◌, arith}
use Rattle.std.specs.Prelude.{◌==◌, ⊤}
use Rattle.std.proofs.lemmas.Bool.{cases_lt}
use Rattle.std.proofs.lemmas.List.{length-map, map-append}
use Rattle.std.proofs.lemmas.Option.{none-some, same_Some}
use borrow.Author.Tests.{eqb-true, eq-eqb, ne_eqb}
use Rattle.wire_types.specs.Said.{Call, Said, Keep, Node, Job, Rank, Calls}
use Rattle.wire_scripts.specs.Canonical.{keep_said}
use Rattle.wire_reader.specs.FirstPass.{Name, number_or_count}
use Rattle.wire_pattern.specs.Pattern.{JobLine, Pattern}
use Rattle.wire_pattern.specs.Planned.{steps_in}
use Rattle.wire_pattern.specs.Instances.{Cast, cast_of, job_in, number_in, node_name, nodes_said, process_said, members_said, jobs_said, steps_lines, members_lines, jobs_lines, node_line, nodes_lines, instance_lines}
use Rattle.wire_instance_laws.proofs.Roles.{RolesRise}
use Rattle.wire_instance_laws.specs.Lined.{line_in}
use Rattle.wire_instance_laws.proofs.Made.{Turned, in_steps, said_by, steps_are_said, number_by, steps_are_numbered}
use Rattle.wire_instance_laws.proofs.Folded.{Marked, marked, marked_call, Row, View, with_rows, viewed, all_viewed, both_viewed, process_viewed}

-- the rows of a job, and of jobs from a number on
abbrev pub of_job : ℕ → List Row → List Row
of_job job rows = filter (λ (r : Row). r.job == job) rows

abbrev pub pieces : ℕ → List Name → List Row → List Row
pieces n [] rows = []
pieces n (name ∷ names) rows = of_job n rows ++ pieces (suc n) names rows

-- rows in the order of their jobs, from one on and below another
abbrev pub JobsRise : ℕ → ℕ → List Row → Type 0
JobsRise least bound [] = ⊤
JobsRise least bound (r ∷ rs) = (least ≤ r.job) × (r.job < bound) × JobsRise r.job bound rs

rise_less : (m least bound : ℕ) (rows : List Row) → m ≤ least → JobsRise least bound rows → JobsRise m bound rows
rise_less m least bound [] le h = tt
rise_less m least bound (r ∷ rs) le h = (let l = h.0 in omega (arith, le, l), h.1, h.2)

none_of : (n least bound : ℕ) (rows : List Row) → n < least → JobsRise least bound rows → of_job n rows ≡ []
none_of n least bound [] low h = refl
none_of n least bound (r ∷ rs) low h =
    let other : (r.job == n) ≡ false = ne_eqb r.job n (λ e. let l = h.0 in omega (arith, low, l, e)) in
    rw other (none_of n r.job bound rs (let l = h.0 in omega (arith, low, l)) h.2)

-- one row more at the front of the pieces
front_passed : (n : ℕ) (names : List Name) (r : Row) (rows : List Row) → r.job < n → pieces n names (r ∷ rows) ≡ pieces n names rows
front_passed n [] r rows low = refl
front_passed n (name ∷ names) r rows low =
    let other : (r.job == n) ≡ false = ne_eqb r.job n (λ e. omega (arith, low, e)) in
    rw other (ap (λ t. of_job n rows ++ t) (front_passed (suc n) names r rows (omega (arith, low))))

front_piece : (n : ℕ) (names : List Name) (r : Row) (rows : List Row) → n ≤ r.job → r.job < n + length names → JobsRise r.job (n + length names) rows
    → pieces n names (r ∷ rows) ≡ r ∷ pieces n names rows
front_piece n [] r rows le low h = absurd (omega (arith, le, low))
front_piece n (name ∷ names) r rows le low h = elim (cases_lt n r.job) [
  | inl later ↦
      let other : (r.job == n) ≡ false = ne_eqb r.job n (λ e. omega (arith, later, e)) in
      let none : of_job n rows ≡ [] = none_of n r.job (n + length (name ∷ names)) rows later h in
      let s : n + length (name ∷ names) ≡ suc n + length names = omega arith in
      let rest = front_piece (suc n) names r rows later (omega (arith, low)) (subst (λ b. JobsRise r.job b rows) s h) in
      rw (other, none) rest
  | inr here ↦
      let same : (r.job == n) ≡ true = eq-eqb r.job n (omega (arith, le, here)) in
      rw same (ap (λ t. r ∷ (of_job n rows ++ t)) (front_passed (suc n) names r rows (omega (arith, le, here))))
]

pub pieces_all : (n : ℕ) (names : List Name) (rows : List Row) → JobsRise n (n + length names) rows → pieces n names rows ≡ rows
pieces_all n names [] h = nothing n names
  where
    nothing : (n : ℕ) (names : List Name) → pieces n names [] ≡ []
    nothing n [] = refl
    nothing n (name ∷ names) = nothing (suc n) names
pieces_all n names (r ∷ rows) h =
    front_piece n names r rows h.0 h.1 h.2 ∙ ap (λ t. r ∷ t) (pieces_all n names rows (rise_less n r.job (n + length names) rows h.0 h.2))

-- names of nodes
abbrev pub names_from : ℕ → ℕ → List Name
names_from n zero = []
names_from n (suc k) = node_name n ∷ names_from (suc n) k

abbrev pub first : Marked → ℕ
first m = m.0

abbrev pub second : Marked → Said
second m = m.1

module _ (p : Pattern) (cast : Cast) where
  abbrev pub made : ℕ → ℕ → List Turned
  made v role = in_steps (cast_of cast) v 0 (steps_in (slice_get p.roles role))

  -- what a line says, with its number
  abbrev pub marked_by : ℕ → Turned → ℕ × Call
  marked_by v t = (number_by t, said_by p cast v t)

  -- the lines of the text, each with the line of the pattern that it comes from
  abbrev pub marked_process : ℕ → ℕ → List Marked
  marked_process v role =
      (number_in (slice_get p.roles role), Rank (node_name ((cast_of cast).nodes v))) ∷ map marked_call (map (marked_by v) (made v role))

  abbrev pub marked_members : ℕ → ℕ → List ℕ → List Marked
  marked_members job v [] = []
  marked_members job v (role ∷ roles) =
      (if job_in (slice_get p.roles role) == job then marked_process v role else []) ++ marked_members job (suc v) roles

  abbrev pub marked_jobs : ℕ → List JobLine → List Marked
  marked_jobs n [] = []
  marked_jobs n (job ∷ jobs) = (job.number, Job job.name) ∷ (marked_members n 0 (cast_of cast).roles ++ marked_jobs (suc n) jobs)

  abbrev pub marked_nodes : ℕ → ℕ → List Marked
  marked_nodes n zero = []
  marked_nodes n (suc k) = (node_line p n (cast_of cast).roles cast.nodes, Node (node_name n)) ∷ marked_nodes (suc n) k

  abbrev pub marked_keep : Bool → List Marked
  marked_keep true = (0, Keep) ∷ []
  marked_keep false = []

  abbrev pub marked_lines : List Marked
  marked_lines = marked_keep p.keeps ++ (marked_nodes 0 cast.node_count ++ marked_jobs 0 p.jobs)

  -- their lines are those that are said
  said_calls : (v : ℕ) (ts : List Turned) → map second (map marked_call (map (marked_by v) ts)) ≡ map Calls (map (said_by p cast v) ts)
  said_calls v [] = refl
  said_calls v (t ∷ ts) = ap (λ cs. Calls (said_by p cast v t) ∷ cs) (said_calls v ts)

  said_process : (v role : ℕ) → map second (marked_process v role) ≡ process_said p cast v role
  said_process v role =
      ap (λ cs. Rank (node_name ((cast_of cast).nodes v)) ∷ cs)
      (said_calls v (made v role) ∙ ap (map Calls) (sym (steps_are_said p cast v 0 (steps_in (slice_get p.roles role)))))

  said_members : (job v : ℕ) (roles : List ℕ) → map second (marked_members job v roles) ≡ members_said p cast job v roles
  said_members job v [] = refl
  said_members job v (role ∷ roles) =
      map-append second (if job_in (slice_get p.roles role) == job then marked_process v role else []) (marked_members job (suc v) roles)
      ∙ (λ i. elim (job_in (slice_get p.roles role) == job) as (λ b. map second (if b then marked_process v role else []) ≡ (if b then process_said p cast v role else [])) [
        | true ↦ said_process v role
        | false ↦ refl
      ] i ++ said_members job (suc v) roles i)

  said_jobs : (n : ℕ) (jobs : List JobLine) → map second (marked_jobs n jobs) ≡ jobs_said p cast n (map (λ (j : JobLine). j.name) jobs)
  said_jobs n [] = refl
  said_jobs n (job ∷ jobs) =
      ap (λ t. Job job.name ∷ t)
      (map-append second (marked_members n 0 (cast_of cast).roles) (marked_jobs (suc n) jobs) ∙ (λ i. said_members n 0 (cast_of cast).roles i ++ said_jobs (suc n) jobs i))

  said_nodes : (n k : ℕ) → map second (marked_nodes n k) ≡ nodes_said n k
  said_nodes n zero = refl
  said_nodes n (suc k) = ap (λ t. Node (node_name n) ∷ t) (said_nodes (suc n) k)

  said_keep : (b : Bool) → map second (marked_keep b) ≡ keep_said b
  said_keep true = refl
  said_keep false = refl

  pub said_lines : map second marked_lines ≡ keep_said p.keeps ++ (nodes_said 0 cast.node_count ++ jobs_said p cast 0 (map (λ (j : JobLine). j.name) p.jobs))
  said_lines =
      map-append second (marked_keep p.keeps) (marked_nodes 0 cast.node_count ++ marked_jobs 0 p.jobs)
      ∙ ap (λ t. map second (marked_keep p.keeps) ++ t) (map-append second (marked_nodes 0 cast.node_count) (marked_jobs 0 p.jobs))
      ∙ (λ i. said_keep p.keeps i ++ (said_nodes 0 cast.node_count i ++ said_jobs 0 p.jobs i))

  -- and their numbers are those of the pattern's lines
  number_calls : (v : ℕ) (ts : List Turned) → map first (map marked_call (map (marked_by v) ts)) ≡ map number_by ts
  number_calls v [] = refl
  number_calls v (t ∷ ts) = ap (λ ns. number_by t ∷ ns) (number_calls v ts)

  number_process : (v role : ℕ) → map first (marked_process v role) ≡ number_in (slice_get p.roles role) ∷ steps_lines cast v 0 (steps_in (slice_get p.roles role))
  number_process v role =
      ap (λ ns. number_in (slice_get p.roles role) ∷ ns)
      (number_calls v (made v role) ∙ sym (steps_are_numbered cast v 0 (steps_in (slice_get p.roles role))))

  number_members : (job v : ℕ) (roles : List ℕ) → map first (marked_members job v roles) ≡ members_lines p cast job v roles
  number_members job v [] = refl
  number_members job v (role ∷ roles) =
      map-append first (if job_in (slice_get p.roles role) == job then marked_process v role else []) (marked_members job (suc v) roles)
      ∙ (λ i. elim (job_in (slice_get p.roles role) == job) as (λ b. map first (if b then marked_process v role else [])
      ≡ (if b then number_in (slice_get p.roles role) ∷ steps_lines cast v 0 (steps_in (slice_get p.roles role)) else [])) [
        | true ↦ number_process v role
        | false ↦ refl
      ] i ++ number_members job (suc v) roles i)

  number_jobs : (n : ℕ) (jobs : List JobLine) → map first (marked_jobs n jobs) ≡ jobs_lines p cast n jobs
  number_jobs n [] = refl
  number_jobs n (job ∷ jobs) =
      ap (λ t. job.number ∷ t)
      (map-append first (marked_members n 0 (cast_of cast).roles) (marked_jobs (suc n) jobs) ∙ (λ i. number_members n 0 (cast_of cast).roles i ++ number_jobs (suc n) jobs i))

  number_nodes : (n k : ℕ) → map first (marked_nodes n k) ≡ nodes_lines p cast n k
  number_nodes n zero = refl
  number_nodes n (suc k) = ap (λ t. node_line p n (cast_of cast).roles cast.nodes ∷ t) (number_nodes (suc n) k)

  number_keep : (b : Bool) → map first (marked_keep b) ≡ (if b then 0 ∷ [] else [])
  number_keep true = refl
  number_keep false = refl

  pub number_lines : 0 ∷ map first marked_lines ≡ instance_lines p cast
  number_lines = ap (λ t. 0 ∷ t)
      (map-append first (marked_keep p.keeps) (marked_nodes 0 cast.node_count ++ marked_jobs 0 p.jobs)
      ∙ ap (λ t. map first (marked_keep p.keeps) ++ t) (map-append first (marked_nodes 0 cast.node_count) (marked_jobs 0 p.jobs))
      ∙ (λ i. number_keep p.keeps i ++ (number_nodes 0 cast.node_count i ++ number_jobs 0 p.jobs i)))

  -- the row of the process v of a role
  abbrev pub row_at : List Name → ℕ → ℕ → Row
  row_at nodes v role = record {
    job = job_in (slice_get p.roles role);
    node = number_or_count nodes (node_name ((cast_of cast).nodes v));
    calls = map (marked_by v) (made v role);
  }

  abbrev pub rows_from : List Name → ℕ → List ℕ → List Row
  rows_from nodes v [] = []
  rows_from nodes v (role ∷ roles) = row_at nodes v role ∷ rows_from nodes (suc v) roles

  nodes_viewed : (n k : ℕ) (w : View) → all_viewed w (marked_nodes n k) ≡ record { keeps = w.keeps; nodes = w.nodes ++ names_from n k; jobs = w.jobs; rows = w.rows }
  nodes_viewed n zero w = ap (λ ns. record { keeps = w.keeps; nodes = ns; jobs = w.jobs; rows = w.rows }) (sym (append-nil w.nodes))
  nodes_viewed n (suc k) w =
      nodes_viewed (suc n) k (viewed w 0 (Node (node_name n)))
      ∙ ap (λ ns. record { keeps = w.keeps; nodes = ns; jobs = w.jobs; rows = w.rows }) (append_assoc w.nodes (node_name n ∷ []) (names_from (suc n) k))

  member_viewed : (w : View) (v role : ℕ) → length w.jobs - 1 ≡ job_in (slice_get p.roles role) → all_viewed w (marked_process v role) ≡ with_rows w (w.rows ++ row_at w.nodes v role ∷ [])
  member_viewed w v role e =
      process_viewed w (number_in (slice_get p.roles role)) (node_name ((cast_of cast).nodes v)) (map (marked_by v) (made v role))
      ∙ ap (λ j. with_rows w (w.rows ++ record {
        job = j;
        node = number_or_count w.nodes (node_name ((cast_of cast).nodes v));
        calls = map (marked_by v) (made v role);
      } ∷ [])) e

  members_viewed : (job v : ℕ) (roles : List ℕ) (w : View) → length w.jobs - 1 ≡ job → all_viewed w (marked_members job v roles) ≡ with_rows w (w.rows ++ of_job job (rows_from w.nodes v roles))
  members_viewed job v [] w e = ap (with_rows w) (sym (append-nil w.rows))
  members_viewed job v (role ∷ roles) w e =
      elim (job_in (slice_get p.roles role) == job) as (λ b. (job_in (slice_get p.roles role) == job) ≡ b
      → all_viewed w ((if b then marked_process v role else []) ++ marked_members job (suc v) roles)
      ≡ with_rows w (w.rows ++ (if b then row_at w.nodes v role ∷ of_job job (rows_from w.nodes (suc v) roles) else of_job job (rows_from w.nodes (suc v) roles)))) [
        | true ↦ λ t.
            let same : length w.jobs - 1 ≡ job_in (slice_get p.roles role) = e ∙ sym (eqb-true _ _ t) in
            both_viewed w (marked_process v role) (marked_members job (suc v) roles)
            ∙ ap (λ x. all_viewed x (marked_members job (suc v) roles)) (member_viewed w v role same)
            ∙ members_viewed job (suc v) roles (with_rows w (w.rows ++ row_at w.nodes v role ∷ [])) e
            ∙ ap (with_rows w) (append_assoc w.rows (row_at w.nodes v role ∷ []) (of_job job (rows_from w.nodes (suc v) roles)))
        | false ↦ λ t. members_viewed job (suc v) roles w e
      ] refl

  jobs_viewed : (n : ℕ) (jobs : List JobLine) (w : View) → length w.jobs ≡ n → all_viewed w (marked_jobs n jobs) ≡ record {
    keeps = w.keeps;
    nodes = w.nodes;
    jobs = w.jobs ++ map (λ (j : JobLine). j.name) jobs;
    rows = w.rows ++ pieces n (map (λ (j : JobLine). j.name) jobs) (rows_from w.nodes 0 (cast_of cast).roles);
  }
  jobs_viewed n [] w e = λ i. record { keeps = w.keeps; nodes = w.nodes; jobs = sym (append-nil w.jobs) i; rows = sym (append-nil w.rows) i }
  jobs_viewed n (job ∷ jobs) w e =
      let names = map (λ (j : JobLine). j.name) jobs in
      let one = viewed w job.number (Job job.name) in
      let all = rows_from w.nodes 0 (cast_of cast).roles in
      let more = length-append w.jobs (job.name ∷ []) in
      let two = with_rows one (w.rows ++ of_job n all) in
      both_viewed one (marked_members n 0 (cast_of cast).roles) (marked_jobs (suc n) jobs)
      ∙ ap (λ x. all_viewed x (marked_jobs (suc n) jobs)) (members_viewed n 0 (cast_of cast).roles one (omega (arith, more, e)))
      ∙ jobs_viewed (suc n) jobs two (omega (arith, more, e))
      ∙ (λ i. record {
        keeps = w.keeps;
        nodes = w.nodes;
        jobs = append_assoc w.jobs (job.name ∷ []) names i;
        rows = append_assoc w.rows (of_job n all) (pieces (suc n) names all) i;
      })

  -- what is declared by all lines, where nothing is before them
  abbrev pub expected : View
  expected = record {
    keeps = p.keeps;
    nodes = names_from 0 cast.node_count;
    jobs = map (λ (j : JobLine). j.name) p.jobs;
    rows = rows_from (names_from 0 cast.node_count) 0 (cast_of cast).roles;
  }

  abbrev pub no_view : View
  no_view = record { keeps = false; nodes = []; jobs = []; rows = [] }

  keep_viewed : (b : Bool) → all_viewed no_view (marked_keep b) ≡ record { keeps = b; nodes = []; jobs = []; rows = [] }
  keep_viewed true = refl
  keep_viewed false = refl

  -- roles in their order have jobs in their order
  rows_rise : (nodes : List Name) (least m v : ℕ) (roles : List ℕ) → RolesRise m (length p.roles) roles
      → ((r s : ℕ) → r ≤ s → s < length p.roles → job_in (slice_get p.roles r) ≤ job_in (slice_get p.roles s))
      → ((r : ℕ) → r < length p.roles → job_in (slice_get p.roles r) < length p.jobs)
      → ((r : ℕ) → m ≤ r → r < length p.roles → least ≤ job_in (slice_get p.roles r)) → JobsRise least (length p.jobs) (rows_from nodes v roles)
  rows_rise nodes least m v [] h together below from = tt
  rows_rise nodes least m v (r ∷ roles) h together below from = (
    from r h.0 h.1,
    below r h.1,
    rows_rise nodes (job_in (slice_get p.roles r)) r (suc v) roles h.2 together below (λ s le low. together r s le low),
  )

  pub lines_viewed : (sorted : JobsRise 0 (length p.jobs) (rows_from (names_from 0 cast.node_count) 0 (cast_of cast).roles)) → all_viewed no_view marked_lines ≡ expected
  lines_viewed sorted =
      let names = map (λ (j : JobLine). j.name) p.jobs in
      let nodes = marked_nodes 0 cast.node_count in
      let jobs = marked_jobs 0 p.jobs in
      let kept : View = record { keeps = p.keeps; nodes = []; jobs = []; rows = [] } in
      let noded : View = record { keeps = p.keeps; nodes = names_from 0 cast.node_count; jobs = []; rows = [] } in
      let all = rows_from (names_from 0 cast.node_count) 0 (cast_of cast).roles in
      let many : length p.jobs ≡ 0 + length names = sym (length-map p.jobs (λ (j : JobLine). j.name)) ∙ from_zero (length names) in
      both_viewed no_view (marked_keep p.keeps) (nodes ++ jobs)
      ∙ ap (λ x. all_viewed x (nodes ++ jobs)) (keep_viewed p.keeps)
      ∙ both_viewed kept nodes jobs
      ∙ ap (λ x. all_viewed x jobs) (nodes_viewed 0 cast.node_count kept)
      ∙ jobs_viewed 0 p.jobs noded refl
      ∙ ap (λ rows. record { keeps = p.keeps; nodes = names_from 0 cast.node_count; jobs = names; rows = rows }) (pieces_all 0 names all (subst (λ b. JobsRise 0 b all) many sorted))
    where
      from_zero : (n : ℕ) → n ≡ 0 + n
      from_zero n = omega arith

  pub sorted_rows : (nodes : List Name) → RolesRise 0 (length p.roles) (cast_of cast).roles
      → ((r s : ℕ) → r ≤ s → s < length p.roles → job_in (slice_get p.roles r) ≤ job_in (slice_get p.roles s))
      → ((r : ℕ) → r < length p.roles → job_in (slice_get p.roles r) < length p.jobs) → JobsRise 0 (length p.jobs) (rows_from nodes 0 (cast_of cast).roles)
  sorted_rows nodes rise together below = rows_rise nodes 0 0 0 (cast_of cast).roles rise together below (λ r le low. omega arith)

  -- the row of each process
  pub row_stands : (nodes : List Name) (n : ℕ) (roles : List ℕ) (v role : ℕ) → slice_get roles v ≡ Some role → slice_get (rows_from nodes n roles) v ≡ Some (row_at nodes (n + v) role)
  row_stands nodes n [] v role at = absurd (none-some role at)
  row_stands nodes n (r ∷ roles) zero role at =
      let s : n ≡ n + 0 = omega arith in
      (λ i. Some (row_at nodes (s i) (same_Some _ _ at i)))
  row_stands nodes n (r ∷ roles) (suc v) role at =
      let s : suc n + v ≡ n + suc v = omega arith in
      row_stands nodes (suc n) roles v role at ∙ ap (λ k. Some (row_at nodes k role)) s

  pub rows_length : (nodes : List Name) (n : ℕ) (roles : List ℕ) → length (rows_from nodes n roles) ≡ length roles
  rows_length nodes n [] = refl
  rows_length nodes n (r ∷ roles) = ap suc (rows_length nodes (suc n) roles)

  -- each process has a line
  rank_line : (n v : ℕ) (roles : List ℕ) → length (of_job n (rows_from [] v roles)) ≤ length (members_said p cast n v roles)
  rank_line n v [] = omega arith
  rank_line n v (role ∷ roles) =
      let rest = rank_line n (suc v) roles in
      elim (job_in (slice_get p.roles role) == n) as (λ b. length (if b then row_at [] v role ∷ of_job n (rows_from [] (suc v) roles) else of_job n (rows_from [] (suc v) roles))
      ≤ length ((if b then process_said p cast v role else []) ++ members_said p cast n (suc v) roles)) [
        | true ↦
            let long = length-append (process_said p cast v role) (members_said p cast n (suc v) roles) in
            omega (arith, rest, long)
        | false ↦ rest
      ]

  pub rank_lines : (n : ℕ) (names : List Name) → length (pieces n names (rows_from [] 0 (cast_of cast).roles)) ≤ length (jobs_said p cast n names)
  rank_lines n [] = omega arith
  rank_lines n (name ∷ names) =
      let all = rows_from [] 0 (cast_of cast).roles in
      let rest = rank_lines (suc n) names in
      let here = rank_line n 0 (cast_of cast).roles in
      let left = length-append (of_job n all) (pieces (suc n) names all) in
      let right = length-append (members_said p cast n 0 (cast_of cast).roles) (jobs_said p cast (suc n) names) in
      omega (arith, rest, here, left, right)

-- lines that are marked by their places in a list have the marks of that list
index_after : (before : List ℕ) (x : ℕ) (rest : List ℕ) → slice_index_or (before ++ x ∷ rest) (length before) 0 ≡ x
index_after [] x rest = refl
index_after (b ∷ before) x rest = index_after before x rest

pub marked_again : (before : List ℕ) (ms : List Marked) (n : ℕ) → n ≡ length before + 1 → marked (line_in (before ++ map first ms)) n (map second ms) ≡ ms
marked_again before [] n e = refl
marked_again before (m ∷ ms) n e =
    let one : n - 1 ≡ length before = omega (arith, e) in
    let here : line_in (before ++ m.0 ∷ map first ms) n ≡ m.0 = ap (λ k. slice_index_or (before ++ m.0 ∷ map first ms) k 0) one ∙ index_after before m.0 (map first ms) in
    let long : length (before ++ m.0 ∷ []) ≡ length before + 1 = length-append before (m.0 ∷ []) in
    let rest : marked (line_in (before ++ m.0 ∷ map first ms)) (n + 1) (map second ms) ≡ ms =
    ap (λ ls. marked (line_in ls) (n + 1) (map second ms)) (sym (append_assoc before (m.0 ∷ []) (map first ms)))
    ∙ marked_again (before ++ m.0 ∷ []) ms (n + 1) (omega (arith, e, long)) in
    λ i. (here i, m.1) ∷ rest i

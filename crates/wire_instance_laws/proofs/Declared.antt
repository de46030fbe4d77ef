-- What the text of an instance declares, where it reads as scripts: the processes of the cast.
use Rattle.std.proofs.Common.{◌≡◌, ◌∙◌, ap, sym, subst, refl, ℕ, zero, suc, ◌+◌, ◌<◌, ◌≤◌, ◌^◌, List, [], ◌∷◌, ◌++◌, map, take, length, length-append, codes, decimal, Bool, true, false, cond, Some, slice_get, flat_map, count_by, Result, Ok, Err, MatchResult, inl, inr, arith}
use Rattle.std.specs.Prelude.{◌==◌, not, nat_lt, if◌then◌else◌}
use Rattle.std.specs.List.{join_with_byte, position_or_len}
use Rattle.std.specs.Str.{bytes_eq}
use Rattle.std.proofs.lemmas.Bool.{and_from, false_from_ne_true}
use Rattle.std.proofs.lemmas.Fmt.{decimal_injective}
use Rattle.std.proofs.lemmas.List.{length-map}
use Rattle.std.proofs.lemmas.List.Sums.{sum_by-cons}
use Rattle.std.proofs.lemmas.Slice.Eq.{bytes_eq-Decides}
use borrow.Author.Tests.{ltb-true, eqb-true, eq-eqb}
use Rattle.wire_types.specs.declared.Fault.{Fault}
use Rattle.wire_types.specs.Said as said
use Rattle.wire_types.specs.Said.{Said, Header, Keep, Node, Job, Rank, Calls, first_word, other_words}
use Rattle.wire_runs.proofs.Lists.{slice_get-map_kept, slice_get-map_back}
use Rattle.wire_lines.specs.Text.{lines_of}
use Rattle.wire_lines.proofs.Colon.{and_left, and_right}
use Rattle.wire_scripts.specs.Process.{Process}
use Rattle.wire_scripts.specs.Map as content
use Rattle.wire_scripts.specs.Scripts.{Scripts, text_at}
use Rattle.wire_scripts.specs.Canonical.{keep_said, line_text}
use Rattle.wire_reader.specs.declared.limits.Size.{Size}
use Rattle.wire_reader.specs.declared.limits.Size.TheVariants.{OfVersion, Large}
use Rattle.wire_reader.specs.Limits.{file_bytes}
use Rattle.wire_reader.specs.Statements.{statements}
use Rattle.wire_reader.specs.FirstPass.{Name, Started, Declared, nothing, number_or_count, FirstPass}
use Rattle.wire_reader.specs.Reads.{Reads, is_proc, proc_number, seen_in, process_of, scripts_of, first_fault, second_pass}
use Rattle.wire_reader.proofs.Recut.{numbered_lines, said_again}
use Rattle.wire_reader.proofs.Once.{second_ok}
use Rattle.wire_reader.proofs.Ranked.{IsGood, run_good, number_at, one_process}
use Rattle.wire_reader.proofs.Numbered.{ranked}
use Rattle.wire_pattern.specs.Pattern.{JobLine, Pattern}
use Rattle.wire_pattern.specs.Planned.{steps_in}
use Rattle.wire_pattern.specs.Instances.{Cast, IsCast, process_count, cast_of, job_in, process_jobs, job_at, rank_at, job_name, steps_said, steps_lines, node_name, nodes_said, jobs_said, instance_said, instance_lines, instance_text}
use Rattle.wire_pattern.specs.Lawful.{IsSoundPattern}
use Rattle.wire_instance_laws.specs.Lined.{line_in}
use Rattle.wire_instance_laws.proofs.Made.{Turned, said_by, steps_are_said, number_by, steps_are_numbered}
use Rattle.wire_instance_laws.proofs.Roles.{RolesRise, count_is, roles_rise, index_at, stands as stands_at}
use Rattle.wire_instance_laws.proofs.Facts.{all_at, job_is, role_at, job_of_role, job_low}
use Rattle.wire_instance_laws.proofs.Lawful.{lines_lawful}
use Rattle.wire_instance_laws.proofs.Folded.{marked, Row, View, row_of, view, all_viewed, numbered, lines_run, view_run}
use Rattle.wire_instance_laws.proofs.Rows.{JobsRise, pieces, pieces_all, names_from, second, made, marked_by, marked_lines, said_lines, number_lines, marked_again, row_at, rows_from, expected, no_view, lines_viewed, sorted_rows, row_stands, rows_length, rank_lines}

-- a text has at least two bytes for each line
join_long : (w : List ℕ) (ws : List (List ℕ)) → length w ≤ length (join_with_byte 32 (w ∷ ws))
join_long w [] = omega arith
join_long w (v ∷ vs) = let long = length-append w (32 ∷ join_with_byte 32 (v ∷ vs)) in omega (arith, long)

first_some : (a : Said) → 0 < length (first_word a)
first_some (Header version) = omega arith
first_some Keep = omega arith
first_some (Node name) = omega arith
first_some (Job name) = omega arith
first_some (Rank node) = omega arith
first_some (Calls (said.Put scope key value)) = omega arith
first_some (Calls said.Commit) = omega arith
first_some (Calls (said.Fence set collect)) = omega arith
first_some (Calls (said.Get job rank key)) = omega arith
first_some (Calls (said.GetNow job rank key)) = omega arith
first_some (Calls (said.Publish name value)) = omega arith
first_some (Calls (said.Lookup name)) = omega arith
first_some (Calls (said.LookupWait name)) = omega arith
first_some (Calls (said.Unpublish name)) = omega arith
first_some (Calls said.UnpublishAll) = omega arith

text_long : (xs : List Said) → length xs + length xs ≤ length (flat_map line_text xs)
text_long [] = omega arith
text_long (a ∷ xs) =
    let rest = text_long xs in
    let all = length-append (line_text a) (flat_map line_text xs) in
    let line = length-append (join_with_byte 32 (first_word a ∷ other_words a)) (10 ∷ []) in
    let some = first_some a in
    let word = join_long (first_word a) (other_words a) in
    omega (arith, rest, all, line, some, word)

file_low : (size : Size) → file_bytes size ≤ 1073741824
file_low OfVersion = omega arith
file_low Large = omega arith

-- the number of a node's name
names_differ : (m n : ℕ) → m < 2 ^ 31 → n < 2 ^ 31 → bytes_eq (node_name m) (node_name n) ≡ true → m ≡ n
names_differ m n low_m low_n e =
    let same : codes "n" ++ decimal m ≡ codes "n" ++ decimal n = (bytes_eq-Decides (node_name m) (node_name n)).0 e in
    decimal_injective m n (omega (arith, low_m)) (omega (arith, low_n)) (cc)

node_number : (n k m : ℕ) → m < k → n + k ≤ 2 ^ 31 → number_or_count (names_from n k) (node_name (n + m)) ≡ m
node_number n zero m low few = absurd (omega (arith, low))
node_number n (suc k) zero low few =
    let z : n + 0 ≡ n = omega arith in
    let same : bytes_eq (node_name (n + 0)) (node_name n) ≡ true = (bytes_eq-Decides (node_name (n + 0)) (node_name n)).1 (ap node_name z) in
    rw same refl
node_number n (suc k) (suc m) low few =
    let s : suc n + m ≡ n + suc m = omega arith in
    let other : bytes_eq (node_name (n + suc m)) (node_name n) ≡ false =
    false_from_ne_true _ (λ e. let same = names_differ (n + suc m) n (omega (arith, low, few)) (omega (arith, low, few)) e in omega (arith, same)) in
    let rest : number_or_count (names_from (suc n) k) (node_name (n + suc m)) ≡ m =
    ap (λ x. number_or_count (names_from (suc n) k) (node_name x)) (sym s) ∙ node_number (suc n) k m (omega (arith, low)) (omega (arith, few)) in
    rw other (omega (arith, rest))

-- counts of what is seen of elements
counted_map : {A : Type 0} (f : ℕ → Bool) (g : A → ℕ) (k : ℕ) (xs : List A) → count_by (λ x. f (g x)) (take k xs) ≡ count_by f (take k (map g xs))
counted_map f g zero xs = refl
counted_map f g (suc k) [] = refl
counted_map f g (suc k) (x ∷ xs) =
    sum_by-cons (λ y. if f (g y) then 1 else 0) x (take k xs)
    ∙ ap (λ n. (if f (g x) then 1 else 0) + n) (counted_map f g k xs)
    ∙ sym (sum_by-cons (λ (y : ℕ). if f y then 1 else 0) (g x) (take k (map g xs)))

module _ (f : Started → Bool) where
  -- where one alone passes
  position_one : (ps : List Started) (m : ℕ) (p : Started) → slice_get ps m ≡ Some p → f p ≡ true → ((k : ℕ) (q : Started) → slice_get ps k ≡ Some q → f q ≡ true → k ≡ m) → position_or_len f ps ≡ m
  position_one [] m p at h only = absurd (cc)
  position_one (x ∷ ps) zero p at h only = let same : x ≡ p = cc in let here : f x ≡ true = ap f same ∙ h in rw here refl
  position_one (x ∷ ps) (suc m) p at h only =
      let rest = position_one ps m p at h (λ k q there passes. let e = only (suc k) q there passes in omega arith) in
      elim (f x) as (λ t. f x ≡ t → cond (not t) (1 + position_or_len f ps) 0 ≡ suc m) [
        | true ↦ λ e. let other = only zero x refl e in absurd (omega arith)
        | false ↦ λ e. omega arith
      ] refl

-- what is declared has the rows of the cast, each call with the line of the pattern that it comes from
pub record IsDeclaredAs (p : Pattern) (cast : Cast) : Type 0 where
  pub d : Declared
  pub good : IsGood d
  pub seen : view (line_in (instance_lines p cast)) d ≡ expected p cast
  pub few : process_count cast < 10 ^ 9

module _ (p : Pattern) (cast : Cast) (sound : IsSoundPattern p) (is_cast : IsCast p cast) where
  abbrev after_header : List Said
  after_header = keep_said p.keeps ++ (nodes_said 0 cast.node_count ++ jobs_said p cast 0 (map (λ (j : JobLine). j.name) p.jobs))

  rises : (nodes : List Name) → JobsRise 0 (length p.jobs) (rows_from p cast nodes 0 (cast_of cast).roles)
  rises nodes =
      sorted_rows p cast nodes (subst (λ n. RolesRise 0 n (cast_of cast).roles) is_cast.sized (roles_rise cast)) sound.together
      (job_of_role p cast sound is_cast)

  pub count_small : (size : Size) → length (instance_text p cast) ≤ file_bytes size → process_count cast < 10 ^ 9
  count_small size short =
      let names = map (λ (j : JobLine). j.name) p.jobs in
      let many : length p.jobs ≡ 0 + length names = sym (length-map p.jobs (λ (j : JobLine). j.name)) ∙ from_zero (length names) in
      let rows = rows_from p cast [] 0 (cast_of cast).roles in
      let all : length (pieces 0 names rows) ≡ length rows = ap length (pieces_all 0 names rows (subst (λ b. JobsRise 0 b rows) many (rises []))) in
      let each = rows_length p cast [] 0 (cast_of cast).roles in
      let count = count_is cast in
      let lines = rank_lines p cast 0 names in
      let kept = length-append (keep_said p.keeps) (nodes_said 0 cast.node_count ++ jobs_said p cast 0 names) in
      let noded = length-append (nodes_said 0 cast.node_count) (jobs_said p cast 0 names) in
      let long = text_long (instance_said p cast) in
      let low = file_low size in
      omega (arith, all, each, count, lines, kept, noded, long, low, short)
    where
      from_zero : (n : ℕ) → n ≡ 0 + n
      from_zero n = omega arith

  pub first_pass : (size : Size) (n : ℕ) (d : Declared) → process_count cast < 10 ^ 9 → FirstPass size (statements (instance_text p cast)) n (Ok d)
      → IsGood d × (view (line_in (instance_lines p cast)) d ≡ expected p cast)
  first_pass size n d small first = of_lines (subst (λ ls. FirstPass size ls n (Ok d)) (said_again (instance_said p cast) (tt, lines_lawful p cast sound is_cast small)) first)
    where
      of_lines : FirstPass size (numbered_lines 1 (instance_said p cast)) n (Ok d) → IsGood d × (view (line_in (instance_lines p cast)) d ≡ expected p cast)
      of_lines (inl f) =
          let run = lines_run after_header 2 (nothing size f.0) d (lines_lawful p cast sound is_cast small) f.2 in (
            run_good size f.0 (numbered 2 after_header) d run,
            view_run (line_in (instance_lines p cast)) after_header 2 (nothing size f.0) d run
                ∙ ap (λ xs. all_viewed (no_view p cast) (marked (line_in (instance_lines p cast)) 2 xs)) (sym (said_lines p cast))
                ∙ ap (λ ls. all_viewed (no_view p cast) (marked (line_in ls) 2 (map second (marked_lines p cast)))) (sym (number_lines p cast))
                ∙ ap (all_viewed (no_view p cast)) (marked_again (0 ∷ []) (marked_lines p cast) 2 refl)
                ∙ lines_viewed p cast (rises (names_from 0 cast.node_count)),
          )
      of_lines (inr f) = absurd (let h = f.1 in cc)

  short_read : (size : Size) (s : Scripts) (small : process_count cast < 10 ^ 9) (q : Result Declared Fault)
      → FirstPass size (statements (instance_text p cast)) (length (lines_of (instance_text p cast))) q
      → MatchResult q (λ d. Ok s ≡ second_pass d) (λ f. Ok s ≡ Err f) → (a : IsDeclaredAs p cast) × (s ≡ scripts_of a.d)
  short_read size s small (Err f) first m = absurd (cc)
  short_read size s small (Ok d) first m =
      let r = first_pass size (length (lines_of (instance_text p cast))) d small first in
      (record { d = d; good = r.0; seen = r.1; few = small }, (second_ok d s (first_fault d d.processes) m).1)

  -- scripts that the text reads as are those of what is declared
  pub declared_as : (size : Size) (s : Scripts) → Reads size (instance_text p cast) (Ok s) → (a : IsDeclaredAs p cast) × (s ≡ scripts_of a.d)
  declared_as size s (inl h) = absurd (let e = h.1 in cc)
  declared_as size s (inr h) = short_read size s (count_small size h.0) h.1.0 h.1.1 h.1.2

  -- what stands where
  module _ (a : IsDeclaredAs p cast) where
    abbrev nodes : List Name
    nodes = names_from 0 cast.node_count

    abbrev pub processes : List Process
    processes = map (process_of a.d (seen_in a.d)) a.d.processes

    pub record IsStarted (v role : ℕ) (st : Started) : Type 0 where
      pub at : slice_get a.d.processes v ≡ Some st
      pub job : st.job ≡ job_at p cast v
      pub node : st.node ≡ number_or_count nodes (node_name ((cast_of cast).nodes v))
      pub calls : map (λ (c : ℕ × said.Call). c.1) st.calls ≡ steps_said p cast v 0 (steps_in (slice_get p.roles role))
      pub lines : map (line_in (instance_lines p cast)) (map (λ (c : ℕ × said.Call). c.0) st.calls) ≡ steps_lines cast v 0 (steps_in (slice_get p.roles role))

    abbrev pub row_in : Started → Row
    row_in = row_of (line_in (instance_lines p cast))

    rows_are : map row_in a.d.processes ≡ rows_from p cast nodes 0 (cast_of cast).roles
    rows_are = ap (λ (w : View). w.rows) a.seen

    jobs_are : a.d.jobs ≡ map (λ (j : JobLine). j.name) p.jobs
    jobs_are = ap (λ (w : View). w.jobs) a.seen

    pub keeps_are : a.d.keeps ≡ p.keeps
    keeps_are = ap (λ (w : View). w.keeps) a.seen

    pub as_many : length a.d.processes ≡ process_count cast
    as_many = sym (length-map a.d.processes row_in) ∙ ap length rows_are ∙ rows_length p cast nodes 0 (cast_of cast).roles ∙ count_is cast

    -- marks and what is said, apart
    marked_calls : (cs : List (ℕ × said.Call)) → map (λ (c : ℕ × said.Call). c.1) cs
        ≡ map (λ (c : ℕ × said.Call). c.1) (map (λ (c : ℕ × said.Call). (line_in (instance_lines p cast) c.0, c.1)) cs)
    marked_calls [] = refl
    marked_calls (c ∷ cs) = ap (λ t. c.1 ∷ t) (marked_calls cs)

    marked_numbers : (cs : List (ℕ × said.Call)) → map (line_in (instance_lines p cast)) (map (λ (c : ℕ × said.Call). c.0) cs)
        ≡ map (λ (c : ℕ × said.Call). c.0) (map (λ (c : ℕ × said.Call). (line_in (instance_lines p cast) c.0, c.1)) cs)
    marked_numbers [] = refl
    marked_numbers (c ∷ cs) = ap (λ t. line_in (instance_lines p cast) c.0 ∷ t) (marked_numbers cs)

    calls_marked : (v : ℕ) (ts : List Turned) → map (λ (c : ℕ × said.Call). c.1) (map (marked_by p cast v) ts) ≡ map (said_by p cast v) ts
    calls_marked v [] = refl
    calls_marked v (t ∷ ts) = ap (λ cs. said_by p cast v t ∷ cs) (calls_marked v ts)

    numbers_marked : (v : ℕ) (ts : List Turned) → map (λ (c : ℕ × said.Call). c.0) (map (marked_by p cast v) ts) ≡ map number_by ts
    numbers_marked v [] = refl
    numbers_marked v (t ∷ ts) = ap (λ ns. number_by t ∷ ns) (numbers_marked v ts)

    pub started : (v role : ℕ) → slice_get (cast_of cast).roles v ≡ Some role → (st : Started) × IsStarted v role st
    started v role at =
        let z : 0 + v ≡ v = omega arith in
        let row : slice_get (map row_in a.d.processes) v ≡ Some (row_at p cast nodes v role) =
        ap (λ rs. slice_get rs v) rows_are ∙ row_stands p cast nodes 0 (cast_of cast).roles v role at ∙ ap (λ k. Some (row_at p cast nodes k role)) z in
        let st = slice_get-map_back row_in a.d.processes v (row_at p cast nodes v role) row in (
          st.0,
          record {
            at = st.1;
            job = ap (λ (r : Row). r.job) st.2 ∙ sym (job_is p cast v role at);
            node = ap (λ (r : Row). r.node) st.2;
            calls = marked_calls st.0.calls ∙ ap (λ (r : Row). map (λ (c : ℕ × said.Call). c.1) r.calls) st.2 ∙ calls_marked v (made p cast v role) ∙ sym (steps_are_said p cast v 0 (steps_in (slice_get p.roles role)));
            lines = marked_numbers st.0.calls ∙ ap (λ (r : Row). map (λ (c : ℕ × said.Call). c.0) r.calls) st.2 ∙ numbers_marked v (made p cast v role) ∙ sym (steps_are_numbered cast v 0 (steps_in (slice_get p.roles role)));
          },
        )

    -- ranks
    jobs_of_rows : (n : ℕ) (rs : List ℕ) → map (λ (r : Row). r.job) (rows_from p cast nodes n rs) ≡ map (λ (role : ℕ). job_in (slice_get p.roles role)) rs
    jobs_of_rows n [] = refl
    jobs_of_rows n (r ∷ rs) = ap (λ js. job_in (slice_get p.roles r) ∷ js) (jobs_of_rows (suc n) rs)

    jobs_of_processes : (ps : List Started) → map (λ (q : Process). q.job) (map (process_of a.d (seen_in a.d)) ps) ≡ map (λ (r : Row). r.job) (map row_in ps)
    jobs_of_processes [] = refl
    jobs_of_processes (x ∷ ps) = ap (λ js. x.job ∷ js) (jobs_of_processes ps)

    process_jobs_are : map (λ (q : Process). q.job) processes ≡ process_jobs p cast
    process_jobs_are = jobs_of_processes a.d.processes ∙ ap (map (λ (r : Row). r.job)) rows_are ∙ jobs_of_rows 0 (cast_of cast).roles

    pub rank_is : (v role : ℕ) (st : Started) → IsStarted v role st → st.rank ≡ rank_at p cast v
    rank_is v role st i =
        let stands : slice_get processes v ≡ Some (process_of a.d (seen_in a.d) st) = slice_get-map_kept (process_of a.d (seen_in a.d)) a.d.processes v st i.at in
        let job : content.job_at processes v ≡ job_at p cast v = ap content.job_in stands ∙ i.job in
        (ranked a.d (seen_in a.d) a.d.processes a.good.together a.good.ranked).ranks v (process_of a.d (seen_in a.d) st) stands
        ∙ ap (λ j. count_by (λ (q : Process). q.job == j) (take v processes)) job
        ∙ counted_map (λ (j : ℕ). j == job_at p cast v) (λ (q : Process). q.job) v processes
        ∙ ap (λ js. count_by (λ (j : ℕ). j == job_at p cast v) (take v js)) process_jobs_are

    -- numbers of jobs and processes
    pub job_number : (j : ℕ) → j < length p.jobs → number_or_count a.d.jobs (job_name p j) ≡ j
    job_number j low =
        let same : text_at a.d.jobs j ≡ job_name p j = ap (λ js. text_at js j) jobs_are in
        let many : length a.d.jobs ≡ length p.jobs = ap length jobs_are ∙ length-map p.jobs (λ (x : JobLine). x.name) in
        ap (number_or_count a.d.jobs) (sym same) ∙ number_at a.d.jobs j a.good.apart (omega (arith, low, many))

    pub is_it : (v role : ℕ) (st : Started) → IsStarted v role st → v < process_count cast → (k : ℕ) (q : Started) → slice_get a.d.processes k ≡ Some q
        → is_proc (number_or_count a.d.jobs (job_name p (job_at p cast v))) (rank_at p cast v) q ≡ true → k ≡ v
    is_it v role st i low k q at h =
        one_process (λ j. 0) a.d.processes k v q st a.good.ranked at i.at
        (eqb-true _ _ (and_left _ _ h) ∙ job_number (job_at p cast v) (job_low p cast sound is_cast v low) ∙ sym i.job)
        (eqb-true _ _ (and_right (q.job == number_or_count a.d.jobs (job_name p (job_at p cast v))) _ h) ∙ sym (rank_is v role st i))

    pub proc_is : (v role : ℕ) (st : Started) → IsStarted v role st → v < process_count cast
        → is_proc (number_or_count a.d.jobs (job_name p (job_at p cast v))) (rank_at p cast v) st ≡ true
    proc_is v role st i low =
        and_from _ _ (eq-eqb _ _ (i.job ∙ sym (job_number (job_at p cast v) (job_low p cast sound is_cast v low)))) (eq-eqb _ _ (rank_is v role st i))

    pub number_is : (v : ℕ) → v < process_count cast → proc_number a.d (job_name p (job_at p cast v)) (rank_at p cast v) ≡ v
    number_is v low =
        let role = role_at p cast sound is_cast v low in
        let st = started v role.0 role.1 in
        position_one (is_proc (number_or_count a.d.jobs (job_name p (job_at p cast v))) (rank_at p cast v)) a.d.processes v st.0 st.1.at (proc_is v role.0 st.0 st.1 low) (is_it v role.0 st.0 st.1 low)

    pub node_is : (v role : ℕ) (st : Started) → IsStarted v role st → v < process_count cast → st.node ≡ (cast_of cast).nodes v
    node_is v role st i low =
        let many = is_cast.placed in
        let node = stands_at cast.nodes v (omega (arith, low, many)) in
        let below : node.0 < cast.node_count = ltb-true node.0 cast.node_count (all_at (λ n. nat_lt n cast.node_count) cast.nodes v node.0 is_cast.below node.1) in
        let is : (cast_of cast).nodes v ≡ node.0 = index_at cast.nodes v node.0 0 node.1 in
        let few = is_cast.few_nodes in
        let z : 0 + node.0 ≡ node.0 = omega arith in
        i.node ∙ ap (λ n. number_or_count nodes (node_name n)) (is ∙ sym z) ∙ node_number 0 cast.node_count node.0 below (omega (arith, few)) ∙ sym is

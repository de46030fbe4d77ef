-- The lines of a text, as the reader of scripts takes them and as the reader of spellings does.
use Rattle.std.proofs.Common.{◌≡◌, ℕ, zero, suc, ◌+◌, ◌-◌, ◌<◌, ◌⊎◌, inl, inr, List, [], ◌∷◌, ◌++◌, Bool, true, false, cond, Option, Some, None, Result, Ok, Err, refl, sym, ap, ◌∙◌, subst, arith, map, length}
use Rattle.std.specs.Prelude.{slice_get, slice_index_or, MatchResult, not, ◌&&◌, ◌||◌}
use Rattle.std.proofs.lemmas.Bool.{true≢false, ltb-true}
use Rattle.std.proofs.lemmas.List.{append-nil, map_push}
use Rattle.std.proofs.lemmas.Option.{none-some, same_Some}
use Rattle.std.proofs.Common.{append_assoc}
use Rattle.wire_types.specs.declared.Fault.{Fault}
use Rattle.wire_types.specs.declared.Fault.TheVariants.{TooLong, BadLine, UnknownName, Twice, TooMany}
use Rattle.wire_types.specs.declared.Version.{Version}
use Rattle.wire_runs.proofs.Lists.{one_longer, slice_get_push_cases}
use Rattle.wire_types.specs.declared.Call.{Call as Written}
use Rattle.wire_types.specs.declared.Call.TheVariants as written
use Rattle.wire_types.specs.Said as said
use Rattle.wire_lines.specs.Text.{lines_of, words_of}
use Rattle.wire_scripts.specs.Map.{job_in as job_of}
use Rattle.wire_scripts.specs.Process.{Process}
use Rattle.wire_scripts.specs.Scripts.{Scripts, calls_in as calls_of, text_at}
use Rattle.wire_reader.specs.declared.limits.Size.{Size}
use Rattle.wire_reader.specs.FirstPass.{Name, Started, Declared, nothing, after, judged, is_in_place, is_short, is_known, is_again, has_room, with_call, Judges, JudgesAll, FirstPass}
use Rattle.wire_reader.specs.Reads.{Seen, seen_in, numbered, process_of, scripts_of, second_pass, first_fault, unless_fault}
use Rattle.wire_reader.specs.Statements.{Statement, is_skipped, statements_from, statements}
use Rattle.wire_spelling.specs.Spelling.{SaidOfCalls, SpelledSet, CallRows, Nothing, Rank, Job, Call, calls_in, calls_with, is_note, is_header, job_after, no_calls, of_job, said_of, spelled_sets}
use Rattle.wire_portable_commands.specs.SpelledCalls.{AreSpelledIn, CallsAreSpelled}

abbrev Row : Type 0
Row = List (Option SpelledSet)

-- the set that a call spells
abbrev set_said : said.Call → Option (List ℕ)
set_said (said.Put scope key value) = None
set_said said.Commit = None
set_said (said.Fence set collect) = Some (said.spelled_set set)
set_said (said.Get job rank key) = None
set_said (said.GetNow job rank key) = None
set_said (said.Publish name value) = None
set_said (said.Lookup name) = None
set_said (said.LookupWait name) = None
set_said (said.Unpublish name) = None
set_said said.UnpublishAll = None

abbrev spelling_said : said.Said → SaidOfCalls
spelling_said (said.Header version) = Nothing
spelling_said said.Keep = Nothing
spelling_said (said.Node name) = Nothing
spelling_said (said.Job name) = Job name
spelling_said (said.Rank node) = Rank
spelling_said (said.Calls call) = Call (set_said call)

call_words : (call : said.Call) → said_of (said.first_of_call call ∷ said.others_of_call call) ≡ Call (set_said call)
call_words (said.Put scope key value) = refl
call_words said.Commit = refl
call_words (said.Fence set collect) = refl
call_words (said.Get job rank key) = refl
call_words (said.GetNow job rank key) = refl
call_words (said.Publish name value) = refl
call_words (said.Lookup name) = refl
call_words (said.LookupWait name) = refl
call_words (said.Unpublish name) = refl
call_words said.UnpublishAll = refl

line_words : (line : said.Said) → said_of (said.first_word line ∷ said.other_words line) ≡ spelling_said line
line_words (said.Header version) = refl
line_words said.Keep = refl
line_words (said.Node name) = refl
line_words (said.Job name) = refl
line_words (said.Rank node) = refl
line_words (said.Calls call) = call_words call

words_said : (words : List (List ℕ)) (line : said.Said) → said.Says words line → said_of words ≡ spelling_said line
words_said words line says = ap said_of says.0 ∙ line_words line

-- lines that are skipped say nothing
skip_if : (b c : Bool) (x : SaidOfCalls) → b ≡ true → cond (b || c) Nothing x ≡ Nothing
skip_if true c x h = refl
skip_if false c x h = absurd (true≢false (sym h))

skipped_says : (words : List (List ℕ)) → is_skipped words ≡ true → said_of words ≡ Nothing
skipped_says [] is = refl
skipped_says (word ∷ words) is = skip_if (is_note word) (is_header word) _ is

one_line : (job : List ℕ) (words : List (List ℕ)) (lines : List (List (List ℕ))) (b : Bool) (others : List (List (List ℕ))) →
    is_skipped words ≡ b → ((j : List ℕ) → calls_in j lines ≡ calls_in j others) → calls_in job (words ∷ lines) ≡ calls_in job (cond b others (words ∷ others))
one_line job words lines true others is same =
    ap (λ (w : SaidOfCalls). calls_with job w (calls_in (job_after job w) lines)) (skipped_says words is) ∙ same job
one_line job words lines false others is same = ap (calls_with job (said_of words)) (same (job_after job (said_of words)))

stated : (n : ℕ) (lines : List (List ℕ)) (job : List ℕ) → calls_in job (map words_of lines) ≡ calls_in job (map (λ (l : Statement). l.1) (statements_from n lines))
stated n [] job = refl
stated n (line ∷ lines) job =
    one_line job (words_of line) (map words_of lines) (is_skipped (words_of line)) (map (λ (l : Statement). l.1) (statements_from (n + 1) lines)) refl (stated (n + 1) lines)
    ∙ ap (calls_in job) (moved (is_skipped (words_of line)))
  where
    moved : (b : Bool) → cond b (map (λ (l : Statement). l.1) (statements_from (n + 1) lines)) (words_of line ∷ map (λ (l : Statement). l.1) (statements_from (n + 1) lines))
        ≡ map (λ (l : Statement). l.1) (cond b (statements_from (n + 1) lines) ((n, words_of line) ∷ statements_from (n + 1) lines))
    moved true = refl
    moved false = refl

-- rows that go on with the calls behind
abbrev extend_from : Row → List Row → CallRows → List Row
extend_from x [] behind = (x ++ behind.before) ∷ behind.rows
extend_from x (y ∷ ys) behind = x ∷ extend_from y ys behind

abbrev extend : List Row → CallRows → List Row
extend [] behind = behind.rows
extend (x ∷ xs) behind = extend_from x xs behind

extend_none : (rows : List Row) → extend rows no_calls ≡ rows
extend_none [] = refl
extend_none (x ∷ xs) = go x xs
  where
    go : (x : Row) (xs : List Row) → extend_from x xs no_calls ≡ x ∷ xs
    go x [] = ap (λ (r : Row). r ∷ []) (append-nil x)
    go x (y ∷ ys) = ap (λ (rs : List Row). x ∷ rs) (go y ys)

extend_last : (rows : List Row) (r : Row) (behind : CallRows) → extend (rows ++ r ∷ []) behind ≡ rows ++ (r ++ behind.before) ∷ behind.rows
extend_last [] r behind = refl
extend_last (x ∷ xs) r behind = go x xs
  where
    go : (x : Row) (xs : List Row) → extend_from x (xs ++ r ∷ []) behind ≡ x ∷ (xs ++ (r ++ behind.before) ∷ behind.rows)
    go x [] = refl
    go x (y ∷ ys) = ap (λ (rs : List Row). x ∷ rs) (go y ys)

extend_rank : (rows : List Row) (job : List ℕ) (behind : CallRows) → extend (rows ++ [] ∷ []) behind ≡ extend rows (calls_with job Rank behind)
extend_rank [] job behind = refl
extend_rank (x ∷ xs) job behind = go x xs
  where
    go : (x : Row) (xs : List Row) → extend_from x (xs ++ [] ∷ []) behind ≡ extend_from x xs (calls_with job Rank behind)
    go x [] = ap (λ (r : Row). r ∷ (behind.before ∷ behind.rows)) (sym (append-nil x))
    go x (y ∷ ys) = ap (λ (rs : List Row). x ∷ rs) (go y ys)

extend_call : (rows : List Row) (r : Row) (job : List ℕ) (set : Option (List ℕ)) (behind : CallRows) →
    extend (rows ++ (r ++ of_job job set ∷ []) ∷ []) behind ≡ extend (rows ++ r ∷ []) (calls_with job (Call set) behind)
extend_call rows r job set behind =
    extend_last rows (r ++ of_job job set ∷ []) behind
    ∙ ap (λ (v : Row). rows ++ v ∷ behind.rows) (append_assoc r (of_job job set ∷ []) behind.before)
    ∙ sym (extend_last rows r (calls_with job (Call set) behind))

-- the rows of what is declared
abbrev row_of : List Name → Started → Row
row_of jobs p = map (λ (c : ℕ × said.Call). of_job (text_at jobs p.job) (set_said c.1)) p.calls

abbrev rows_of : Declared → List Row
rows_of d = map (row_of d.jobs) d.processes

abbrev last_job : List Name → List ℕ
last_job jobs = text_at jobs (length jobs - 1)

-- what is kept line by line: each process is of a job that is declared, and where a call may stand, the last process is of
-- the last job
record IsNow (d : Declared) : Type 0 where
  within : (k : ℕ) (p : Started) → slice_get d.processes k ≡ Some p → p.job < length d.jobs
  last : 0 < d.ranks → (ps : List Started) × (p : Started) × (d.processes ≡ ps ++ p ∷ []) × (p.job ≡ length d.jobs - 1)

text_kept : (jobs : List Name) (name : Name) (k : ℕ) → k < length jobs → text_at (jobs ++ name ∷ []) k ≡ text_at jobs k
text_kept [] name k lt = absurd (omega (arith, lt))
text_kept (j ∷ jobs) name zero lt = refl
text_kept (j ∷ jobs) name (suc k) lt = text_kept jobs name k (omega (arith, lt))

text_last : (jobs : List Name) (name : Name) → text_at (jobs ++ name ∷ []) (length jobs) ≡ name
text_last [] name = refl
text_last (j ∷ jobs) name = text_last jobs name

job_last : (jobs : List Name) (name : Name) → last_job (jobs ++ name ∷ []) ≡ name
job_last jobs name = ap (text_at (jobs ++ name ∷ [])) (let long = one_longer jobs name in omega (arith, long)) ∙ text_last jobs name

rows_kept : (jobs : List Name) (name : Name) (ps : List Started) → ((k : ℕ) (p : Started) → slice_get ps k ≡ Some p → p.job < length jobs) →
    map (row_of (jobs ++ name ∷ [])) ps ≡ map (row_of jobs) ps
rows_kept jobs name [] within = refl
rows_kept jobs name (p ∷ ps) within =
    ap (λ (t : List ℕ). map (λ (c : ℕ × said.Call). of_job t (set_said c.1)) p.calls ∷ map (row_of (jobs ++ name ∷ [])) ps) (text_kept jobs name p.job (within 0 p refl))
    ∙ ap (λ (rs : List Row). row_of jobs p ∷ rs) (rows_kept jobs name ps (λ k q is. within (suc k) q is))

with_last : (ps : List Started) (p : Started) (call : ℕ × said.Call) → with_call (ps ++ p ∷ []) call ≡ ps ++ (record p { calls = p.calls ++ call ∷ [] }) ∷ []
with_last [] p call = refl
with_last (q ∷ []) p call = refl
with_last (q ∷ (r ∷ ps)) p call = ap (λ (rs : List Started). q ∷ rs) (with_last (r ∷ ps) p call)

in_front : (ps : List Started) (p : Started) (k : ℕ) (q : Started) → slice_get ps k ≡ Some q → slice_get (ps ++ p ∷ []) k ≡ Some q
in_front [] p k q e = absurd (none-some q e)
in_front (x ∷ ps) p zero q e = e
in_front (x ∷ ps) p (suc k) q e = in_front ps p k q e

at_last : (ps : List Started) (p : Started) → slice_get (ps ++ p ∷ []) (length ps) ≡ Some p
at_last [] p = refl
at_last (x ∷ ps) p = at_last ps p

-- one line more
record IsStep (d : Declared) (line : said.Said) (new : Declared) : Type 0 where
  now : IsNow new
  job : last_job new.jobs ≡ job_after (last_job d.jobs) (spelling_said line)
  rows : (behind : CallRows) → extend (rows_of new) behind ≡ extend (rows_of d) (calls_with (last_job d.jobs) (spelling_said line) behind)

and_first : (a b : Bool) → (a && b) ≡ true → a ≡ true
and_first true b h = refl
and_first false b h = absurd (true≢false (sym h))

step : (d : Declared) (n : ℕ) (line : said.Said) → is_in_place d line ≡ true → IsNow d → IsStep d line (after d n line)
step d n (said.Header version) placed now = absurd (true≢false (sym placed))
step d n said.Keep placed now = record { now = record { within = now.within; last = now.last }; job = refl; rows = λ behind. refl }
step d n (said.Node name) placed now = record { now = record { within = now.within; last = now.last }; job = refl; rows = λ behind. refl }
step d n (said.Job name) placed now = record {
  now = record {
    within = λ k p is. let lt = now.within k p is in let long = one_longer d.jobs name in omega (arith, lt, long);
    last = λ lt. absurd (omega (arith, lt));
  };
  job = job_last d.jobs name;
  rows = λ behind. ap (λ (rs : List Row). extend rs behind) (rows_kept d.jobs name d.processes now.within);
}
step d n (said.Rank node) placed now = record {
  now = record {
    within = λ k p is. elim (slice_get_push_cases d.processes _ k p is) [
      | inl old ↦ now.within k p old
      | inr new ↦
          (let some = ltb-true 0 (length d.jobs) placed in
          let job = ap (λ (q : Started). q.job) new.1 in
          omega (arith, some, job))
    ];
    last = λ lt. (d.processes, _, refl, refl);
  };
  job = refl;
  rows = λ behind. ap (λ (rs : List Row). extend rs behind) (map_push (row_of d.jobs) d.processes _) ∙ extend_rank (rows_of d) (last_job d.jobs) behind;
}
step d n (said.Calls call) placed now =
    let some = ltb-true 0 d.ranks (and_first _ _ placed) in
    let found = now.last some in
    called found.0 found.1 found.2 found.3
  where
    called : (ps : List Started) (p : Started) → d.processes ≡ ps ++ p ∷ [] → p.job ≡ length d.jobs - 1 → IsStep d (said.Calls call) (after d n (said.Calls call))
    called ps p is its =
        let more : Started = record p { calls = p.calls ++ (n, call) ∷ [] } in
        let put : with_call d.processes (n, call) ≡ ps ++ more ∷ [] = ap (λ qs. with_call qs (n, call)) is ∙ with_last ps p (n, call) in
        record {
          now = record {
            within = λ k q at. elim (slice_get_push_cases ps more k q (ap (λ qs. slice_get qs k) (sym put) ∙ at)) [
              | inl old ↦ now.within k q (ap (λ qs. slice_get qs k) is ∙ in_front ps p k q old)
              | inr new ↦
                  (let job = ap (λ (v : Started). v.job) new.1 in
                  let own = now.within (length ps) p (ap (λ qs. slice_get qs (length ps)) is ∙ at_last ps p) in
                  omega (arith, job, own))
            ];
            last = λ lt. (ps, more, put, its);
          };
          job = refl;
          rows = λ behind.
              ap (λ qs. extend (map (row_of d.jobs) qs) behind) put
              ∙ ap (λ (rs : List Row). extend rs behind) (map_push (row_of d.jobs) ps more)
              ∙ ap (λ (r : Row). extend (map (row_of d.jobs) ps ++ r ∷ []) behind) (map_push (λ (c : ℕ × said.Call). of_job (text_at d.jobs p.job) (set_said c.1)) p.calls (n, call))
              ∙ extend_call (map (row_of d.jobs) ps) (row_of d.jobs p) (text_at d.jobs p.job) (set_said call) behind
              ∙ ap (λ k. extend (map (row_of d.jobs) ps ++ row_of d.jobs p ∷ []) (calls_with (text_at d.jobs k) (Call (set_said call)) behind)) its
              ∙ ap (λ (rs : List Row). extend rs (calls_with (last_job d.jobs) (Call (set_said call)) behind)) (sym (map_push (row_of d.jobs) ps p) ∙ ap (map (row_of d.jobs)) (sym is));
        }

ok_err : {A : Type 0} {a : A} {f : Fault} → ◌≡◌ {A = Result A Fault} (Ok a) (Err f) → ⊥
ok_err e = cc

same_ok : {A : Type 0} {a b : A} → ◌≡◌ {A = Result A Fault} (Ok a) (Ok b) → a ≡ b
same_ok e = cc

-- a line that is judged without a fault
judged_ok : (d : Declared) (n : ℕ) (line : said.Said) (new : Declared) → ◌≡◌ {A = Result Declared Fault} (Ok new) (judged d n line) → (is_in_place d line ≡ true) × (new ≡ after d n line)
judged_ok d n line new e = place (is_in_place d line) refl e
  where
    room : (b : Bool) → ◌≡◌ {A = Result Declared Fault} (Ok new) (cond (not b) (Err (TooMany n)) (Ok (after d n line))) → new ≡ after d n line
    room true e = same_ok e
    room false e = absurd (ok_err e)

    again : (b : Bool) → ◌≡◌ {A = Result Declared Fault} (Ok new) (cond b (Err (Twice n)) (cond (not (has_room d line)) (Err (TooMany n)) (Ok (after d n line)))) → new ≡ after d n line
    again true e = absurd (ok_err e)
    again false e = room (has_room d line) e

    known : (b : Bool) → ◌≡◌ {A = Result Declared Fault} (Ok new) (cond (not b) (Err (UnknownName n)) (cond (is_again d line) (Err (Twice n)) (cond (not (has_room d line)) (Err (TooMany n)) (Ok (after d n line))))) →
        new ≡ after d n line
    known true e = again (is_again d line) e
    known false e = absurd (ok_err e)

    short : (b : Bool) → ◌≡◌ {A = Result Declared Fault} (Ok new)
        (cond (not b) (Err (TooLong n)) (cond (not (is_known d line)) (Err (UnknownName n)) (cond (is_again d line) (Err (Twice n)) (cond (not (has_room d line)) (Err (TooMany n)) (Ok (after d n line)))))) →
        new ≡ after d n line
    short true e = known (is_known d line) e
    short false e = absurd (ok_err e)

    place : (b : Bool) → is_in_place d line ≡ b → ◌≡◌ {A = Result Declared Fault} (Ok new)
        (cond (not b) (Err (BadLine n))
        (cond (not (is_short line)) (Err (TooLong n)) (cond (not (is_known d line)) (Err (UnknownName n)) (cond (is_again d line) (Err (Twice n)) (cond (not (has_room d line)) (Err (TooMany n)) (Ok (after d n line))))))) →
        (is_in_place d line ≡ true) × (new ≡ after d n line)
    place true is e = (is, short (is_short line) e)
    place false is e = absurd (ok_err e)

module _ (e : Declared) where
  all_said : (lines : List Statement) (d : Declared) → IsNow d → JudgesAll d lines (Ok e) →
      rows_of e ≡ extend (rows_of d) (calls_in (last_job d.jobs) (map (λ (l : Statement). l.1) lines))
  all_said [] d now judges = ap rows_of (same_ok judges) ∙ sym (extend_none (rows_of d))
  all_said (line ∷ lines) d now judges = go judges.0 judges.1 judges.2 (all_said lines)
    where
      taken : (said_line : said.Said) (new : Declared) → said.Says line.1 said_line → is_in_place d said_line ≡ true → new ≡ after d line.0 said_line → JudgesAll new lines (Ok e) →
          ((d : Declared) → IsNow d → JudgesAll d lines (Ok e) → rows_of e ≡ extend (rows_of d) (calls_in (last_job d.jobs) (map (λ (l : Statement). l.1) lines))) →
          rows_of e ≡ extend (rows_of d) (calls_in (last_job d.jobs) (map (λ (l : Statement). l.1) (line ∷ lines)))
      taken said_line new says placed is rest ih =
          let next = step d line.0 said_line placed now in
          let d' = after d line.0 said_line in
          ih d' next.now (subst (λ v. JudgesAll v lines (Ok e)) is rest)
          ∙ next.rows (calls_in (last_job d'.jobs) (map (λ (l : Statement). l.1) lines))
          ∙ ap (λ (j : List ℕ). extend (rows_of d) (calls_with (last_job d.jobs) (spelling_said said_line) (calls_in j (map (λ (l : Statement). l.1) lines)))) next.job
          ∙ ap (λ (w : SaidOfCalls). extend (rows_of d) (calls_with (last_job d.jobs) w (calls_in (job_after (last_job d.jobs) w) (map (λ (l : Statement). l.1) lines)))) (sym (words_said line.1 said_line says))

      go : (q : Result Declared Fault) → Judges d line q → MatchResult q (λ v. JudgesAll v lines (Ok e)) (λ f. ◌≡◌ {A = Result Declared Fault} (Ok e) (Err f)) →
          ((d : Declared) → IsNow d → JudgesAll d lines (Ok e) → rows_of e ≡ extend (rows_of d) (calls_in (last_job d.jobs) (map (λ (l : Statement). l.1) lines))) →
          rows_of e ≡ extend (rows_of d) (calls_in (last_job d.jobs) (map (λ (l : Statement). l.1) (line ∷ lines)))
      go (Err f) j rest ih = absurd (ok_err rest)
      go (Ok new) (inl bad) rest ih = absurd (ok_err bad.1)
      go (Ok new) (inr good) rest ih = let ok = judged_ok d line.0 good.0 new good.2 in taken good.0 new good.1 ok.0 ok.1 rest ih

-- what stands at a place of two lists that are made of one
at_map : {A B C : Type 0} (f : A → B) (g : A → C) (d : C) (xs : List A) (k : ℕ) →
    ((x : A) × (slice_get (map f xs) k ≡ Some (f x)) × (slice_index_or (map g xs) k d ≡ g x)) ⊎ ((slice_get (map f xs) k ≡ None) × (slice_index_or (map g xs) k d ≡ d))
at_map f g d [] k = inr (refl, refl)
at_map f g d (x ∷ xs) zero = inl (x, refl, refl)
at_map f g d (x ∷ xs) (suc k) = at_map f g d xs k

module _ (d : Declared) (s : Seen) (job : ℕ) where
  fence_said : (call : said.Call) (set : ℕ) (collect : Bool) → numbered d s job call ≡ written.Fence set collect → (spelled : List ℕ) × (set_said call ≡ Some spelled)
  fence_said (said.Put scope key value) set collect e = absurd cc
  fence_said said.Commit set collect e = absurd cc
  fence_said (said.Fence one both) set collect e = (said.spelled_set one, refl)
  fence_said (said.Get owner rank key) set collect e = absurd cc
  fence_said (said.GetNow owner rank key) set collect e = absurd cc
  fence_said (said.Publish name value) set collect e = absurd cc
  fence_said (said.Lookup name) set collect e = absurd cc
  fence_said (said.LookupWait name) set collect e = absurd cc
  fence_said (said.Unpublish name) set collect e = absurd cc
  fence_said said.UnpublishAll set collect e = absurd cc

  other_said : (call : said.Call) → ((set : ℕ) (collect : Bool) → numbered d s job call ≡ written.Fence set collect → ⊥) → set_said call ≡ None
  other_said (said.Put scope key value) never = refl
  other_said said.Commit never = refl
  other_said (said.Fence one both) never = absurd (never _ _ refl)
  other_said (said.Get owner rank key) never = refl
  other_said (said.GetNow owner rank key) never = refl
  other_said (said.Publish name value) never = refl
  other_said (said.Lookup name) never = refl
  other_said (said.LookupWait name) never = refl
  other_said (said.Unpublish name) never = refl
  other_said said.UnpublishAll never = refl

module _ (d : Declared) where
  abbrev read : Scripts
  read = scripts_of d

  abbrev as_process : Started → Process
  as_process = process_of d (seen_in d)

  abbrev as_call : ℕ → ℕ × said.Call → Written
  as_call job c = numbered d (seen_in d) job c.1

  abbrev as_set : ℕ → ℕ × said.Call → Option SpelledSet
  as_set job c = of_job (text_at d.jobs job) (set_said c.1)

  pub declared_spelled : AreSpelledIn (scripts_of d) (rows_of d)
  declared_spelled = record {
    fences = λ p c set collect is. elim (at_map as_process (row_of d.jobs) [] d.processes p) [
      | inl one ↦
          (let here : slice_get (map (as_call one.0.job) one.0.calls) c ≡ Some (written.Fence set collect) = ap (λ o. slice_get (calls_of o) c) (sym one.1) ∙ is in
          elim (at_map (as_call one.0.job) (as_set one.0.job) None one.0.calls c) [
            | inl two ↦
                (let fence = fence_said d (seen_in d) one.0.job two.0.1 set collect (same_Some _ _ (sym two.1 ∙ here)) in (
                  record { job = text_at d.jobs one.0.job; set = fence.0 },
                  ap (λ (r : Row). slice_index_or r c None) one.2 ∙ two.2 ∙ ap (of_job (text_at d.jobs one.0.job)) fence.1,
                  ap (λ (o : Option Process). text_at d.jobs (job_of o)) (sym one.1),
                ))
            | inr none ↦ absurd (none-some _ (sym none.0 ∙ here))
          ])
      | inr none ↦ absurd (none-some _ (ap (λ o. slice_get (calls_of o) c) (sym none.0) ∙ is))
    ];
    others = λ p c never. elim (at_map as_process (row_of d.jobs) [] d.processes p) [
      | inl one ↦ elim (at_map (as_call one.0.job) (as_set one.0.job) None one.0.calls c) [
        | inl two ↦
            ap (λ (r : Row). slice_index_or r c None) one.2 ∙ two.2
            ∙ ap (of_job (text_at d.jobs one.0.job)) (other_said d (seen_in d) one.0.job two.0.1 (λ set collect e. never set collect (ap (λ o. slice_get (calls_of o) c) one.1 ∙ two.1 ∙ ap Some e)))
        | inr none ↦ ap (λ (r : Row). slice_index_or r c None) one.2 ∙ none.1
      ]
      | inr none ↦ ap (λ (r : Row). slice_index_or r c None) none.1
    ];
  }

passed : (d : Declared) (o : Option Fault) (s : Scripts) → ◌≡◌ {A = Result Scripts Fault} (Ok s) (unless_fault d o) → s ≡ scripts_of d
passed d None s e = same_ok e
passed d (Some f) s e = absurd (ok_err e)

nothing_now : (size : Size) (version : Version) → IsNow (nothing size version)
nothing_now size version = record { within = λ k p is. absurd (none-some p is); last = λ lt. absurd (omega (arith, lt)) }

first_said : (size : Size) (lines : List Statement) (n : ℕ) (d : Declared) → FirstPass size lines n (Ok d) → rows_of d ≡ (calls_in [] (map (λ (l : Statement). l.1) lines)).rows
first_said size [] n d pass = absurd (ok_err pass)
first_said size (line ∷ lines) n d pass = elim pass [
  | inl good ↦
      all_said d lines (nothing size good.0) (nothing_now size good.0) good.2
      ∙ ap (λ (w : SaidOfCalls). (calls_with [] w (calls_in (job_after [] w) (map (λ (l : Statement). l.1) lines))).rows) (sym (words_said line.1 (said.Header good.0) good.1))
  | inr bad ↦ absurd (ok_err bad.1)
]

pub calls_are_spelled : CallsAreSpelled
calls_are_spelled size text s reads = elim reads [
  | inl long ↦ absurd (ok_err long.1)
  | inr short ↦ go short.1.0 short.1.1 short.1.2
]
  where
    go : (q : Result Declared Fault) → FirstPass size (statements text) (length (lines_of text)) q →
        MatchResult q (λ d. ◌≡◌ {A = Result Scripts Fault} (Ok s) (second_pass d)) (λ f. ◌≡◌ {A = Result Scripts Fault} (Ok s) (Err f)) → AreSpelledIn s (spelled_sets text)
    go (Err f) pass rest = absurd (ok_err rest)
    go (Ok d) pass rest =
        let rows = first_said size (statements text) (length (lines_of text)) d pass ∙ ap (λ (c : CallRows). c.rows) (sym (stated 1 (lines_of text) [])) in
        subst (λ sets. AreSpelledIn s sets) rows (subst (λ v. AreSpelledIn v (rows_of d)) (sym (passed d (first_fault d d.processes) s rest)) (declared_spelled d))

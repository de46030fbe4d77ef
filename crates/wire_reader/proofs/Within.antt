-- What a file declares is within the limits.
use Rattle.std.proofs.Common.{◌≡◌, ◌∙◌, ap, sym, subst, refl, ◌≤◌, ℕ, ◌+◌, ◌-◌, ◌<◌, List, [], ◌∷◌, ◌++◌, Bool, true, false, map, length, Result, Ok, Err, MatchResult, inl, inr, arith, length-append}
use Rattle.std.proofs.Common.{if◌then◌else◌}
use Rattle.std.specs.Prelude.{not, nat_lt, sum_by}
use borrow.Author.Tests.{ltb-true}
use Rattle.std.proofs.lemmas.List.{length-map}
use Rattle.std.proofs.lemmas.List.Sums.{sum_by-cons}
use Rattle.wire_types.specs.declared.Fault.{Fault}
use Rattle.wire_types.specs.declared.Fault.TheVariants.{TooLong, BadLine, UnknownName, Twice, TooMany}
use Rattle.wire_types.specs.declared.Version.{Version}
use Rattle.wire_types.specs.declared.Version.TheVariants as version
use Rattle.wire_lines.specs.Said.{Said, Header, Keep, Node, Job, Rank, Calls, Call}
use Rattle.wire_lines.proofs.Colon.{and_left}
use Rattle.wire_scripts.specs.Scripts.{IsCounted}
use Rattle.wire_reader.specs.Statements.{Statement}
use Rattle.wire_reader.specs.FirstPass.{Started, Declared, number_or_count, nothing, after, is_in_place, is_short, is_known, is_again, has_room, has_call, with_call, Judges, JudgesAll, FirstPass}
use Rattle.wire_reader.specs.Reads.{Seen, numbered, process_of}
use Rattle.wire_reader.specs.declared.limits.Limits.{Limits}
use Rattle.wire_reader.specs.declared.limits.Size.{Size}
use Rattle.wire_reader.specs.declared.limits.Size.TheVariants.{OfVersion, Large}
use Rattle.wire_reader.specs.Limits.{limits_of, largest}
use Rattle.wire_reader.specs.Within.{started_calls, IsWithin, IsWithinLimits}
use Rattle.wire_reader.proofs.Changed.{first_run, run_header, ranks_with}

one_process : (ps : List Started) (p : Started) → started_calls (ps ++ p ∷ []) ≡ started_calls ps + length p.calls
one_process [] p = omega arith
one_process (q ∷ qs) p = let h = one_process qs p in omega arith

one_call : (ps : List Started) (c : ℕ × Call) → 0 < length ps → started_calls (with_call ps c) ≡ started_calls ps + 1
one_call [] c h = absurd (omega arith)
one_call (p ∷ []) c h = omega (arith, length-append p.calls (c ∷ []))
one_call (p ∷ q ∷ ps) c h = let more = one_call (q ∷ ps) c (omega arith) in omega arith

-- a line that is taken is in its place, and has room
taken : (a b c f g : Bool) (d e : Declared) (n : ℕ)
    → Ok e ≡ (if not a then Err (BadLine n) else if not b then Err (TooLong n) else if not c then Err (UnknownName n) else if f then Err (Twice n) else if not g then Err (TooMany n) else Ok d)
    → (a ≡ true) × (g ≡ true) × (e ≡ d)
taken false b c f g d e n h = absurd (cc)
taken true false c f g d e n h = absurd (cc)
taken true true false f g d e n h = absurd (cc)
taken true true true true g d e n h = absurd (cc)
taken true true true false false d e n h = absurd (cc)
taken true true true false true d e n h = (refl, refl, cc)

-- within its own limits
abbrev IsOwn : Declared → Type 0
IsOwn d = IsWithin d.limits d

kept : (d : Declared) (n : ℕ) (said : Said) → is_in_place d said ≡ true → has_room d said ≡ true → IsOwn d → IsOwn (after d n said)
kept d n (Header version) p r w = w
kept d n Keep p r w = record { few_ranks = w.few_ranks; few_processes = w.few_processes; few_calls = w.few_calls; counted = w.counted }
kept d n (Node name) p r w = record { few_ranks = w.few_ranks; few_processes = w.few_processes; few_calls = w.few_calls; counted = w.counted }
kept d n (Job name) p r w = record { few_ranks = omega arith; few_processes = w.few_processes; few_calls = w.few_calls; counted = w.counted }
kept d n (Rank node) p r w =
    let room = ltb-true _ _ r in
    let started : Started = record { job = length d.jobs - 1; rank = d.ranks; node = number_or_count d.nodes node; calls = [] } in
    let more = length-append d.processes (started ∷ []) in
    let ranks = w.few_ranks in
    record {
      few_ranks = omega arith;
      few_processes = omega arith;
      few_calls = w.few_calls;
      counted = one_process d.processes started ∙ (let h = w.counted in omega arith);
    }
kept d n (Calls call) p r w =
    let room = ltb-true _ _ r in
    let placed = ltb-true 0 d.ranks (and_left (nat_lt 0 d.ranks) (has_call d.version call) p) in
    let same = ranks_with d.processes (n, call) in
    let ranks = w.few_ranks in
    let processes = w.few_processes in
    record {
      few_ranks = omega arith;
      few_processes = omega arith;
      few_calls = omega arith;
      counted = one_call d.processes (n, call) (omega arith) ∙ (let h = w.counted in omega arith);
    }

judges_within : (d e : Declared) (line : Statement) → Judges d line (Ok e) → IsOwn d → IsOwn e
judges_within d e line (inl j) w = absurd (let h = j.1 in cc)
judges_within d e line (inr j) w =
    let t = taken (is_in_place d j.0) (is_short j.0) (is_known d j.0) (is_again d j.0) (has_room d j.0) (after d line.0 j.0) e line.0 j.2 in
    subst IsOwn (sym t.2) (kept d line.0 j.0 t.0 t.1 w)

step_within : (lines : List Statement) (e : Declared) (step : (d : Declared) → JudgesAll d lines (Ok e) → IsOwn d → IsOwn e)
    (d : Declared) (line : Statement) (q : Result Declared Fault) → Judges d line q → MatchResult q (λ x. JudgesAll x lines (Ok e)) (λ f. Ok e ≡ Err f) → IsOwn d → IsOwn e
step_within lines e step d line (Ok x) j m w = step x m (judges_within d x line j w)
step_within lines e step d line (Err f) j m w = absurd (cc)

all_within : (lines : List Statement) (e d : Declared) → JudgesAll d lines (Ok e) → IsOwn d → IsOwn e
all_within [] e d j w = let same : e ≡ d = cc in subst IsOwn (sym same) w
all_within (line ∷ lines) e d j w = step_within lines e (all_within lines e) d line j.0 j.1 j.2 w

nothing_within : (size : Size) (v : Version) → IsOwn (nothing size v)
nothing_within size v = record { few_ranks = omega arith; few_processes = omega arith; few_calls = omega arith; counted = refl }

first_own : (size : Size) (lines : List Statement) (n : ℕ) (d : Declared) → FirstPass size lines n (Ok d) → IsOwn d
first_own size [] n d f = absurd (cc)
first_own size (line ∷ lines) n d (inl f) = all_within lines d (nothing size f.0) f.2 (nothing_within size f.0)
first_own size (line ∷ lines) n d (inr f) = absurd (let h = f.1 in cc)

-- its limits are those of its version
first_limits : (size : Size) (lines : List Statement) (n : ℕ) (d : Declared) → FirstPass size lines n (Ok d) → d.limits ≡ limits_of size d.version
first_limits size lines n d f =
    let run = first_run size lines n d f in
    let header = run_header run.1 (nothing size run.0) d run.2 in
    header.1 ∙ ap (limits_of size) (sym header.0)

-- what the first pass declares is within the limits of its version
pub first_of_version : (size : Size) (lines : List Statement) (n : ℕ) (d : Declared) → FirstPass size lines n (Ok d) → IsWithin (limits_of size d.version) d
first_of_version size lines n d f = subst (λ l. IsWithin l d) (first_limits size lines n d f) (first_own size lines n d f)

pub processes_low : (size : Size) (v : Version) → (limits_of size v).processes ≤ largest.processes
processes_low OfVersion version.One = omega arith
processes_low OfVersion version.Two = omega arith
processes_low Large v = omega arith

calls_low : (size : Size) (v : Version) → (limits_of size v).calls ≤ largest.calls
calls_low OfVersion version.One = omega arith
calls_low OfVersion version.Two = omega arith
calls_low Large v = omega arith

wider : (l m : Limits) (d : Declared) → l.processes ≤ m.processes → l.calls ≤ m.calls → IsWithin l d → IsWithin m d
wider l m d processes calls w =
    let few_processes = w.few_processes in
    let few_calls = w.few_calls in
    record { few_ranks = w.few_ranks; few_processes = omega (arith, processes, few_processes); few_calls = omega (arith, calls, few_calls); counted = w.counted }

-- and within the largest
pub first_within : (size : Size) (lines : List Statement) (n : ℕ) (d : Declared) → FirstPass size lines n (Ok d) → IsWithinLimits d
first_within size lines n d f =
    wider (limits_of size d.version) largest d (processes_low size d.version) (calls_low size d.version) (first_of_version size lines n d f)

numbered_calls : (d : Declared) (s : Seen) (ps : List Started) → sum_by (λ p. length p.calls) (map (process_of d s) ps) ≡ started_calls ps
numbered_calls d s [] = refl
numbered_calls d s (p ∷ ps) = let h = numbered_calls d s ps in omega (
  arith,
  sum_by-cons (λ q. length q.calls) (process_of d s p) (map (process_of d s) ps),
  length-map p.calls (λ c. numbered d s p.job c.1),
)

-- few enough processes and calls to number them
pub counted_processes : (d : Declared) (s : Seen) → IsWithinLimits d → IsCounted (map (process_of d s) d.processes)
counted_processes d s w =
    let processes = w.few_processes in
    let calls = w.few_calls in
    let counted = w.counted in
    let all = numbered_calls d s d.processes in
    let many = length-map d.processes (process_of d s) in
    record { few_processes = omega arith; few_calls = omega arith }

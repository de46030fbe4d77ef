-- What is declared, with other calls in place of its own: lines that are changed call by call declare it.
use Rattle.std.proofs.Common.{◌≡◌, ◌∙◌, ap, sym, subst, refl, ℕ, ◌+◌, ◌-◌, ◌<◌, ◌≤◌, List, [], ◌∷◌, ◌++◌, Bool, true, false, map, length, length-append, Result, Ok, Err, MatchResult, inl, inr, arith}
use Rattle.std.proofs.Common.{if◌then◌else◌}
use Rattle.std.specs.Prelude.{not, nat_lt, ◌&&◌, ⊤}
use Rattle.wire_types.specs.declared.Version.{Version}
use Rattle.wire_lines.proofs.Colon.{and_left}
use Rattle.std.proofs.lemmas.List.{length-map, map-append}
use borrow.Author.Tests.{ltb-true}
use Rattle.wire_types.specs.declared.Fault.{Fault}
use Rattle.wire_types.specs.declared.Fault.TheVariants.{TooLong, BadLine, UnknownName, Twice, TooMany}
use Rattle.wire_lines.specs.Said.{Call, Said, Header, Keep, Node, Job, Rank, Calls, IsLawfulLine, IsLawfulCall}
use Rattle.wire_reader.specs.declared.limits.Size.{Size}
use Rattle.wire_reader.specs.Statements.{Statement}
use Rattle.wire_reader.specs.FirstPass.{Started, Declared, number_or_count, after, judged, is_in_place, is_short, is_short_call}
use Rattle.wire_reader.specs.FirstPass.{is_known, is_again, has_room, has_call, with_call, nothing, Judges, JudgesAll}
use Rattle.wire_reader.specs.FirstPass.{FirstPass}
use Rattle.wire_reader.proofs.Recut.{numbered_lines}

-- a change of calls, by the job of the caller
abbrev pub Change : Type 0
Change = ℕ → Call → Call

abbrev pub changed_call : Change → ℕ → ℕ × Call → ℕ × Call
changed_call f job c = (0, f job c.1)

abbrev pub with_calls : Started → List (ℕ × Call) → Started
with_calls p calls = record { job = p.job; rank = p.rank; node = p.node; calls = calls }

abbrev pub changed_process : Change → Started → Started
changed_process f p = with_calls p (map (changed_call f p.job) p.calls)

abbrev pub with_processes : Declared → List Started → ℕ → ℕ → Declared
with_processes d processes ranks calls = record d { processes = processes; ranks = ranks; calls = calls }

abbrev pub changed_declaration : Change → Declared → Declared
changed_declaration f d = with_processes d (map (changed_process f) d.processes) d.ranks d.calls

-- the job of the last process
abbrev pub last_job : List Started → ℕ
last_job [] = 0
last_job (p ∷ []) = p.job
last_job (p ∷ q ∷ ps) = last_job (q ∷ ps)

abbrev pub changed_line : Change → Declared → Said → Said
changed_line f d (Header version) = Header version
changed_line f d Keep = Keep
changed_line f d (Node name) = Node name
changed_line f d (Job name) = Job name
changed_line f d (Rank node) = Rank node
changed_line f d (Calls c) = Calls (f (last_job d.processes) c)

changed_with : (f : Change) (ps : List Started) (n : ℕ) (c : Call) → map (changed_process f) (with_call ps (n, c)) ≡ with_call (map (changed_process f) ps) (0, f (last_job ps) c)
changed_with f [] n c = refl
changed_with f (p ∷ []) n c = ap (λ t. with_calls p t ∷ []) (map-append (changed_call f p.job) p.calls ((n, c) ∷ []))
changed_with f (p ∷ q ∷ ps) n c = ap (λ t. changed_process f p ∷ t) (changed_with f (q ∷ ps) n c)

changed_after : (f : Change) (d : Declared) (n : ℕ) (a : Said) → changed_declaration f (after d n a) ≡ after (changed_declaration f d) 0 (changed_line f d a)
changed_after f d n (Header version) = refl
changed_after f d n Keep = refl
changed_after f d n (Node name) = refl
changed_after f d n (Job name) = refl
changed_after f d n (Rank node) =
    ap (λ t. with_processes d t (d.ranks + 1) d.calls) (map-append (changed_process f) d.processes
    (record { job = length d.jobs - 1; rank = d.ranks; node = number_or_count d.nodes node; calls = [] } ∷ []))
changed_after f d n (Calls c) = ap (λ t. with_processes d t d.ranks (d.calls + 1)) (changed_with f d.processes n c)

-- the tests of a line that is taken
pub record IsTaken (d : Declared) (a : Said) : Type 0 where
  pub place : is_in_place d a ≡ true
  pub short : is_short a ≡ true
  pub known : is_known d a ≡ true
  pub again : is_again d a ≡ false
  pub room : has_room d a ≡ true

-- a call that may be said, with names, keys and values within their limits
pub record IsFit (c : Call) : Type 0 where
  pub lawful : IsLawfulCall c
  pub short : is_short_call c ≡ true

-- one that may stand in place of another, in a file of whatever version
pub record IsFitFor (old new : Call) : Type 0 where
  pub fit : IsFit new
  pub place : (v : Version) → has_call v new ≡ has_call v old

abbrev pub FitsLine : Change → Declared → Said → Type 0
FitsLine f d (Header version) = ⊤
FitsLine f d Keep = ⊤
FitsLine f d (Node name) = ⊤
FitsLine f d (Job name) = ⊤
FitsLine f d (Rank node) = ⊤
FitsLine f d (Calls c) = IsFitFor c (f (last_job d.processes) c)

changed_lawful : (f : Change) (d : Declared) (a : Said) → FitsLine f d a → IsLawfulLine a → IsLawfulLine (changed_line f d a)
changed_lawful f d (Header version) h l = l
changed_lawful f d Keep h l = l
changed_lawful f d (Node name) h l = l
changed_lawful f d (Job name) h l = l
changed_lawful f d (Rank node) h l = l
changed_lawful f d (Calls c) h l = h.fit.lawful

changed_taken : (f : Change) (d : Declared) (a : Said) → FitsLine f d a → IsTaken d a → IsTaken (changed_declaration f d) (changed_line f d a)
changed_taken f d (Header version) h t = record { place = t.place; short = t.short; known = t.known; again = t.again; room = t.room }
changed_taken f d Keep h t = record { place = t.place; short = t.short; known = t.known; again = t.again; room = t.room }
changed_taken f d (Node name) h t = record { place = t.place; short = t.short; known = t.known; again = t.again; room = t.room }
changed_taken f d (Job name) h t = record { place = t.place; short = t.short; known = t.known; again = t.again; room = t.room }
changed_taken f d (Rank node) h t =
    record { place = t.place; short = t.short; known = t.known; again = t.again; room = ap (λ n. nat_lt n d.limits.processes) (length-map d.processes (changed_process f)) ∙ t.room }
changed_taken f d (Calls c) h t = record { place = ap (λ b. nat_lt 0 d.ranks && b) (h.place d.version) ∙ t.place; short = h.fit.short; known = t.known; again = t.again; room = t.room }

-- lines, with their numbers, lead from one declaration to another
abbrev pub Runs : List (ℕ × Said) → Declared → Declared → Type 0
Runs [] d e = d ≡ e
Runs (l ∷ ls) d e = IsLawfulLine l.1 × IsTaken d l.1 × Runs ls (after d l.0 l.1) e

-- the same, where no line has a number
abbrev pub Takes : List Said → Declared → Declared → Type 0
Takes [] d e = d ≡ e
Takes (a ∷ xs) d e = IsLawfulLine a × IsTaken d a × Takes xs (after d 0 a) e

tests_passed : (a b c f g : Bool) (d e : Declared) (n : ℕ)
    → Ok e ≡ (if not a then Err (BadLine n) else if not b then Err (TooLong n) else if not c then Err (UnknownName n) else if f then Err (Twice n) else if not g then Err (TooMany n) else Ok d)
    → (a ≡ true) × (b ≡ true) × (c ≡ true) × (f ≡ false) × (g ≡ true) × (e ≡ d)
tests_passed false b c f g d e n h = absurd (cc)
tests_passed true false c f g d e n h = absurd (cc)
tests_passed true true false f g d e n h = absurd (cc)
tests_passed true true true true g d e n h = absurd (cc)
tests_passed true true true false false d e n h = absurd (cc)
tests_passed true true true false true d e n h = (refl, refl, refl, refl, refl, cc)

line_taken : (d e : Declared) (line : Statement) → Judges d line (Ok e) → (a : Said) × IsLawfulLine a × IsTaken d a × (e ≡ after d line.0 a)
line_taken d e line (inl j) = absurd (let h = j.1 in cc)
line_taken d e line (inr j) =
    let t = tests_passed (is_in_place d j.0) (is_short j.0) (is_known d j.0) (is_again d j.0) (has_room d j.0) (after d line.0 j.0) e line.0 j.2 in
    (j.0, j.1.1, record { place = t.0; short = t.1; known = t.2; again = t.3; room = t.4 }, t.5)

lines_step : (lines : List Statement) (e : Declared) (rest : (d : Declared) → JudgesAll d lines (Ok e) → (ls : List (ℕ × Said)) × Runs ls d e)
    (d : Declared) (line : Statement) (q : Result Declared Fault) → Judges d line q → MatchResult q (λ x. JudgesAll x lines (Ok e)) (λ f. Ok e ≡ Err f) → (ls : List (ℕ × Said)) × Runs ls d e
lines_step lines e rest d line (Ok x) j m =
    let t = line_taken d x line j in
    let r = rest x m in
    ((line.0, t.0) ∷ r.0, (t.1, t.2, subst (λ y. Runs r.0 y e) t.3 r.1))
lines_step lines e rest d line (Err f) j m = absurd (cc)

-- lines that are judged without a fault say something
pub lines_run : (lines : List Statement) (e d : Declared) → JudgesAll d lines (Ok e) → (ls : List (ℕ × Said)) × Runs ls d e
lines_run [] e d j = ([], cc)
lines_run (line ∷ lines) e d j = lines_step lines e (lines_run lines e) d line j.0 j.1 j.2

-- and so do all lines of a file
pub first_run : (size : Size) (lines : List Statement) (n : ℕ) (d : Declared) → FirstPass size lines n (Ok d) → (v : Version) × (ls : List (ℕ × Said)) × Runs ls (nothing size v) d
first_run size [] n d f = absurd (cc)
first_run size (line ∷ lines) n d (inl f) = let run = lines_run lines d (nothing size f.0) f.2 in (f.0, run.0, run.1)
first_run size (line ∷ lines) n d (inr f) = absurd (let h = f.1 in cc)

pub kept_header : (d : Declared) (n : ℕ) (a : Said) → ((after d n a).version ≡ d.version) × ((after d n a).limits ≡ d.limits)
kept_header d n (Header version) = (refl, refl)
kept_header d n Keep = (refl, refl)
kept_header d n (Node name) = (refl, refl)
kept_header d n (Job name) = (refl, refl)
kept_header d n (Rank node) = (refl, refl)
kept_header d n (Calls c) = (refl, refl)

-- no line changes the version and the limits
pub run_header : (ls : List (ℕ × Said)) (d e : Declared) → Runs ls d e → (e.version ≡ d.version) × (e.limits ≡ d.limits)
run_header [] d e r = (ap (λ (x : Declared). x.version) (sym r), ap (λ (x : Declared). x.limits) (sym r))
run_header (l ∷ ls) d e r =
    let later = run_header ls (after d l.0 l.1) e r.2 in
    let here = kept_header d l.0 l.1 in
    (later.0 ∙ here.0, later.1 ∙ here.1)

-- the calls of processes, by the jobs of these
abbrev pub CallsAre : (ℕ → Call → Type 0) → ℕ → List (ℕ × Call) → Type 0
CallsAre P job [] = ⊤
CallsAre P job (c ∷ cs) = P job c.1 × CallsAre P job cs

abbrev pub AllCalls : (ℕ → Call → Type 0) → List Started → Type 0
AllCalls P [] = ⊤
AllCalls P (p ∷ ps) = CallsAre P p.job p.calls × AllCalls P ps

module _ (P : ℕ → Call → Type 0) where
  calls_front : (job : ℕ) (cs : List (ℕ × Call)) (c : ℕ × Call) → CallsAre P job (cs ++ c ∷ []) → CallsAre P job cs × P job c.1
  calls_front job [] c h = (tt, h.0)
  calls_front job (b ∷ cs) c h = let r = calls_front job cs c h.1 in ((h.0, r.0), r.1)

  with_kept : (ps : List Started) (c : ℕ × Call) → 0 < length ps → AllCalls P (with_call ps c) → AllCalls P ps × P (last_job ps) c.1
  with_kept [] c some h = absurd (omega arith)
  with_kept (p ∷ []) c some h = let r = calls_front p.job p.calls c h.0 in ((r.0, tt), r.1)
  with_kept (p ∷ q ∷ ps) c some h = let r = with_kept (q ∷ ps) c (omega arith) h.1 in ((h.0, r.0), r.1)

  push_kept : (ps : List Started) (p : Started) → AllCalls P (ps ++ p ∷ []) → AllCalls P ps
  push_kept [] p h = tt
  push_kept (q ∷ ps) p h = (h.0, push_kept ps p h.1)

-- a declaration has at least as many processes as its last job
abbrev pub HasRanks : Declared → Type 0
HasRanks d = d.ranks ≤ length d.processes

pub ranks_with : (ps : List Started) (c : ℕ × Call) → length (with_call ps c) ≡ length ps
ranks_with [] c = refl
ranks_with (p ∷ []) c = refl
ranks_with (p ∷ q ∷ ps) c = let e = ranks_with (q ∷ ps) c in omega arith

ranks_kept : (d : Declared) (n : ℕ) (a : Said) → HasRanks d → HasRanks (after d n a)
ranks_kept d n (Header version) h = h
ranks_kept d n Keep h = h
ranks_kept d n (Node name) h = h
ranks_kept d n (Job name) h = omega arith
ranks_kept d n (Rank node) h = omega (arith, length-append d.processes (record { job = length d.jobs - 1; rank = d.ranks; node = number_or_count d.nodes node; calls = [] } ∷ []))
ranks_kept d n (Calls c) h = omega (arith, ranks_with d.processes (n, c))

module _ (f : Change) where
  abbrev Fits : ℕ → Call → Type 0
  Fits job c = IsFitFor c (f job c)

  -- what all calls of a later declaration are, those of an earlier one are, and the call of the line between
  line_fits : (d : Declared) (n : ℕ) (a : Said) → HasRanks d → IsTaken d a → AllCalls Fits (after d n a).processes → AllCalls Fits d.processes × FitsLine f d a
  line_fits d n (Header version) r t h = (h, tt)
  line_fits d n Keep r t h = (h, tt)
  line_fits d n (Node name) r t h = (h, tt)
  line_fits d n (Job name) r t h = (h, tt)
  line_fits d n (Rank node) r t h = (push_kept Fits d.processes _ h, tt)
  line_fits d n (Calls c) r t h = let some = ltb-true 0 d.ranks (and_left (nat_lt 0 d.ranks) (has_call d.version c) t.place) in with_kept Fits d.processes (n, c) (omega arith) h

  run_fits : (ls : List (ℕ × Said)) (d e : Declared) → HasRanks d → Runs ls d e → AllCalls Fits e.processes → AllCalls Fits d.processes
  run_fits [] d e r t h = subst (λ x. AllCalls Fits x.processes) (sym t) h
  run_fits (l ∷ ls) d e r t h =
      (line_fits d l.0 l.1 r t.1 (run_fits ls (after d l.0 l.1) e (ranks_kept d l.0 l.1 r) t.2 h)).0

  -- changed lines lead from one changed declaration to the other
  pub lines_changed : (ls : List (ℕ × Said)) (d e : Declared) → HasRanks d → Runs ls d e → AllCalls Fits e.processes → (xs : List Said) × Takes xs (changed_declaration f d) (changed_declaration f e)
  lines_changed [] d e r t h = ([], ap (changed_declaration f) t)
  lines_changed (l ∷ ls) d e r t h =
      let later = ranks_kept d l.0 l.1 r in
      let fit = (line_fits d l.0 l.1 r t.1 (run_fits ls (after d l.0 l.1) e later t.2 h)).1 in
      let rest = lines_changed ls (after d l.0 l.1) e later t.2 h in (
        changed_line f d l.1 ∷ rest.0,
        (changed_lawful f d l.1 fit t.0, changed_taken f d l.1 fit t.1, subst (λ y. Takes rest.0 y (changed_declaration f e)) (changed_after f d l.0 l.1) rest.1),
      )

-- no call changes, and lines have no numbers
abbrev pub no_change : Change
no_change job c = c

abbrev pub bare_declaration : Declared → Declared
bare_declaration d = changed_declaration no_change d

bare_line : (d : Declared) (a : Said) → changed_line no_change d a ≡ a
bare_line d (Header version) = refl
bare_line d Keep = refl
bare_line d (Node name) = refl
bare_line d (Job name) = refl
bare_line d (Rank node) = refl
bare_line d (Calls c) = refl

bare_after : (d : Declared) (n : ℕ) (a : Said) → bare_declaration (after d n a) ≡ after (bare_declaration d) 0 a
bare_after d n a = changed_after no_change d n a ∙ ap (after (bare_declaration d) 0) (bare_line d a)

taken_full : (d : Declared) (a : Said) → IsTaken (bare_declaration d) a → IsTaken d a
taken_full d (Header version) t = record { place = t.place; short = t.short; known = t.known; again = t.again; room = t.room }
taken_full d Keep t = record { place = t.place; short = t.short; known = t.known; again = t.again; room = t.room }
taken_full d (Node name) t = record { place = t.place; short = t.short; known = t.known; again = t.again; room = t.room }
taken_full d (Job name) t = record { place = t.place; short = t.short; known = t.known; again = t.again; room = t.room }
taken_full d (Rank node) t =
    record { place = t.place; short = t.short; known = t.known; again = t.again; room = sym (ap (λ n. nat_lt n d.limits.processes) (length-map d.processes (changed_process no_change))) ∙ t.room }
taken_full d (Calls c) t = record { place = t.place; short = t.short; known = t.known; again = t.again; room = t.room }

judged_taken : (d : Declared) (n : ℕ) (a : Said) → IsTaken d a → judged d n a ≡ Ok (after d n a)
judged_taken d n a t = rw (t.place, t.short, t.known, t.again, t.room) refl

-- lines that say it, with numbers, are judged without a fault
pub lines_judged : (xs : List Said) (n : ℕ) (d e : Declared) → Takes xs (bare_declaration d) e → (f : Declared) × JudgesAll d (numbered_lines n xs) (Ok f) × (bare_declaration f ≡ e)
lines_judged [] n d e t = (d, refl, t)
lines_judged (a ∷ xs) n d e t =
    let r = lines_judged xs (n + 1) (after d n a) e (subst (λ y. Takes xs y e) (sym (bare_after d n a)) t.2) in
    (r.0, (Ok (after d n a), inr (a, (refl, t.0), sym (judged_taken d n a (taken_full d a t.1))), r.1), r.2)

-- How long the lines of findings are at most.
use Rattle.std.proofs.Common.{◌≡◌, ◌∙◌, ap, refl, codes, ◌++◌, ℕ, ◌+◌, ◌*◌, ◌<◌, ◌≤◌, ◌==◌, ◌^◌, ◌∷◌, take, length, Option, Some, None, decimal, slice_get, length-append, length-take, arith, ◌⊎◌}
use Rattle.std.proofs.Common.{inl, inr}
use Rattle.std.proofs.lemmas.Bool.{cases_lt}
use Rattle.std.proofs.lemmas.Fmt.{length-decimal-le}
use Rattle.std.proofs.lemmas.Option.{slice_get_past}
use Rattle.std.proofs.lemmas.List.Sums.{count_by-le-length}
use Rattle.wire_types.specs.declared.Call.{Call}
use Rattle.wire_types.specs.declared.Call.TheVariants.{Put, Commit, Fence, Get, GetNow, Publish, Lookup, LookupWait, Unpublish, UnpublishAll}
use Rattle.wire_types.specs.declared.CallAt.{CallAt}
use Rattle.wire_types.specs.declared.Proc.{Proc}
use Rattle.wire_scripts.specs.Scripts.{Scripts, IsSound, call_at, text_at}
use Rattle.wire_scripts.specs.Process.{Process}
use Rattle.wire_scripts.specs.Map.{job_at, rank_of}
use Rattle.wire_findings.specs.declared.finding.Finding.{Finding}
use Rattle.wire_findings.specs.declared.finding.Finding.TheVariants.{Rewrite, KeyRace, NameRace}
use Rattle.wire_words.specs.Words.{name_of, text_of_process}
use Rattle.wire_report.specs.Findings.{put_key_text, finding_line, count_line}
use Rattle.wire_report.specs.FindingLines.{NoneIsLonger, HoldsAnyLine, AreNumbered, IsNumbered}

-- room for four words, none of which is longer than any process, key or name of the scripts, and for 128 bytes between them
pub record FitsWords (scripts : Scripts) (room : ℕ) : Type 0 where
  pub longest : ℕ
  pub processes : (p : ℕ) → length (name_of scripts p) ≤ longest
  pub keys : NoneIsLonger scripts.keys longest
  pub names : NoneIsLonger scripts.names longest
  pub enough : 4 * longest + 128 ≤ room

-- a number of 64 bits has at most 20 digits
pub few_digits : (n : ℕ) → n < 2 ^ 64 → length (decimal n) ≤ 20
few_digits n small = length-decimal-le 20 n (omega arith) (omega arith) small

-- a rank is the number of some of the processes
pub rank_small : (s : Scripts) → IsSound s → (p : ℕ) (process : Process) → slice_get s.processes p ≡ Some process → process.rank < 2 ^ 31
rank_small s sound p process there =
    let some : rank_of s.processes p ≤ length (take p s.processes) = count_by-le-length (λ q. q.job == job_at s.processes p) (take p s.processes) in
    omega (arith, sound.ranked.ranks p process there, some, length-take p s.processes, sound.counted.few_processes)

-- and a rank has at most 10
pub process_short : (s : Scripts) → IsSound s → (p : ℕ) (process : Process) → slice_get s.processes p ≡ Some process →
    length (text_of_process s (Some process)) ≤ length (text_at s.jobs process.job) + 11
process_short s sound p process there =
    let rank : process.rank < 2 ^ 31 = rank_small s sound p process there in
    let digits : length (decimal process.rank) ≤ 10 = length-decimal-le 10 process.rank (omega arith) (omega arith) (omega arith) in
    omega (arith, length-append (text_at s.jobs process.job) (58 ∷ decimal process.rank))

-- the number of a call is told from 1
call_digits : (call : CallAt) → call.call < 2 ^ 32 → length (decimal (call.call + 1)) ≤ 20
call_digits call small = few_digits (call.call + 1) (omega arith)

put_key_short : (s : Scripts) (longest : ℕ) (call : Option Call) → NoneIsLonger s.keys longest → length (put_key_text s call) ≤ longest
put_key_short s longest None keys = omega arith
put_key_short s longest (Some (Put scope key value)) keys = keys key
put_key_short s longest (Some Commit) keys = omega arith
put_key_short s longest (Some (Fence set collect)) keys = omega arith
put_key_short s longest (Some (Get owner key)) keys = omega arith
put_key_short s longest (Some (GetNow owner key)) keys = omega arith
put_key_short s longest (Some (Publish name value)) keys = omega arith
put_key_short s longest (Some (Lookup name)) keys = omega arith
put_key_short s longest (Some (LookupWait name)) keys = omega arith
put_key_short s longest (Some (Unpublish name)) keys = omega arith
put_key_short s longest (Some UnpublishAll) keys = omega arith

rewrite_short : (s : Scripts) (room : ℕ) (first later : CallAt) → FitsWords s room → AreNumbered first later → length (finding_line s (Rewrite first later)) ≤ room
rewrite_short s room first later fits small =
    let key : length (put_key_text s (call_at s.processes later.proc.number later.call)) ≤ fits.longest = put_key_short s fits.longest (call_at s.processes later.proc.number later.call) fits.keys in
    simp length-append (omega (arith, fits.enough, fits.processes first.proc.number, call_digits first small.0, call_digits later small.1))

key_race_short : (s : Scripts) (room : ℕ) (lower higher : CallAt) (owner : Proc) (key : ℕ) → FitsWords s room → AreNumbered lower higher →
    length (finding_line s (KeyRace lower higher owner key)) ≤ room
key_race_short s room lower higher owner key fits small =
    simp length-append (omega (
      arith,
      fits.enough,
      fits.processes lower.proc.number,
      call_digits lower small.0,
      fits.processes higher.proc.number,
      call_digits higher small.1,
      fits.processes owner.number,
      fits.keys key,
    ))

name_race_short : (s : Scripts) (room : ℕ) (lower higher : CallAt) (name : ℕ) → FitsWords s room → AreNumbered lower higher → length (finding_line s (NameRace lower higher name)) ≤ room
name_race_short s room lower higher name fits small =
    simp length-append (omega (arith, fits.enough, fits.processes lower.proc.number, call_digits lower small.0, fits.processes higher.proc.number, call_digits higher small.1, fits.names name))

line_short : (s : Scripts) (room : ℕ) (f : Finding) → FitsWords s room → IsNumbered f → length (finding_line s f) ≤ room
line_short s room (Rewrite first later) fits small = rewrite_short s room first later fits small
line_short s room (KeyRace lower higher owner key) fits small = key_race_short s room lower higher owner key fits small
line_short s room (NameRace lower higher name) fits small = name_race_short s room lower higher name fits small

last_short : (s : Scripts) (room count : ℕ) → FitsWords s room → count < 2 ^ 64 → length (count_line count) ≤ room
last_short s room count fits small = simp length-append (omega (arith, fits.enough, few_digits count small))

-- there is room for the line of any finding, and for the last line
pub holds_any : (s : Scripts) (room : ℕ) → FitsWords s room → HoldsAnyLine s room
holds_any s room fits = record { lines = λ f small. line_short s room f fits small; last = λ count small. last_short s room count fits small }

few_lines : (room count : ℕ) → 0 < room → room * (count + 1) < 2 ^ 64 → count < 2 ^ 64
few_lines room count some fits = grind arith

some_room : (s : Scripts) (room : ℕ) → HoldsAnyLine s room → 0 < room
some_room s room holds =
    let one : length (count_line 0) ≤ room = holds.last 0 (omega arith) in
    let parts : length (count_line 0) ≡ length (codes "findings ") + length (decimal 0 ++ codes "\n") = length-append (codes "findings ") (decimal 0 ++ codes "\n") in
    let nine : length (codes "findings ") ≡ 9 = refl in
    omega (arith, one, parts, nine)

-- and so for the line that counts them all
pub count_short : (s : Scripts) (room count : ℕ) → HoldsAnyLine s room → room * (count + 1) < 2 ^ 64 → length (count_line count) ≤ room
count_short s room count holds fits = holds.last count (few_lines room count (some_room s room holds) fits)

-- the words of all processes before the next, and those of the next
pub one_more_process : (s : Scripts) (i old new : ℕ) (process : Process) → IsSound s → slice_get s.processes i ≡ Some process → ((p : ℕ) → p < i → length (name_of s p) ≤ old) → old ≤ new →
    length (text_at s.jobs process.job) + 11 ≤ new
    → (p : ℕ) → p < i + 1 → length (name_of s p) ≤ new
one_more_process s i old new process sound there before grows here p less = go (cases_lt p i)
  where
    this : p ≡ i → length (name_of s p) ≤ new
    this is =
        let at : slice_get s.processes p ≡ Some process = ap (λ n. slice_get s.processes n) is ∙ there in
        rw at (omega (arith, process_short s sound i process there))

    go : (p < i) ⊎ (i ≤ p) → length (name_of s p) ≤ new
    go (inl lt) = omega (arith, before p lt)
    go (inr ge) = this (omega arith)

-- no process has a number past the last
pub no_more_processes : (s : Scripts) (n longest : ℕ) → length s.processes ≤ n → ((p : ℕ) → p < n → length (name_of s p) ≤ longest) → (p : ℕ) → length (name_of s p) ≤ longest
no_more_processes s n longest end all p = go (cases_lt p n)
  where
    past : n ≤ p → length (name_of s p) ≤ longest
    past ge = rw (slice_get_past s.processes p (omega arith)) (omega arith)

    go : (p < n) ⊎ (n ≤ p) → length (name_of s p) ≤ longest
    go (inl lt) = all p lt
    go (inr ge) = past ge

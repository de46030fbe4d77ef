-- From what went out of the parts of a replay to what went out of it.
use Rattle.std.proofs.Common.{◌≡◌, ◌≢◌, ◌↔◌, ◌⊎◌, inl, inr, ap, subst, sym, refl, ℕ, true, false, List, [], Option, Result, Ok, Err, IfOk, IfErr, OnOk}
use Rattle.std.specs.Io.KnownBytes.{Appends}
use Rattle.wire_types.specs.declared.Fault.{Fault}
use Rattle.wire_types.specs.declared.Fault.TheVariants.{Memory, Read, Write}
use Rattle.wire_types.specs.Front.{WritesFront}
use Rattle.wire_scripts.specs.Scripts.{Scripts}
use Rattle.wire_scripts.specs.Planned.{plan_of}
use Rattle.wire_runs.specs.Races.{IsSettled}
use Rattle.wire_findings.specs.declared.finding.Finding.{Finding}
use Rattle.wire_findings.specs.Findings.{AreFindings}
use Rattle.wire_parallel_run.specs.Collect.{MayWork}
use Rattle.wire_reader.specs.declared.Size.{Size}
use Rattle.wire_command.specs.declared.ended.Ended.{Ended}
use Rattle.wire_command.specs.declared.ended.Ended.TheVariants.{Clean}
use Rattle.wire_command.specs.Read.{ReadAs}
use Rattle.wire_command.specs.Command.{WritesText, BreaksOffText, TellsSomehow}
use Rattle.wire_command.specs.Ending.{ended_with}
use Rattle.wire_commands.proofs.Checked.{front_or_none}
use Rattle.wire_report.specs.Findings.{findings_form}
use Rattle.wire_commands.specs.declared.replay.Mode.{Mode}
use Rattle.wire_commands.specs.declared.replay.Replayed.{Replayed}
use Rattle.wire_commands.specs.Complete.{TellsCalls, JudgesCalls, line_in}
use Rattle.wire_commands.specs.Replay.{TellsRun, TellsFound, IsReplay, WritesOneEnd, WritesReplay, BreaksOffReplay, StopsBeforeReplay}
use Rattle.wire_commands.proofs.Worked.{found_told, clean_writes}

-- a run of a plan in which something is found went out
pub run_out : (mode : Mode) (s : Scripts) (found : List Finding) (old new : Option (List ℕ)) (text shown : List ℕ) (r : Result (Unit {0}) Fault) →
    mode.anyway ≡ true → TellsRun mode.json s text → shown ≡ text → OnOk r (Appends old new shown) → OnOk r (WritesText (TellsFound mode.json mode.anyway s found) old new)
run_out mode s found old new text shown (Ok u) anyway tells is wrote =
    record { text = text; tells = subst (λ b. TellsFound mode.json b s found text) (sym anyway) tells; wrote = subst (λ t. Appends old new t) is wrote }
run_out mode s found old new text shown (Err e) anyway tells is wrote = tt

pub run_broken : (mode : Mode) (s : Scripts) (found : List Finding) (old new : Option (List ℕ)) (text shown : List ℕ) (A B : Type 0) (r : Result (Unit {0}) Fault) →
    mode.anyway ≡ true → TellsRun mode.json s text → shown ≡ text → IfErr r (WritesFront old new shown) → IfErr r (λ _. B) →
    IfErr r (λ e. ((e ≡ Memory) × A) ⊎ (BreaksOffText (TellsFound mode.json mode.anyway s found) old new e × B))
run_broken mode s found old new text shown A B (Ok u) anyway tells is front failed = tt
run_broken mode s found old new text shown A B (Err e) anyway tells is front failed =
    let tells_so = subst (λ b. TellsFound mode.json b s found text) (sym anyway) tells in
    inr (record { text = text; tells = tells_so; wrote = subst (λ t. WritesFront old new t e) is front }, failed)

-- and so the findings of one
findings_told : (mode : Mode) (s : Scripts) (found : List Finding) → mode.anyway ≡ false → TellsFound mode.json mode.anyway s found (findings_form mode.json s found)
findings_told mode s found held = subst (λ b. TellsFound mode.json b s found (findings_form mode.json s found)) (sym held) refl

pub findings_out : (mode : Mode) (s shown : Scripts) (found : List Finding) (old new : Option (List ℕ)) (r : Result (Unit {0}) Fault) →
    mode.anyway ≡ false → shown ≡ s → OnOk r (Appends old new (findings_form mode.json shown found)) → OnOk r (WritesText (TellsFound mode.json mode.anyway s found) old new)
findings_out mode s shown found old new (Ok u) held is wrote =
    record { text = findings_form mode.json s found; tells = findings_told mode s found held; wrote = subst (λ (t : Scripts). Appends old new (findings_form mode.json t found)) is wrote }
findings_out mode s shown found old new (Err e) held is wrote = tt

pub findings_broken : (mode : Mode) (s shown : Scripts) (found : List Finding) (old new : Option (List ℕ)) (A B : Type 0) (r : Result (Unit {0}) Fault) →
    mode.anyway ≡ false → shown ≡ s → IfErr r (λ e. (e ≡ Memory) ⊎ WritesFront old new (findings_form mode.json shown found) e) →
    (r ≡ Err Memory → A) → IfErr r (λ e. e ≢ Memory → B) → IfErr r (λ e. ((e ≡ Memory) × A) ⊎ (BreaksOffText (TellsFound mode.json mode.anyway s found) old new e × B))
findings_broken mode s shown found old new A B (Ok u) held is told none failed = tt
findings_broken mode s shown found old new A B (Err e) held is told none failed =
    front_or_none e old new (findings_form mode.json shown found) A B (BreaksOffText (TellsFound mode.json mode.anyway s found) old new e) told (λ memory. none (ap Err memory)) failed
    (λ front. record {
      text = findings_form mode.json s found;
      tells = findings_told mode s found held;
      wrote = subst (λ (t : Scripts). WritesFront old new (findings_form mode.json t found) e) is front;
    })

-- the front of the text of a replay went out
pub replay_broken : (mode : Mode) (s : Scripts) (ended : Ended) (old new : Option (List ℕ)) (text shown : List ℕ) (e : Fault) → IsReplay mode s text ended → shown ≡ text →
    WritesFront old new shown e → BreaksOffText (TellsSomehow (IsReplay mode s)) old new e
replay_broken mode s ended old new text shown e replay is front =
    record { text = text; tells = (ended, replay); wrote = subst (λ t. WritesFront old new t e) is front }

-- what is told of a plan in which something is found
pub found_out : (mode : Mode) (s : Scripts) (found : List Finding) (ended : Ended) (old new : Option (List ℕ)) → ((found ≡ []) ↔ IsSettled (plan_of s)) → AreFindings s found → found ≢ [] →
    ended ≡ ended_with found → WritesText (TellsFound mode.json mode.anyway s found) old new → WritesText (λ text. IsReplay mode s text ended) old new
found_out mode s found ended old new law those some ends out =
    record { text = out.text; tells = found_told mode s found found ended out.text law those some refl ends out.tells; wrote = out.wrote }

-- how a replay of scripts stops: memory ran out, or the front went out
abbrev pub Stops : Mode → Scripts → Option (List ℕ) → Option (List ℕ) → Type 0 → Type 0 → Fault → Type 0
Stops mode s old new A B e = ((e ≡ Memory) × A) ⊎ (BreaksOffText (TellsSomehow (IsReplay mode s)) old new e × B)

pub found_broken : (mode : Mode) (s : Scripts) (found : List Finding) (ended : Ended) (old new : Option (List ℕ)) (A B : Type 0) (e : Fault) → ((found ≡ []) ↔ IsSettled (plan_of s)) →
    AreFindings s found → found ≢ [] → ended ≡ ended_with found
    → ((e ≡ Memory) × A) ⊎ (BreaksOffText (TellsFound mode.json mode.anyway s found) old new e × B) → Stops mode s old new A B e
found_broken mode s found ended old new A B e law those some ends (inl memory) = inl memory
found_broken mode s found ended old new A B e law those some ends (inr (out, failed)) =
    inr (record { text = out.text; tells = (ended, found_told mode s found found ended out.text law those some refl ends out.tells); wrote = out.wrote }, failed)

-- what went out of a replay of scripts that were read
pub writes_replay : {size : Size} (mode : Mode) (coming old new : Option (List ℕ)) (s : Scripts) (r : Result Replayed Fault) →
    ReadAs size coming s → IfOk r (λ v. WritesText (λ text. IsReplay mode s text v.ended) old new) →
    IfOk r (λ v. WritesReplay size mode coming v.ended old new)
writes_replay mode coming old new s (Ok v) read told = record { scripts = s; read = read; text = told.text; replay = told.tells; wrote = told.wrote }
writes_replay mode coming old new s (Err e) read told = tt

pub judges_calls : {size : Size} (coming : Option (List ℕ)) (s : Scripts) (r : Result Replayed Fault) → ReadAs size coming s → IfOk r (λ v. TellsCalls s v.ended (line_in v.failure)) →
    IfOk r (λ v. JudgesCalls size coming v.ended (line_in v.failure))
judges_calls coming s (Ok v) read tells = record { scripts = s; read = read; tells = tells }
judges_calls coming s (Err e) read tells = tt

pub clean_one_end : {size : Size} (mode : Mode) (coming old new : Option (List ℕ)) (s : Scripts) (r : Result Replayed Fault) →
    ReadAs size coming s → IfOk r (λ v. WritesText (λ text. IsReplay mode s text v.ended) old new) →
    IfOk r (λ v. v.ended ≡ Clean → WritesOneEnd size mode coming old new)
clean_one_end mode coming old new s (Ok v) read told = λ clean. clean_writes mode coming old new s v.ended read told clean
clean_one_end mode coming old new s (Err e) read told = tt

pub breaks_off : {size : Size} (workers : ℕ) (mode : Mode) (coming old new : Option (List ℕ)) (s : Scripts) (A B : Type 0) (r : Result Replayed Fault) → MayWork workers → ReadAs size coming s →
    IfErr r (Stops mode s old new A B) → IfErr r (λ e. (StopsBeforeReplay size workers coming e × A) ⊎ (BreaksOffReplay size mode coming old new e × B))
breaks_off workers mode coming old new s A B (Ok v) may read stops = tt
breaks_off workers mode coming old new s A B (Err e) may read (inl (memory, none)) = inl (inr (may, inl memory), none)
breaks_off workers mode coming old new s A B (Err e) may read (inr (front, failed)) =
    inr (record { scripts = s; read = read; ended = front.tells.0; text = front.text; replay = front.tells.1; wrote = front.wrote }, failed)

-- the writing is no failed read
pub no_failed_read : (mode : Mode) (s : Scripts) (old new : Option (List ℕ)) (A B : Type 0) (r : Result Replayed Fault) → IfErr r (Stops mode s old new A B) → r ≡ Err Read → ⊥
no_failed_read mode s old new A B (Ok v) stops is = let bad : Ok v ≡ Err Read = is in cc
no_failed_read mode s old new A B (Err e) (inl (memory, none)) is = let bad : Memory ≡ Read = cc in cc
no_failed_read mode s old new A B (Err e) (inr (front, failed)) is = let bad : Write front.wrote.0 ≡ Read = cc (front.wrote.1) in cc

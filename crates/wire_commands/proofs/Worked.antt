-- From what the parts of a replay tell to what it tells.
use Rattle.std.proofs.Common.{◌≡◌, ◌≢◌, ◌∙◌, ◌↔◌, ◌==◌, subst, sym, refl, arith, ℕ, Bool, true, false, List, [], ◌∷◌, length, Option}
use Rattle.std.specs.Prelude.{◌&&◌, Vec, Result, Ok, Err, IfOk}
use Rattle.std.specs.declared.alloc.Global.{Global}
use Rattle.wire_types.specs.declared.Fault.{Fault}
use Rattle.std.proofs.lemmas.Bool.{eqb-true, true≢false}
use Rattle.wire_types.specs.Outcome.{Ends}
use Rattle.wire_scripts.specs.Scripts.{Scripts}
use Rattle.wire_scripts.specs.Planned.{plan_of}
use Rattle.wire_runs.specs.Races.{IsSettled}
use Rattle.wire_findings.specs.declared.finding.Finding.{Finding}
use Rattle.wire_findings.specs.Findings.{AreFindings}
use Rattle.wire_core.specs.EndsAfter.{plain_ends}
use Rattle.wire_reader.specs.declared.Size.{Size}
use Rattle.wire_command.specs.declared.ended.Ended.{Ended}
use Rattle.wire_command.specs.declared.ended.Ended.TheVariants.{Clean, Found}
use Rattle.wire_commands.specs.declared.replay.Mode.{Mode}
use Rattle.wire_command.specs.Read.{ReadAs}
use Rattle.wire_command.specs.Command.{WritesText}
use Rattle.wire_command.specs.Ending.{ended_with}
use Rattle.wire_report.specs.Report.{report_form}
use Rattle.wire_standstill.specs.Told.{ReportsStandstill}
use Rattle.wire_commands.specs.Replay.{TellsReplay, TellsEnd, TellsFound, IsReplay, WritesOneEnd}
use Rattle.wire_commands.proofs.Checked.{judged_so}

-- of a settled plan
pub settled_told : (mode : Mode) (s shown : Scripts) (none : List Finding) (text : List ℕ) → none ≡ [] → ((none ≡ []) ↔ IsSettled (plan_of s)) → AreFindings s none →
    shown ≡ s → TellsEnd mode.json mode.explain shown text → IsReplay mode s text Clean
settled_told mode s shown (f ∷ fs) text is law those same told = let bad : f ∷ fs ≡ [] = is in absurd (cc)
settled_told mode s shown [] text is law those same told =
    record { found = []; judged = judged_so s [] [] Clean law those refl refl; tells = subst (λ (t : Scripts). TellsEnd mode.json mode.explain t text) same told }

-- the report alone, where nothing is to be explained
pub report_told : (json explain : Bool) (s shown : Scripts) (ends : Ends) (text : List ℕ) → json && explain ≡ false → shown ≡ s → ends ≡ plain_ends s → text ≡ report_form json shown ends →
    TellsEnd json explain s text
report_told true true s shown ends text held same at told = absurd (true≢false held)
report_told true false s shown ends text held same at told = told ∙ (λ i. report_form true (same i) (at i))
report_told false true s shown ends text held same at told = told ∙ (λ i. report_form false (same i) (at i))
report_told false false s shown ends text held same at told = told ∙ (λ i. report_form false (same i) (at i))

-- who waits for ever with it, where that is asked for
pub standstill_told : (json explain : Bool) (s : Scripts) (ends : Ends) (text : List ℕ) → json && explain ≡ true → ends ≡ plain_ends s → ReportsStandstill s ends text → TellsEnd json explain s text
standstill_told true true s ends text asked at told = subst (λ (e : Ends). ReportsStandstill s e text) at told
standstill_told true false s ends text asked at told = absurd (true≢false (sym asked))
standstill_told false explain s ends text asked at told = absurd (true≢false (sym asked))

-- of one in which something is found
found_tells : (mode : Mode) (s : Scripts) (found : List Finding) (text : List ℕ) → found ≢ [] → TellsFound mode.json mode.anyway s found text → TellsReplay mode s found text
found_tells mode s [] text some tells = absurd (some refl)
found_tells mode s (f ∷ fs) text some tells = tells

pub found_told : (mode : Mode) (s : Scripts) (found counted : List Finding) (ended : Ended) (text : List ℕ) → ((found ≡ []) ↔ IsSettled (plan_of s)) → AreFindings s found → found ≢ [] →
    counted ≡ found → ended ≡ ended_with counted
    → TellsFound mode.json mode.anyway s found text → IsReplay mode s text ended
found_told mode s found counted ended text law those some count ends tells =
    record { found = found; judged = judged_so s found counted ended law those count ends; tells = found_tells mode s found text some tells }

pub standstill_tells : (json explain : Bool) (s : Scripts) (ends : Ends) (r : Result (Vec ℕ Global) Fault) → json && explain ≡ true → ends ≡ plain_ends s →
    IfOk r (λ text. ReportsStandstill s ends text.items) → IfOk r (λ text. TellsEnd json explain s text.items)
standstill_tells json explain s ends (Ok text) asked at told = standstill_told json explain s ends text.items asked at told
standstill_tells json explain s ends (Err e) asked at told = tt

-- where it is clean, nothing is found
clean_tells : (mode : Mode) (s : Scripts) (found : List Finding) (ended : Ended) (text : List ℕ) → ended ≡ ended_with found → TellsReplay mode s found text → ended ≡ Clean →
    TellsEnd mode.json mode.explain s text
clean_tells mode s [] ended text ends tells clean = tells
clean_tells mode s (f ∷ fs) ended text ends tells clean = let bad : Found (length (f ∷ fs)) ≡ Clean = sym ends ∙ clean in absurd (cc)

pub clean_writes : {size : Size} (mode : Mode) (coming old new : Option (List ℕ)) (s : Scripts) (ended : Ended) →
    ReadAs size coming s → WritesText (λ text. IsReplay mode s text ended) old new → ended ≡ Clean → WritesOneEnd size mode coming old new
clean_writes mode coming old new s ended read told clean =
    let judged = told.tells.judged in
    let tells = clean_tells mode s told.tells.found ended told.text judged.ends told.tells.tells clean in
    record { scripts = s; read = read; one_end = judged.one_end clean; text = told.text; tells = tells; wrote = told.wrote }

-- a list that is empty
pub none_there : (found : List Finding) (empty : Bool) → empty ≡ (length found == 0) → empty ≡ true → found ≡ []
none_there [] empty is shown = refl
none_there (f ∷ fs) empty is shown = let none : length (f ∷ fs) ≡ 0 = eqb-true (length (f ∷ fs)) 0 (sym is ∙ shown) in absurd (omega (arith, none))

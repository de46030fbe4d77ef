-- From what the parts of a check tell to what it tells.
use Rattle.std.proofs.Common.{◌≡◌, ◌≢◌, ◌∙◌, ◌↔◌, ◌⊎◌, inl, inr, ap, sym, refl, subst, ℕ, List, [], ◌∷◌, length, Bool, true, false, Option, Result, Ok, Err, IfOk, IfErr, OnOk}
use Rattle.std.specs.Io.KnownBytes.{Appends}
use Rattle.wire_types.specs.declared.Fault.{Fault}
use Rattle.wire_types.specs.declared.Fault.TheVariants.{Memory, Read, Write}
use Rattle.wire_types.specs.declared.OutputFormat.{OutputFormat}
use Rattle.wire_types.specs.Forms.{has_places, is_json}
use Rattle.wire_types.specs.Front.{WritesFront}
use Rattle.wire_scripts.specs.Scripts.{Scripts}
use Rattle.wire_scripts.specs.Planned.{plan_of}
use Rattle.wire_runs.specs.Races.{IsSettled}
use Rattle.wire_runs.proofs.PlainRun.{plain_runs}
use Rattle.wire_runs.proofs.Findings.{races_are_unordered}
use Rattle.wire_findings.specs.declared.finding.Finding.{Finding}
use Rattle.wire_findings.specs.Findings.{AreFindings}
use Rattle.wire_report.specs.Findings.{findings_form}
use Rattle.wire_reader.specs.declared.Size.{Size}
use Rattle.wire_command.specs.declared.ended.Ended.{Ended}
use Rattle.wire_command.specs.declared.ended.Ended.TheVariants.{Clean, Found}
use Rattle.wire_command.specs.Command.{WritesText, BreaksOffText, TellsSomehow}
use Rattle.wire_commands.specs.Check.{IsVerdictOf, IsGroupedText, TellsEach, TellsFindings, IsVerdict}
use Rattle.wire_command.specs.Ending.{ended_with}

-- it is clean exactly where nothing is found
clean_exactly : (found : List Finding) → (ended_with found ≡ Clean) ↔ (found ≡ [])
clean_exactly [] = ((λ clean. refl), (λ none. refl))
clean_exactly (f ∷ fs) = (
  (λ clean. let bad : Found (length (f ∷ fs)) ≡ Clean = clean in absurd (cc)),
  (λ none. let bad : f ∷ fs ≡ [] = none in absurd (cc)),
)

settled_too : (s : Scripts) (found : List Finding) (ended : Ended) → ended ≡ ended_with found → ((found ≡ []) ↔ IsSettled (plan_of s)) → (ended ≡ Clean) ↔ IsSettled (plan_of s)
settled_too s found ended ends law = (
  (λ clean. law.0 ((clean_exactly found).0 (sym ends ∙ clean))),
  (λ settled. ends ∙ (clean_exactly found).1 (law.1 settled)),
)

-- what the findings that there are tell
pub judged_so : (s : Scripts) (found counted : List Finding) (ended : Ended) → ((found ≡ []) ↔ IsSettled (plan_of s)) → AreFindings s found → counted ≡ found → ended ≡ ended_with counted →
    IsVerdictOf s found ended
judged_so s found counted ended law those count ends =
    let ended_so : ended ≡ ended_with found = ends ∙ ap ended_with count in
    let settled : (ended ≡ Clean) ↔ IsSettled (plan_of s) = settled_too s found ended ended_so law in
    record {
      those = those;
      ends = ended_so;
      settled = settled;
      one_end = λ clean. (plain_runs (plan_of s)).is_the_end (settled.0 clean);
      unordered = λ f there. races_are_unordered (plan_of s) f ((those.those f).0 there);
    }

-- and what is told of them
pub judged_told : (form : OutputFormat) (name : List ℕ) (rows : List (List ℕ)) (s shown : Scripts) (found : List Finding) (ended : Ended) (text : List ℕ) →
    ((found ≡ []) ↔ IsSettled (plan_of s)) → AreFindings s found → shown ≡ s → ended ≡ ended_with found →
    TellsFindings form name rows shown found text → IsVerdict form name s rows text ended
judged_told form name rows s shown found ended text law those same ends tells = record {
  found = found;
  judged = judged_so s found found ended law those refl ends;
  tells = subst (λ t. TellsFindings form name rows t found text) same tells;
}

-- all of it went out
pub told : (form : OutputFormat) (name : List ℕ) (rows : List (List ℕ)) (s shown : Scripts) (found : List Finding) (ended : Ended) (old new : Option (List ℕ)) →
    ((found ≡ []) ↔ IsSettled (plan_of s)) → AreFindings s found → shown ≡ s → ended ≡ ended_with found →
    WritesText (TellsFindings form name rows shown found) old new → WritesText (λ text. IsVerdict form name s rows text ended) old new
told form name rows s shown found ended old new law those same ends out =
    record { text = out.text; tells = judged_told form name rows s shown found ended out.text law those same ends out.tells; wrote = out.wrote }

-- how a verdict is written, or isn't
abbrev pub Stops : OutputFormat → List ℕ → List (List ℕ) → Scripts → Option (List ℕ) → Option (List ℕ) → Type 0 → Type 0 → Fault → Type 0
Stops form name rows s old new A B e = ((e ≡ Memory) × A) ⊎ (BreaksOffText (TellsSomehow (IsVerdict form name s rows)) old new e × B)

-- and so of the findings
abbrev pub StopsFindings : OutputFormat → List ℕ → List (List ℕ) → Scripts → List Finding → Option (List ℕ) → Option (List ℕ) → Type 0 → Type 0 → Fault → Type 0
StopsFindings form name rows s found old new A B e = ((e ≡ Memory) × A) ⊎ (BreaksOffText (TellsFindings form name rows s found) old new e × B)

-- the front of it went out, or memory ran out
pub told_broken : (form : OutputFormat) (name : List ℕ) (rows : List (List ℕ)) (s shown : Scripts) (found : List Finding) (ended : Ended) (old new : Option (List ℕ))
    (A B : Type 0) (e : Fault) → ((found ≡ []) ↔ IsSettled (plan_of s)) → AreFindings s found → shown ≡ s → ended ≡ ended_with found →
    StopsFindings form name rows shown found old new A B e → Stops form name rows s old new A B e
told_broken form name rows s shown found ended old new A B e law those same ends (inl memory) = inl memory
told_broken form name rows s shown found ended old new A B e law those same ends (inr (out, failed)) =
    let verdict = judged_told form name rows s shown found ended out.text law those same ends out.tells in
    inr (record { text = out.text; tells = (ended, verdict); wrote = out.wrote }, failed)

-- a fault of the writing is Memory, or it counts what went out
pub front_or_none : (e : Fault) (old new : Option (List ℕ)) (text : List ℕ) (A B C : Type 0) → (e ≡ Memory) ⊎ WritesFront old new text e → (e ≡ Memory → A) → (e ≢ Memory → B) →
    (WritesFront old new text e → C) → ((e ≡ Memory) × A) ⊎ (C × B)
front_or_none e old new text A B C (inl memory) none failed front = inl (memory, none memory)
front_or_none e old new text A B C (inr wrote) none failed front = inr (front wrote, failed (λ is. let bad : Memory ≡ Write wrote.0 = sym is ∙ wrote.1 in cc))

-- without places the findings are told one by one
told_each : (form : OutputFormat) (name : List ℕ) (rows : List (List ℕ)) (s : Scripts) (found : List Finding) (places json : Bool) → places ≡ has_places form → json ≡ is_json form → places ≡ false →
    TellsFindings form name rows s found (findings_form json s found)
told_each form name rows s found places json is_places is_form none =
    let without : false ≡ has_places form = sym none ∙ is_places in
    subst (λ b. TellsEach b (is_json form) name rows s found (findings_form json s found)) without (ap (λ j. findings_form j s found) is_form)

pub each_out : (form : OutputFormat) (name : List ℕ) (rows : List (List ℕ)) (s : Scripts) (found : List Finding) (old new : Option (List ℕ)) (places json : Bool) (r : Result (Unit {0}) Fault) →
    places ≡ has_places form → json ≡ is_json form → places ≡ false → OnOk r (Appends old new (findings_form json s found)) →
    OnOk r (WritesText (TellsFindings form name rows s found) old new)
each_out form name rows s found old new places json (Ok u) is_places is_form none wrote =
    record { text = findings_form json s found; tells = told_each form name rows s found places json is_places is_form none; wrote = wrote }
each_out form name rows s found old new places json (Err e) is_places is_form none wrote = tt

pub each_broken : (form : OutputFormat) (name : List ℕ) (rows : List (List ℕ)) (s : Scripts) (found : List Finding) (old new : Option (List ℕ)) (places json : Bool) (A B : Type 0)
    (r : Result (Unit {0}) Fault) → places ≡ has_places form → json ≡ is_json form → places ≡ false →
    IfErr r (λ e. (e ≡ Memory) ⊎ WritesFront old new (findings_form json s found) e) → (r ≡ Err Memory → A) → IfErr r (λ e. e ≢ Memory → B) →
    IfErr r (StopsFindings form name rows s found old new A B)
each_broken form name rows s found old new places json A B (Ok u) is_places is_form none front kept failed = tt
each_broken form name rows s found old new places json A B (Err e) is_places is_form none front kept failed =
    front_or_none e old new (findings_form json s found) A B (BreaksOffText (TellsFindings form name rows s found) old new e) front (λ memory. kept (ap Err memory)) failed
    (λ wrote. record { text = findings_form json s found; tells = told_each form name rows s found places json is_places is_form none; wrote = wrote })

-- with places they are told in groups
told_in_groups : (form : OutputFormat) (name : List ℕ) (rows : List (List ℕ)) (s : Scripts) (found : List Finding) (places : Bool) (text : List ℕ) → places ≡ has_places form → places ≡ true →
    IsGroupedText (is_json form) name rows s found text → TellsFindings form name rows s found text
told_in_groups form name rows s found places text is_places with tells =
    let placed : true ≡ has_places form = sym with ∙ is_places in subst (λ b. TellsEach b (is_json form) name rows s found text) placed tells

pub groups_out : (form : OutputFormat) (name : List ℕ) (rows : List (List ℕ)) (s : Scripts) (found : List Finding) (old new : Option (List ℕ)) (places : Bool) (text shown : List ℕ)
    (r : Result (Unit {0}) Fault) → places ≡ has_places form → places ≡ true → IsGroupedText (is_json form) name rows s found text → shown ≡ text →
    OnOk r (Appends old new shown) → OnOk r (WritesText (TellsFindings form name rows s found) old new)
groups_out form name rows s found old new places text shown (Ok u) is_places with tells is wrote =
    record { text = text; tells = told_in_groups form name rows s found places text is_places with tells; wrote = subst (λ t. Appends old new t) is wrote }
groups_out form name rows s found old new places text shown (Err e) is_places with tells is wrote = tt

pub groups_broken : (form : OutputFormat) (name : List ℕ) (rows : List (List ℕ)) (s : Scripts) (found : List Finding) (old new : Option (List ℕ)) (places : Bool) (text shown : List ℕ) (A B : Type 0)
    (r : Result (Unit {0}) Fault) → places ≡ has_places form → places ≡ true → IsGroupedText (is_json form) name rows s found text → shown ≡ text →
    IfErr r (WritesFront old new shown) → IfErr r (λ _. B) → IfErr r (StopsFindings form name rows s found old new A B)
groups_broken form name rows s found old new places text shown A B (Ok u) is_places with tells is front failed = tt
groups_broken form name rows s found old new places text shown A B (Err e) is_places with tells is front failed =
    let tells_so = told_in_groups form name rows s found places text is_places with tells in
    inr (record { text = text; tells = tells_so; wrote = subst (λ t. WritesFront old new t e) is front }, failed)

-- a check that is told so refuses nothing
pub refuses_nothing : (Tells : List ℕ → Type 0) (old new : Option (List ℕ)) (A B : Type 0) (r : Result Ended Fault) →
    IfErr r (λ e. ((e ≡ Memory) × A) ⊎ (BreaksOffText Tells old new e × B)) → IfErr r (λ e. (((e ≡ Memory) ⊎ ⊥) × A) ⊎ (BreaksOffText Tells old new e × B))
refuses_nothing Tells old new A B (Ok ended) stops = tt
refuses_nothing Tells old new A B (Err e) (inl (memory, none)) = inl (inl memory, none)
refuses_nothing Tells old new A B (Err e) (inr front) = inr front

-- and its fault is no failed read
pub no_read_told : (Tells : List ℕ → Type 0) (old new : Option (List ℕ)) (A B : Type 0) (r : Result Ended Fault) →
    IfErr r (λ e. ((e ≡ Memory) × A) ⊎ (BreaksOffText Tells old new e × B)) → IfErr r (λ e. e ≢ Read)
no_read_told Tells old new A B (Ok ended) stops = tt
no_read_told Tells old new A B (Err e) (inl (memory, none)) = λ is. let bad : Memory ≡ Read = sym memory ∙ is in absurd (cc)
no_read_told Tells old new A B (Err e) (inr (front, failed)) = λ is. let bad : Write front.wrote.0 ≡ Read = sym (front.wrote.1) ∙ is in absurd (cc)

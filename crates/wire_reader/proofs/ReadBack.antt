-- The canonical text of what was read reads as the same.
use Rattle.std.proofs.Common.{◌≡◌, ◌∙◌, ap, sym, subst, refl, ℕ, ◌-◌, List, [], ◌∷◌, ◌++◌, length, arith, None, Result, Ok, Err, MatchResult, inl, inr}
use Rattle.std.specs.List.{flat_map}
use Rattle.wire_types.specs.declared.Fault.{Fault}
use Rattle.wire_types.specs.declared.Version.{Version}
use Rattle.wire_lines.specs.Text.{lines_of}
use Rattle.wire_lines.specs.Said.{Call, Said, Header, Keep, Node, Job, Rank, Calls, IsLawfulLine}
use Rattle.wire_scripts.specs.Scripts.{Scripts}
use Rattle.wire_reader.specs.declared.limits.Size.{Size}
use Rattle.wire_scripts.specs.Canonical.{line_text, lines_said, canonical}
use Rattle.wire_reader.specs.Statements.{statements}
use Rattle.wire_reader.specs.FirstPass.{Started, Declared, nothing, number_or_count, after, with_call, FirstPass}
use Rattle.wire_reader.specs.Reads.{first_fault, scripts_of, unless_fault, second_pass, ReadsShort}
use Rattle.wire_reader.specs.Back.{ReadsBack, OneCanonical}
use Rattle.wire_reader.proofs.Recut.{AllLawful, numbered_lines, said_again}
use Rattle.wire_reader.proofs.Changed.{IsTaken, IsFit, CallsAre, AllCalls, Runs, Takes, changed_declaration, first_run, run_header, lines_changed, lines_judged}
use Rattle.wire_reader.proofs.DeclaredLines.{lines_added, nothing_shaped}
use Rattle.wire_reader.proofs.Ranked.{run_good}
use Rattle.wire_reader.proofs.Once.{short_once, second_ok}
use Rattle.wire_reader.proofs.Again.{canonical_call, scripts_changed, scripts_bare, met_changed, met_full}
use Rattle.wire_reader.proofs.Said.{again_same, again_fits, scripts_lines}

-- all calls that lines declare may be said
calls_push : (job : ℕ) (cs : List (ℕ × Call)) (c : ℕ × Call) → CallsAre (λ j b. IsFit b) job cs → IsFit c.1 → CallsAre (λ j b. IsFit b) job (cs ++ c ∷ [])
calls_push job [] c h f = (f, tt)
calls_push job (b ∷ cs) c h f = (h.0, calls_push job cs c h.1 f)

fit_with : (ps : List Started) (c : ℕ × Call) → AllCalls (λ j b. IsFit b) ps → IsFit c.1 → AllCalls (λ j b. IsFit b) (with_call ps c)
fit_with [] c h f = tt
fit_with (p ∷ []) c h f = (calls_push p.job p.calls c h.0 f, tt)
fit_with (p ∷ q ∷ ps) c h f = (h.0, fit_with (q ∷ ps) c h.1 f)

fit_push : (ps : List Started) (p : Started) → AllCalls (λ j b. IsFit b) ps → CallsAre (λ j b. IsFit b) p.job p.calls → AllCalls (λ j b. IsFit b) (ps ++ p ∷ [])
fit_push [] p h f = (f, tt)
fit_push (q ∷ ps) p h f = (h.0, fit_push ps p h.1 f)

fit_kept : (d : Declared) (n : ℕ) (a : Said) → IsLawfulLine a → IsTaken d a → AllCalls (λ j b. IsFit b) d.processes → AllCalls (λ j b. IsFit b) (after d n a).processes
fit_kept d n (Header version) l t h = h
fit_kept d n Keep l t h = h
fit_kept d n (Node name) l t h = h
fit_kept d n (Job name) l t h = h
fit_kept d n (Rank node) l t h = fit_push d.processes (record { job = length d.jobs - 1; rank = d.ranks; node = number_or_count d.nodes node; calls = [] }) h tt
fit_kept d n (Calls c) l t h = fit_with d.processes (n, c) h (record { lawful = l; short = t.short })

fit_run : (ls : List (ℕ × Said)) (d e : Declared) → Runs ls d e → AllCalls (λ j b. IsFit b) d.processes → AllCalls (λ j b. IsFit b) e.processes
fit_run [] d e r h = subst (λ x. AllCalls (λ j b. IsFit b) x.processes) r h
fit_run (l ∷ ls) d e r h = fit_run ls (after d l.0 l.1) e r.2 (fit_kept d l.0 l.1 r.0 r.1 h)

all_lawful : (xs : List Said) (d e : Declared) → Takes xs d e → AllLawful xs
all_lawful [] d e t = tt
all_lawful (a ∷ xs) d e t = (t.0, all_lawful xs (after d 0 a) e t.2)

-- scripts of what some lines declare
pub declared_back : (size : Size) (v : Version) (d : Declared) (s : Scripts) (ls : List (ℕ × Said)) (n : ℕ) → Runs ls (nothing size v) d → first_fault d d.processes ≡ None → s ≡ scripts_of d
    → (e : Declared) × FirstPass size (statements (canonical s)) n (Ok e) × (Ok s ≡ second_pass e)
declared_back size v d s ls n run u is =
    let good = run_good size v ls d run in
    let fits = again_fits d good (fit_run ls (nothing size v) d run tt) u in
    let same = again_same d good u in
    let t = lines_changed (canonical_call d) ls (nothing size v) d (omega arith) run fits in
    let shape = lines_added t.0 (nothing size v) (changed_declaration (canonical_call d) d) t.1 (nothing_shaped size v) in
    let version : d.version ≡ v = (run_header ls (nothing size v) d run).0 in
    let lines : lines_said s ≡ Header v ∷ t.0 = ap lines_said is ∙ scripts_lines d ∙ (λ i. Header (version i) ∷ shape.0 i) in
    let text : statements (canonical s) ≡ numbered_lines 1 (Header v ∷ t.0) =
    ap (λ x. statements (flat_map line_text x)) lines ∙ said_again (Header v ∷ t.0) (tt, all_lawful t.0 (nothing size v) (changed_declaration (canonical_call d) d) t.1) in
    let f = lines_judged t.0 2 (nothing size v) (changed_declaration (canonical_call d) d) t.1 in
    let none : first_fault f.0 f.0.processes ≡ None = met_full f.0 (ap (λ x. first_fault x x.processes) f.2 ∙ met_changed (canonical_call d) d same u) in
    let all : s ≡ scripts_of f.0 = is ∙ sym (scripts_changed (canonical_call d) d same) ∙ ap scripts_of (sym f.2) ∙ scripts_bare f.0 in
    (f.0, subst (λ l. FirstPass size l n (Ok f.0)) (sym text) (inl (v, (refl, tt), f.1)), ap Ok all ∙ ap (unless_fault f.0) (sym none))

short_back : (size : Size) (bytes : List ℕ) (s : Scripts) (q : Result Declared Fault) → FirstPass size (statements bytes) (length (lines_of bytes)) q
    → MatchResult q (λ d. Ok s ≡ second_pass d) (λ f. Ok s ≡ Err f) → ReadsShort size (canonical s) (Ok s)
short_back size bytes s (Err f) first m = absurd (cc)
short_back size bytes s (Ok d) first m =
    let t = first_run size (statements bytes) (length (lines_of bytes)) d first in
    let u = second_ok d s (first_fault d d.processes) m in
    let r = declared_back size t.0 d s t.1 (length (lines_of (canonical s))) t.2 u.0 u.1 in
    (Ok r.0, r.1, r.2)

pub reads_back : ReadsBack
reads_back size bytes s (inl h) small = absurd (let e = h.1 in cc)
reads_back size bytes s (inr h) small = inr (small, short_back size bytes s h.1.0 h.1.1 h.1.2)

pub one_canonical : OneCanonical
one_canonical size a b s t (inl h) reads same = absurd (let e = h.1 in cc)
one_canonical size a b s t (inr h) (inl k) same = absurd (let e = k.1 in cc)
one_canonical size a b s t (inr h) (inr k) same =
    let first = short_back size a s h.1.0 h.1.1 h.1.2 in
    let second = short_back size b t k.1.0 k.1.1 k.1.2 in
    let is : Ok s ≡ Ok t = short_once size (canonical s) (Ok s) (Ok t) first (subst (λ x. ReadsShort size x (Ok t)) (sym same) second) in
    cc

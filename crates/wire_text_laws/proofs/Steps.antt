-- The lines of the steps of a run read as an order of these steps.
use Rattle.std.proofs.Common.{◌≡◌, ◌∙◌, ap, sym, subst, refl, ℕ, ◌+◌, ◌*◌, ◌<◌, ◌≤◌, List, [], ◌∷◌, false, Some, Ok, length, append_assoc, length-append, arith}
use Rattle.std.specs.Prelude.{⊤}
use Rattle.std.proofs.lemmas.List.{length-map}
use borrow.Author.Tests.{le-ltb}
use Rattle.wire_types.specs.declared.Version.{Version}
use Rattle.wire_types.specs.declared.Version.TheVariants as version
use Rattle.wire_runs.specs.Plan.{Plan, event_total}
use Rattle.wire_runs.specs.State.{State, start, next_kind}
use Rattle.wire_runs.specs.Step.{step, IsInterleaving}
use Rattle.wire_runs.proofs.Basics.{process_within}
use Rattle.wire_runs.proofs.Due.{has_event}
use Rattle.wire_runs.proofs.Length.{runs_end}
use Rattle.wire_lines.specs.Text.{lines_of, words_of}
use Rattle.wire_scripts.specs.Scripts.{Scripts}
use Rattle.wire_scripts.specs.Planned.{planned_process, plan_of}
use Rattle.wire_reader.specs.declared.Size.{Size}
use Rattle.wire_reader.specs.declared.Size.TheVariants.{OfVersion, Large}
use Rattle.wire_reader.specs.Limits.{limits_of, order_bytes}
use Rattle.wire_reader.specs.Within.{IsWithin}
use Rattle.wire_reader.specs.Statements.{is_skipped, statements_from, statements}
use Rattle.wire_reader.specs.FirstPass.{Declared}
use Rattle.wire_reader.specs.Reads.{seen_in, process_of, scripts_of}
use Rattle.wire_reader.proofs.Ranked.{IsGood}
use Rattle.wire_reader.specs.Order.{proc_named, order_of, order_within, order_read}
use Rattle.wire_words.specs.Words.{name_of}
use Rattle.wire_report.specs.Unsettled.{step_line}
use Rattle.wire_text_laws.specs.Again.{steps_text, FitsOrder, OrderReadsBack}
use Rattle.wire_text_laws.proofs.Lines.{line_again, words_again}
use Rattle.wire_text_laws.proofs.Source.{declared_by}
use Rattle.wire_text_laws.proofs.Named.{IsStepWord, step_word}
use Rattle.wire_text_laws.proofs.Length.{few_events}

-- each of some numbers
abbrev Each : (ℕ → Type 0) → List ℕ → Type 0
Each P [] = ⊤
Each P (p ∷ ps) = P p × Each P ps

each_more : (P Q : ℕ → Type 0) → ((p : ℕ) → P p → Q p) → (ps : List ℕ) → Each P ps → Each Q ps
each_more P Q f [] h = tt
each_more P Q f (p ∷ ps) h = (f p h.0, each_more P Q f ps h.1)

-- the steps of a run are processes of the plan
steps_within : (plan : Plan) (s : State) (steps : List ℕ) → IsInterleaving plan s steps → Each (λ p. p < length plan.processes) steps
steps_within plan s [] h = tt
steps_within plan s (p ∷ steps) h =
    let v = has_event plan s p (next_kind plan s p) refl h.0 in
    (process_within plan p (s.done p) v.0 v.1, steps_within plan (step plan s p) steps h.1)

one_line : (s : Scripts) (n : ℕ) (w : List ℕ) (lines : List (List ℕ)) (p : ℕ) (steps : List ℕ) → words_of w ≡ w ∷ [] → is_skipped (w ∷ []) ≡ false → proc_named s w ≡ Some p
    → order_of s (statements_from (n + 1) lines) ≡ Ok steps → order_of s (statements_from n (w ∷ lines)) ≡ Ok (p ∷ steps)
one_line s n w lines p steps words counts named rest = rw (words, counts, named, rest) refl

lines_read : (s : Scripts) (n : ℕ) (steps : List ℕ) → Each (IsStepWord s) steps → order_of s (statements_from n (lines_of (steps_text s steps))) ≡ Ok steps
lines_read s n [] h = refl
lines_read s n (p ∷ steps) h =
    let w = name_of s p in
    ap (λ t. order_of s (statements_from n (lines_of t))) (append_assoc w (10 ∷ []) (steps_text s steps))
    ∙ ap (λ l. order_of s (statements_from n l)) (line_again w h.0.word (steps_text s steps))
    ∙ one_line s n w (lines_of (steps_text s steps)) p steps (words_again w h.0.word) h.0.counts h.0.named (lines_read s (n + 1) steps h.1)

-- a line has at most 74 bytes
text_short : (s : Scripts) (steps : List ℕ) → Each (IsStepWord s) steps → length (steps_text s steps) ≤ 74 * length steps
text_short s [] h = omega arith
text_short s (p ∷ steps) h =
    let here = h.0.short in
    let all : length (steps_text s (p ∷ steps)) ≡ length (step_line s p) + length (steps_text s steps) = length-append (step_line s p) (steps_text s steps) in
    let line : length (step_line s p) ≡ length (name_of s p) + 1 = length-append (name_of s p) (10 ∷ []) in
    omega (arith, here, all, line, text_short s steps h.1)

read_within : (limit : ℕ) (s : Scripts) (text steps : List ℕ) → length text ≤ limit → order_of s (statements text) ≡ Ok steps → order_within limit s text ≡ Ok steps
read_within limit s text steps low is = rw (le-ltb limit (length text) low) is

calls_of_version : (v : Version) → (limits_of OfVersion v).calls ≤ 32768
calls_of_version version.One = omega arith
calls_of_version version.Two = omega arith

text_fits : (size : Size) (d : Declared) (steps : List ℕ) → IsWithin (limits_of size d.version) d → IsInterleaving (plan_of (scripts_of d)) start steps → Each (IsStepWord (scripts_of d)) steps →
    FitsOrder size (scripts_of d) steps → length (steps_text (scripts_of d) steps) ≤ order_bytes size
text_fits OfVersion d steps within run words fits =
    let few = few_events (limits_of OfVersion d.version) d within in
    let many = runs_end (plan_of (scripts_of d)) steps run in
    omega (arith, few, many, calls_of_version d.version, text_short (scripts_of d) steps words)
text_fits Large d steps within run words fits = fits

declared_back : (size : Size) (d : Declared) (steps : List ℕ) → IsGood d → IsWithin (limits_of size d.version) d → IsInterleaving (plan_of (scripts_of d)) start steps →
    FitsOrder size (scripts_of d) steps → order_read size (scripts_of d) (steps_text (scripts_of d) steps) ≡ Ok steps
declared_back size d steps g within run fits =
    let s = scripts_of d in
    let count : length (plan_of s).processes ≡ length d.processes = length-map s.processes (planned_process s) ∙ length-map d.processes (process_of d (seen_in d)) in
    let words = each_more (λ p. p < length (plan_of s).processes) (IsStepWord s) (λ p low. step_word d g p (subst (λ n. p < n) count low)) steps (steps_within (plan_of s) start steps run) in
    read_within (order_bytes size) s (steps_text s steps) steps (text_fits size d steps within run words fits) (lines_read s 1 steps words)

same_steps : (size : Size) (s : Scripts) (text steps others : List ℕ) → order_read size s text ≡ Ok steps → order_read size s text ≡ Ok others → others ≡ steps
same_steps size s text steps others a b = let is : Ok others ≡ Ok steps = sym b ∙ a in cc

pub order_reads_back : OrderReadsBack
order_reads_back size bytes s steps read run fits =
    let r = declared_by size bytes s read in
    let is : order_read size s (steps_text s steps) ≡ Ok steps =
    subst (λ t. order_read size t (steps_text t steps) ≡ Ok steps) (sym r.is)
    (declared_back size r.d steps r.good r.within (subst (λ t. IsInterleaving (plan_of t) start steps) r.is run) (subst (λ t. FitsOrder size t steps) r.is fits)) in
    record { reads = is; only = λ others e. same_steps size s (steps_text s steps) steps others is e }

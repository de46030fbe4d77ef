-- What is written, and the lines of what is left, are all lines.
use Rattle.std.proofs.Common.{◌≡◌, ◌∙◌, ap, sym, refl, ℕ, ◌+◌, List, [], ◌∷◌, ◌++◌, append_assoc, append-nil, map, ◌⊎◌, inl, inr}
use Rattle.wire_types.specs.declared.Call.{Call}
use Rattle.wire_types.specs.declared.CallEnd.{CallEnd}
use Rattle.wire_scripts.specs.Scripts.{Scripts, Process}
use Rattle.wire_report.specs.Report.{call_line, lines_from, process_lines, all_lines}

-- one more line of a process, of its call number i from 0
pub one_line : (scripts : Scripts) (process : Process) (i n n' : ℕ) (call : Call) (end : CallEnd) (calls calls' : List Call) (ends ends' : List CallEnd) (out out' all : List ℕ) →
    calls ≡ call ∷ calls' → ends ≡ end ∷ ends' → i ≡ n → n' ≡ n + 1 → out ++ lines_from scripts process (n + 1) calls ends ≡ all → out' ≡ out ++ call_line scripts process (i + 1) call end → out'
    ++ lines_from scripts process (n' + 1) calls' ends' ≡ all
one_line scripts process i n n' call end calls calls' ends ends' out out' all first second now next before written =
    rw (next, written, now)
    (append_assoc out (call_line scripts process (n + 1) call end) (lines_from scripts process ((n + 1) + 1) calls' ends')
    ∙ sym (ap (λ t. out ++ lines_from scripts process (n + 1) t ends) first ∙ ap (λ t. out ++ lines_from scripts process (n + 1) (call ∷ calls') t) second)
    ∙ before)

lines_after : (scripts : Scripts) (process : Process) (n : ℕ) (calls : List Call) → lines_from scripts process n calls [] ≡ []
lines_after scripts process n [] = refl
lines_after scripts process n (call ∷ calls) = refl

-- no line is left where no call or no end is left
pub no_line : (scripts : Scripts) (process : Process) (n : ℕ) (calls : List Call) (ends : List CallEnd) (out all : List ℕ) → (calls ≡ []) ⊎ (ends ≡ []) → out
    ++ lines_from scripts process n calls ends ≡ all → out ≡ all
no_line scripts process n calls ends out all none before =
    sym (append-nil out)
    ∙ ap (λ t. out ++ t) (sym (elim none [ inl e ↦ ap (λ t. lines_from scripts process n t ends) e | inr e ↦ ap (λ t. lines_from scripts process n calls t) e ∙ lines_after scripts process n calls ]))
    ∙ before

rows_after : (scripts : Scripts) (processes : List Process) → all_lines scripts processes [] ≡ []
rows_after scripts [] = refl
rows_after scripts (process ∷ processes) = refl

-- no line is left where no process or no row is left
pub no_row : {R : Type 0} (scripts : Scripts) (processes : List Process) (f : R → List CallEnd) (rows : List R) (out all : List ℕ) → (processes ≡ []) ⊎ (rows ≡ []) → out
    ++ all_lines scripts processes (map f rows) ≡ all → out ≡ all
no_row scripts processes f rows out all none before =
    sym (append-nil out)
    ∙ ap (λ t. out ++ t) (sym (elim none [ inl e ↦ ap (λ t. all_lines scripts t (map f rows)) e | inr e ↦ ap (λ t. all_lines scripts processes (map f t)) e ∙ rows_after scripts processes ]))
    ∙ before

-- the lines of one more process, with its row
pub one_row : {R : Type 0} (scripts : Scripts) (process : Process) (processes processes' : List Process) (f : R → List CallEnd) (row : R) (ends : List CallEnd) (rows rows' : List R) (out out' all : List ℕ) →
    processes ≡ process ∷ processes' → rows ≡ row ∷ rows' → ends ≡ f row → out ++ all_lines scripts processes (map f rows) ≡ all → out' ≡ out ++ process_lines scripts process ends →
    out' ++ all_lines scripts processes' (map f rows') ≡ all
one_row scripts process processes processes' f row ends rows rows' out out' all first second is before written =
    ap (λ t. t ++ all_lines scripts processes' (map f rows')) (written ∙ ap (λ e. out ++ process_lines scripts process e) is)
    ∙ append_assoc out (process_lines scripts process (f row)) (all_lines scripts processes' (map f rows'))
    ∙ sym (ap (λ t. out ++ all_lines scripts t (map f rows)) first ∙ ap (λ t. out ++ all_lines scripts (process ∷ processes') (map f t)) second)
    ∙ before

-- The steps of an order, line by line.
use Rattle.std.proofs.Common.{◌≡◌, ◌∙◌, ap, sym, refl, ℕ, List, [], ◌∷◌, ◌++◌, Some, None, Result, Ok, Err, append_assoc, append-nil}
use Rattle.wire_types.specs.declared.Fault.{Fault}
use Rattle.wire_types.specs.declared.Fault.TheVariants.{BadOrder}
use Rattle.wire_types.specs.declared.Proc.{Proc}
use Rattle.wire_scripts.specs.Scripts.{Scripts, numbers_of}
use Rattle.wire_reader.specs.Statements.{Statement}
use Rattle.wire_reader.specs.Order.{step_of, with_step, order_of}
use Rattle.wire_reader.specs.ProcWords.{steps_before}

-- before the first step there are none
pub none_before : (r : Result (List ℕ) Fault) → r ≡ steps_before [] r
none_before (Ok later) = refl
none_before (Err fault) = refl

-- a step goes from the lines that are left to the steps that were read
moved : (line step : ℕ) (steps : List ℕ) (r : Result (List ℕ) Fault) → steps_before steps (with_step line (Some step) r) ≡ steps_before (steps ++ step ∷ []) r
moved line step steps (Ok later) = ap Ok (sym (append_assoc steps (step ∷ []) later))
moved line step steps (Err fault) = refl

numbers_push : (procs : List Proc) (p : Proc) → numbers_of (procs ++ p ∷ []) ≡ numbers_of procs ++ p.number ∷ []
numbers_push [] p = refl
numbers_push (q ∷ qs) p = ap (λ ns. q.number ∷ ns) (numbers_push qs p)

module _ (s : Scripts) (statement : Statement) (lines now : List Statement) (procs : List Proc) (all : Result (List ℕ) Fault)
    (so_far : all ≡ steps_before (numbers_of procs) (order_of s now)) (is : now ≡ statement ∷ lines) where
  -- the next line names a process
  pub one_more : (p : Proc) (new : List Proc) → Some p.number ≡ step_of s statement.1 → new ≡ procs ++ p ∷ [] → all ≡ steps_before (numbers_of new) (order_of s lines)
  one_more p new named e =
      so_far
      ∙ ap (λ l. steps_before (numbers_of procs) (order_of s l)) is
      ∙ ap (λ o. steps_before (numbers_of procs) (with_step statement.0 o (order_of s lines))) (sym named)
      ∙ moved statement.0 p.number (numbers_of procs) (order_of s lines)
      ∙ ap (λ ns. steps_before ns (order_of s lines)) (sym (ap numbers_of e ∙ numbers_push procs p))

  -- the next line names none
  pub refused : None ≡ step_of s statement.1 → all ≡ Err (BadOrder statement.0)
  refused none =
      so_far
      ∙ ap (λ l. steps_before (numbers_of procs) (order_of s l)) is
      ∙ ap (λ o. steps_before (numbers_of procs) (with_step statement.0 o (order_of s lines))) (sym none)

-- no line is left
pub all_read : (s : Scripts) (now : List Statement) (procs : List Proc) (all : Result (List ℕ) Fault) → all ≡ steps_before (numbers_of procs) (order_of s now) → now ≡ [] → all ≡ Ok (numbers_of procs)
all_read s now procs all so_far is =
    so_far ∙ ap (λ l. steps_before (numbers_of procs) (order_of s l)) is ∙ ap Ok (append-nil (numbers_of procs))

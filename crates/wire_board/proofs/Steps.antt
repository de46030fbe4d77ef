-- A store to a word is a step of a run.
use Rattle.std.proofs.Common.{◌≡◌, ℕ, suc, ◌+◌, ◌<◌, List, length, set, get_or, sym, ◌∙◌, subst, inl, inr, arith, get_or-set_same, get_or-set_other}
use Rattle.std.proofs.lemmas.Bool.{cases_eq}
use Rattle.wire_runs.specs.Laws.{one_more}
use Rattle.wire_runs.proofs.Basics.{update_same, update_other}
use Rattle.wire_runs.proofs.OneMore.{one_event_between}
use Rattle.wire_board.specs.Steps.{StoresAreSteps}

raised : (words : List ℕ) (p : ℕ) → p < length words → (q : ℕ) → get_or (set words p (get_or words p 0 + 1)) q 0 ≡ one_more (λ k. get_or words k 0) p q
raised words p here q = elim (cases_eq q p) [
  | inl e ↦ subst (λ k. get_or (set words p (get_or words p 0 + 1)) k 0 ≡ one_more (λ i. get_or words i 0) p k) (sym e)
      (let now = update_same (λ i. get_or words i 0) p (suc (get_or words p 0)) in let same = get_or-set_same words p (get_or words p 0 + 1) 0 here in omega (arith, now, same))
  | inr ne ↦ get_or-set_other words p q (get_or words p 0 + 1) 0 ne ∙ sym (update_other (λ i. get_or words i 0) p (suc (get_or words p 0)) q ne)
]

pub stores_are_steps : StoresAreSteps
stores_are_steps plan words rank settled here before after =
    one_event_between plan (λ q. get_or words q 0) rank before.state after.state settled (record { reached = before.reached; done = before.done })
    (record { reached = after.reached; done = λ q. after.done q ∙ raised words rank here q })

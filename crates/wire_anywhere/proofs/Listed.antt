-- How the list of differing calls grows.
use Rattle.std.proofs.Common.{◌≡◌, ◌∙◌, ap, refl, sym, subst, ℕ, suc, ◌+◌, List, [], ◌∷◌, ◌++◌, Some, None, arith}
use Rattle.std.proofs.lemmas.List.{append-nil, append_assoc}
use Rattle.wire_runs.specs.Plan.{Plan}
use Rattle.wire_runs.specs.Laws.{plain_end}
use Rattle.wire_anywhere.specs.declared.differing.Differing.{Differing}
use Rattle.wire_anywhere.specs.Differing.{IsDiffering, IsUntold, AreToldTo, AreToldBelow, AddsDiffering}

one_more : (n : ℕ) → suc n ≡ n + 1
one_more n = omega arith

module _ (plan : Plan) (p n : ℕ) (old now : List Differing) where
  -- an event of which nothing is told
  pub none_told : AddsDiffering old now (AreToldTo plan p n) → IsUntold plan (record { proc = p; at = n }) → AddsDiffering old now (AreToldTo plan p (n + 1))
  none_told a untold = (a.0, subst (λ k. AreToldTo plan p k a.0) (one_more n) (a.0, None, a.1, untold, sym (append-nil a.0)), a.2)

  -- an event that is told
  pub one_told : (next : List Differing) (d : Differing) → next ≡ now ++ d ∷ [] → AddsDiffering old now (AreToldTo plan p n) → IsDiffering plan (record { proc = p; at = n }) d →
      AddsDiffering old next (AreToldTo plan p (n + 1))
  one_told next d is a differing =
      (a.0 ++ d ∷ [], subst (λ k. AreToldTo plan p k (a.0 ++ d ∷ [])) (one_more n) (a.0, Some d, a.1, differing, refl), is ∙ ap (λ xs. xs ++ d ∷ []) a.2 ∙ append_assoc old a.0 (d ∷ []))

pub no_event : (plan : Plan) (p : ℕ) (old : List Differing) → AddsDiffering old old (AreToldTo plan p 0)
no_event plan p old = ([], refl, sym (append-nil old))

pub one_process : (plan : Plan) (n : ℕ) (old now : List Differing) → AreToldBelow plan n old → AddsDiffering old now (AreToldTo plan n ((plain_end plan).done n)) → AreToldBelow plan (n + 1) now
one_process plan n old now before a = subst (λ k. AreToldBelow plan k now) (one_more n) (old, a.0, before, a.1, a.2)

-- Lists of findings that grow.
use Rattle.std.proofs.Common.{◌≡◌, ◌∙◌, ap, sym, subst, List, [], ◌∷◌, ◌++◌, ◌⊎◌, inl, inr, ⊎_elim}
use Rattle.std.proofs.lemmas.List.{map-append}
use Rattle.wire_runs.specs.Plan.{Plan}
use Rattle.wire_runs.specs.Findings.{Finding, Has}
use Rattle.wire_findings.specs.declared.finding.Finding.{Finding as Told}
use Rattle.wire_findings.specs.Findings.{shown, all_shown}
use Rattle.wire_findings.specs.Collected.{TellsFinding, AreFound, IsFindingAdded}

has_front : (xs ys : List Finding) (f : Finding) → Has xs f → Has (xs ++ ys) f
has_front [] ys f h = absurd h
has_front (x ∷ xs) ys f (inl e) = inl e
has_front (x ∷ xs) ys f (inr h) = inr (has_front xs ys f h)

has_back : (xs ys : List Finding) (f : Finding) → Has ys f → Has (xs ++ ys) f
has_back [] ys f h = h
has_back (x ∷ xs) ys f h = inr (has_back xs ys f h)

has_either : (xs ys : List Finding) (f : Finding) → Has (xs ++ ys) f → Has xs f ⊎ Has ys f
has_either [] ys f h = inr h
has_either (x ∷ xs) ys f (inl e) = inl (inl e)
has_either (x ∷ xs) ys f (inr h) = ⊎_elim (λ a. inl (inr a)) (λ b. inr b) (has_either xs ys f h)

module _ (plan : Plan) (old new piece : List Told) (is : new ≡ old ++ piece) where
  parts : all_shown plan new ≡ all_shown plan old ++ all_shown plan piece
  parts = ap (all_shown plan) is ∙ map-append (shown plan) old piece

  pub tells_old : (f : Finding) → TellsFinding plan old f → TellsFinding plan new f
  tells_old f h = subst (λ l. Has l f) (sym parts) (has_front (all_shown plan old) (all_shown plan piece) f h)

  pub tells_piece : (f : Finding) → TellsFinding plan piece f → TellsFinding plan new f
  tells_piece f h = subst (λ l. Has l f) (sym parts) (has_back (all_shown plan old) (all_shown plan piece) f h)

  pub tells_either : (f : Finding) → TellsFinding plan new f → TellsFinding plan old f ⊎ TellsFinding plan piece f
  tells_either f h = has_either (all_shown plan old) (all_shown plan piece) f (subst (λ l. Has l f) parts h)

-- a finding is added
pub pushed : (plan : Plan) (old new : List Told) (t : Told) → new ≡ old ++ t ∷ [] → IsFindingAdded plan old new (shown plan t)
pushed plan old new t is f = (
  (λ h. elim (tells_either plan old new (t ∷ []) is f h) [
    | inl was ↦ inl was
    | inr it ↦ elim it [ inl e ↦ inr e | inr never ↦ absurd never ]
  ]),
  (λ s. ⊎_elim (λ was. tells_old plan old new (t ∷ []) is f was) (λ e. tells_piece plan old new (t ∷ []) is f (inl e)) s),
)

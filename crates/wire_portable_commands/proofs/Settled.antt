-- What an empty list of findings tells of the plan as it is written.
use Rattle.std.proofs.Common.{◌≡◌, ◌∙◌, ◌==◌, ◌↔◌, sym, refl, List, [], ◌∷◌, length, arith, Bool, true}
use Rattle.std.proofs.lemmas.Bool.{eqb-true}
use Rattle.wire_scripts.specs.Scripts.{Scripts}
use Rattle.wire_scripts.specs.Planned.{plan_of}
use Rattle.wire_runs.specs.Plan.{Plan}
use Rattle.wire_runs.specs.Placings.{IsPlacing}
use Rattle.wire_runs.specs.Races.{IsSettled}

-- a plan is a placing of itself
itself : (plan : Plan) → IsPlacing plan plan
itself plan = record { same_keep = refl; same_count = refl; same_calls = λ p. refl }

no_entry : {A : Type 0} (xs : List A) → (length xs == 0) ≡ true → xs ≡ []
no_entry [] is = refl
no_entry (x ∷ xs) is = let none : length (x ∷ xs) ≡ 0 = eqb-true (length (x ∷ xs)) 0 is in absurd (omega (arith, none))

pub settled_here : {A : Type 0} (s : Scripts) (found : List A) (empty : Bool) → ((found ≡ []) ↔ IsSettled (plan_of s)) → empty ≡ (length found == 0) →
    empty ≡ true → IsSettled (plan_of s)
settled_here s found empty law is so = law.0 (no_entry found (sym is ∙ so))

pub settled_as_written : {A : Type 0} (s : Scripts) (found : List A) (empty : Bool) → ((found ≡ []) ↔ ((other : Plan) → IsPlacing (plan_of s) other → IsSettled other)) →
    empty ≡ (length found == 0) → empty ≡ true → IsSettled (plan_of s)
settled_as_written s found empty law is so = law.0 (no_entry found (sym is ∙ so)) (plan_of s) (itself (plan_of s))

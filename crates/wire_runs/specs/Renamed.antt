-- A plan under other numbers of its keys and names.
use Rattle.std.specs.Prelude.{◌≡◌, ℕ, map}
use Rattle.wire_runs.specs.Plan.{Plan, kinds, node_of}
use Rattle.wire_runs.specs.Races.{IsSettled}
use Rattle.wire_runs.specs.Embeddings.{Renaming, image_kind, IsKeyOf, IsNameOf}

-- each event stays where it is; keys and names have these numbers
abbrev pub renumbering : (key name : ℕ → ℕ) → Renaming
renumbering key name = record { process = λ p. p; place = λ p n. n; key = key; name = name; members = λ members. members }

-- other has the processes and the calls of the plan, with these numbers for keys and names, none for two
pub record IsRenumbered (plan other : Plan) (key name : ℕ → ℕ) : Type 0 where
  pub calls : (p : ℕ) → kinds other p ≡ map (image_kind (renumbering key name)) (kinds plan p)
  pub one_key : (a b : ℕ) → IsKeyOf plan a → IsKeyOf plan b → key a ≡ key b → a ≡ b
  pub one_name : (a b : ℕ) → IsNameOf plan a → IsNameOf plan b → name a ≡ name b → a ≡ b
  pub nodes : (p : ℕ) → node_of other p ≡ node_of plan p
  pub keeps : other.keep ≡ plan.keep

-- numbers say nothing: where the plan is settled, so is the other
abbrev pub RenumberedSettle : Type 0
RenumberedSettle = (plan other : Plan) (key name : ℕ → ℕ) → IsRenumbered plan other key name
    → IsSettled plan → IsSettled other

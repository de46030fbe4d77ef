-- Nodes say nothing of calls: an instance with its processes on other nodes is the instance on those.
use Rattle.std.proofs.Common.{◌≡◌, ◌∙◌, ap, sym, refl, ℕ, suc, ◌+◌, List, [], ◌∷◌, ◌++◌, arith}
use Rattle.wire_runs.specs.Plan.{Process}
use Rattle.wire_runs.specs.Placings.{placed, placing}
use Rattle.wire_runs.specs.Patterns.{InOrder, Round, Chosen, Step, Once, Loop, Pattern, Coding, Cast, turns, step_calls, calls_from, processes_from, instance_of}
use Rattle.wire_runs.specs.Restrictions.{on_nodes}
use Rattle.wire_runs.proofs.SameRoles.{call_same, loop_same}

module _ (coding : Coding) (cast : Cast) (nodes : ℕ → ℕ) where
  abbrev there : Cast
  there = on_nodes nodes cast

  step_there : (v i : ℕ) (step : Step) → step_calls coding there v i step ≡ step_calls coding cast v i step
  step_there v i (Once line) = ap (λ c. c ∷ []) (call_same coding cast there refl v v line)
  step_there v i (Loop role InOrder lines) = loop_same coding cast there refl v lines (turns cast v i role InOrder)
  step_there v i (Loop role Round lines) = loop_same coding cast there refl v lines (turns cast v i role Round)
  step_there v i (Loop role Chosen lines) = loop_same coding cast there refl v lines (turns cast v i role Chosen)

  calls_there : (v i : ℕ) (steps : List Step) → calls_from coding there v i steps ≡ calls_from coding cast v i steps
  calls_there v i [] = refl
  calls_there v i (step ∷ steps) =
      ap (λ cs. cs ++ calls_from coding there v (suc i) steps) (step_there v i step) ∙ ap (λ cs. step_calls coding cast v i step ++ cs) (calls_there v (suc i) steps)

  processes_there : (pattern : Pattern) (p : ℕ) (f : ℕ → ℕ) → ((q : ℕ) → f q ≡ nodes (p + q)) → (roles : List ℕ)
      → placed f (processes_from pattern coding cast p roles) ≡ processes_from pattern coding there p roles
  processes_there pattern p f same [] = refl
  processes_there pattern p f same (role ∷ roles) =
      let own : p + 0 ≡ p = omega arith in
      let next : (q : ℕ) → p + suc q ≡ suc p + q = λ q. omega arith in
      ap (λ n. record { node = n; calls = calls_from coding cast p 0 (pattern.script role) }
      ∷ placed (λ q. f (suc q)) (processes_from pattern coding cast (suc p) roles)) (same 0 ∙ ap nodes own)
      ∙ ap (λ cs. record { node = nodes p; calls = cs } ∷ placed (λ q. f (suc q)) (processes_from pattern coding cast (suc p) roles))
      (sym (calls_there p 0 (pattern.script role)))
      ∙ ap (λ ps. record { node = nodes p; calls = calls_from coding there p 0 (pattern.script role) } ∷ ps)
      (processes_there pattern (suc p) (λ q. f (suc q)) (λ q. same (suc q) ∙ ap nodes (next q)) roles)

  pub placed_there : (pattern : Pattern) → placing (instance_of pattern coding cast) nodes ≡ instance_of pattern coding there
  placed_there pattern =
      let own : (q : ℕ) → q ≡ 0 + q = λ q. omega arith in
      ap (λ (ps : List Process). record { processes = ps; keep = pattern.keep }) (processes_there pattern 0 nodes (λ q. ap nodes (own q)) cast.roles)

-- Three of each role suffice: an instance with more is settled where those with one rank fewer are.
use Rattle.std.proofs.Common.{◌≡◌, ℕ, zero, suc, ◌+◌, ◌<◌, ◌≤◌, List, [], ◌∷◌, ◌++◌, map, length, true, false, not, ◌==◌, Some, ◌⊎◌, inl, inr, refl, sym, ap, ◌∙◌, subst, arith, ne_eqb, eqb-true, length-append}
use Rattle.std.specs.Prelude.{slice_get, filter, cond}
use Rattle.std.proofs.lemmas.List.{length-map}
use Rattle.std.proofs.lemmas.Bool.{cond-false, cases_lt, cases_eq, cases_Bool, or_cases, or_parts, true≢false}
use Rattle.std.proofs.lemmas.Option.{none-some, same_Some}
use Rattle.wire_runs.specs.Plan.{Process}
use Rattle.wire_runs.specs.Fences.{is_member}
use Rattle.wire_runs.specs.Races.{IsSettled}
use Rattle.wire_runs.specs.Embeddings.{pair}
use Rattle.wire_runs.specs.Placings.{placed, placing}
use Rattle.wire_runs.specs.Patterns.{InOrder, Round, Chosen, Step, Once, Loop, Pattern, Coding, Cast, group, turns, step_calls, calls_from, processes_from, instance_of, IsLawful, IsCastOf}
use Rattle.wire_runs.specs.Restrictions.{skip, without, restricted, CanGo, FewerSettle, on_nodes, HasAtLeast, HasAtMost, SmallAreSettled, ThreeSuffice}
use Rattle.wire_runs.proofs.SameRoles.{call_same, loop_same}
use Rattle.wire_runs.proofs.WholeSets.{filter_length, rises_group, single_stays}
use Rattle.wire_runs.proofs.Skip.{group_skip}
use Rattle.wire_runs.proofs.Placements.{pairs_suffice}
use Rattle.wire_runs.proofs.FewerFindings.{no_rewrite, no_node_race, no_name_race}
use Rattle.wire_runs.proofs.FewerDeliveries.{no_delivery_race}

pub fewer_settle : FewerSettle
fewer_settle pattern coding cast role lawful cast_is four settled = record {
  no_rewrite = no_rewrite pattern coding cast role lawful cast_is four settled;
  no_node_race = no_node_race pattern coding cast role lawful cast_is four settled;
  no_delivery_race = no_delivery_race pattern coding cast role lawful cast_is four settled;
  no_name_race = no_name_race pattern coding cast role lawful cast_is four settled;
}

-- nodes say nothing of calls
module _ (coding : Coding) (cast : Cast) (nodes : ℕ → ℕ) where
  abbrev there : Cast
  there = on_nodes nodes cast

  step_there : (v i : ℕ) (step : Step) → step_calls coding there v i step ≡ step_calls coding cast v i step
  step_there v i (Once line) = ap (λ c. c ∷ []) (call_same coding cast there refl v v line)
  step_there v i (Loop role InOrder lines) = loop_same coding cast there refl v lines (turns cast v i role InOrder)
  step_there v i (Loop role Round lines) = loop_same coding cast there refl v lines (turns cast v i role Round)
  step_there v i (Loop role Chosen lines) = loop_same coding cast there refl v lines (turns cast v i role Chosen)

  calls_there : (v i : ℕ) (steps : List Step) → calls_from coding there v i steps ≡ calls_from coding cast v i steps
  calls_there v i [] = refl
  calls_there v i (step ∷ steps) =
      ap (λ cs. cs ++ calls_from coding there v (suc i) steps) (step_there v i step) ∙ ap (λ cs. step_calls coding cast v i step ++ cs) (calls_there v (suc i) steps)

  processes_there : (pattern : Pattern) (p : ℕ) (f : ℕ → ℕ) → ((q : ℕ) → f q ≡ nodes (p + q)) → (roles : List ℕ) →
      placed f (processes_from pattern coding cast p roles) ≡ processes_from pattern coding there p roles
  processes_there pattern p f same [] = refl
  processes_there pattern p f same (role ∷ roles) =
      let own : p + 0 ≡ p = omega arith in
      ap (λ n. record { node = n; calls = calls_from coding cast p 0 (pattern.script role) } ∷ placed (λ q. f (suc q)) (processes_from pattern coding cast (suc p) roles)) (same 0 ∙ ap nodes own)
      ∙ ap (λ cs. record { node = nodes p; calls = cs } ∷ placed (λ q. f (suc q)) (processes_from pattern coding cast (suc p) roles)) (sym (calls_there p 0 (pattern.script role)))
      ∙ ap (λ ps. record { node = nodes p; calls = calls_from coding there p 0 (pattern.script role) } ∷ ps)
      (processes_there pattern (suc p) (λ q. f (suc q)) (λ q. same (suc q) ∙ (let s : p + suc q ≡ suc p + q = omega arith in ap nodes s)) roles)

  placed_is : (pattern : Pattern) → placing (instance_of pattern coding cast) nodes ≡ instance_of pattern coding there
  placed_is pattern =
      ap (λ (ps : List Process). record { processes = ps; keep = pattern.keep })
      (processes_there pattern 0 nodes (λ q. (let s : q ≡ 0 + q = omega arith in ap nodes s)) cast.roles)

-- sizes
pub without_length : (r role : ℕ) (roles : List ℕ) → slice_get roles r ≡ Some role → suc (length (without r roles)) ≡ length roles
without_length r role [] is = absurd (none-some role is)
without_length zero role (x ∷ xs) is = refl
without_length (suc r) role (x ∷ xs) is = ap suc (without_length r role xs is)

-- of r's role there is one fewer, of the others there are as many
pub one_fewer : (role r : ℕ) (roles : List ℕ) → length (group role roles) ≤ suc (length (group role (without r roles)))
one_fewer role r roles =
    let a = filter_length r (group role roles) (rises_group role roles) in
    let b : length (group role (without r roles)) ≡ length (filter (λ e. not (e == r)) (group role roles)) = sym (length-map (group role (without r roles)) (skip r)) ∙ ap length (group_skip role r roles) in
    omega (arith, a, b)

pub others_stay : (other role r : ℕ) (roles : List ℕ) → slice_get roles r ≡ Some role → (role ≡ other → ⊥) → length (group other (without r roles)) ≡ length (group other roles)
others_stay other role r [] is ne = absurd (none-some role is)
others_stay other role zero (x ∷ xs) is ne =
    let apart : (x == other) ≡ false = ne_eqb x other (λ s. ne (sym (same_Some _ _ is) ∙ s)) in
    sym (length-map (group other xs) suc) ∙ sym (ap (λ ys. length (ys ++ map suc (group other xs))) (cond-false (x == other) (0 ∷ []) [] apart))
others_stay other role (suc r) (x ∷ xs) is ne =
    let h = others_stay other role r xs is ne in
    let first : List ℕ = cond (x == other) (0 ∷ []) [] in
    let a = length-append first (map suc (group other (without r xs))) in
    let b = length-append first (map suc (group other xs)) in
    let c = length-map (group other (without r xs)) suc in
    let d = length-map (group other xs) suc in
    omega (arith, h, a, b, c, d)

none_of : (role : ℕ) (roles : List ℕ) → is_member roles role ≡ false → length (group role roles) ≡ 0
none_of role [] out = refl
none_of role (x ∷ xs) out =
    let parts = or_parts (x == role) (is_member xs role) out in
    ap (λ ys. length (ys ++ map suc (group role xs))) (cond-false (x == role) (0 ∷ []) [] parts.0) ∙ length-map (group role xs) suc ∙ none_of role xs parts.1

module _ (pattern : Pattern) (coding : Coding) (least most : ℕ → ℕ) (lawful : IsLawful pattern) (three : (role : ℕ) → 3 ≤ most role) (range : (role : ℕ) → least role ≤ most role)
    (small : SmallAreSettled pattern coding least most) where
  -- a role with more than its most, or none
  search : (cast : Cast) (roles : List ℕ) → ((role : ℕ) × (most role < length (group role cast.roles))) ⊎ ((role : ℕ) → is_member roles role ≡ true → length (group role cast.roles) ≤ most role)
  search cast [] = inr (λ role i. absurd (true≢false (sym i)))
  search cast (x ∷ xs) = elim (cases_lt (most x) (length (group x cast.roles))) [
    | inl lt ↦ inl (x, lt)
    | inr le ↦ elim (search cast xs) [
      | inl found ↦ inl found
      | inr none ↦ inr (λ role i. elim (or_cases (x == role) (is_member xs role) i) [
        | inl here ↦ subst (λ v. length (group v cast.roles) ≤ most v) (eqb-true x role here) le
        | inr rest ↦ none role rest
      ])
    ]
  ]

  -- with at most its most of each role, by placements of pairs
  within_most : (cast : Cast) → IsCastOf pattern cast → HasAtLeast least cast → HasAtMost most cast → IsSettled (instance_of pattern coding cast)
  within_most cast cast_is at_least at_most =
      (pairs_suffice (instance_of pattern coding cast) (λ p. 0) (λ p q ltp ltq.
      subst IsSettled (sym (placed_is coding cast (pair p q) pattern)) (small cast p q cast_is at_least at_most))).0

  fewer_cast : (cast : Cast) (r role : ℕ) → CanGo pattern cast r role → IsCastOf pattern (restricted r cast)
  fewer_cast cast r role can = record { only = λ other single. (let s = single_stays pattern cast r role can other single in (s.0, s.1)) }

  enough_left : (cast : Cast) (r role : ℕ) → slice_get cast.roles r ≡ Some role → most role < length (group role cast.roles) → HasAtLeast least cast → HasAtLeast least (restricted r cast)
  enough_left cast r role is more at_least other = elim (cases_eq role other) [
    | inl s ↦ subst (λ v. least v ≤ length (group v (without r cast.roles))) s (let a = one_fewer role r cast.roles in let b = range role in omega (arith, a, b, more))
    | inr ne ↦ (let a = others_stay other role r cast.roles is ne in let b = at_least other in omega (arith, a, b))
  ]

  -- settled if all with one rank fewer, of a role with too many, are
  by_fewer : (cast : Cast) → IsCastOf pattern cast → HasAtLeast least cast →
      ((r role : ℕ) → CanGo pattern cast r role → most role < length (group role cast.roles) → IsSettled (instance_of pattern coding (restricted r cast))) → IsSettled (instance_of pattern coding cast)
  by_fewer cast cast_is at_least fewer = elim (search cast cast.roles) [
    | inr none ↦ within_most cast cast_is at_least (λ role. elim (cases_Bool (is_member cast.roles role)) [
      | inl t ↦ none role t
      | inr f ↦ (let a = none_of role cast.roles f in omega (arith, a))
    ])
    | inl found ↦ (
        let role = found.0 in
        let more = found.1 in
        let cut = three role in
        let four : 4 ≤ length (group role cast.roles) = omega (arith, cut, more) in
        fewer_settle pattern coding cast role lawful cast_is four (λ r is. fewer r role (record { lawful = lawful; cast_is = cast_is; is = is; four = four }) more))
  ]

  bounded : (n : ℕ) (cast : Cast) → length cast.roles ≤ n → IsCastOf pattern cast → HasAtLeast least cast → IsSettled (instance_of pattern coding cast)
  bounded zero cast le cast_is at_least = by_fewer cast cast_is at_least (λ r role can more. absurd (let shorter = without_length r role cast.roles can.is in omega (arith, shorter, le)))
  bounded (suc n) cast le cast_is at_least = by_fewer cast cast_is at_least (λ r role can more.
      bounded n (restricted r cast) (let shorter = without_length r role cast.roles can.is in omega (arith, shorter, le)) (fewer_cast cast r role can) (enough_left cast r role can.is more at_least))

pub three_suffice : ThreeSuffice
three_suffice pattern coding least most lawful three range small cast cast_is at_least = bounded pattern coding least most lawful three range small (length cast.roles) cast (omega arith) cast_is at_least

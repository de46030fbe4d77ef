-- The instance without one rank stands in the whole instance.
use Rattle.std.proofs.Common.{◌≡◌, ℕ, zero, suc, ◌+◌, ◌<◌, ◌≤◌, List, [], ◌∷◌, length, true, ◌==◌, Some, inl, inr, refl, sym, ap, ◌∙◌, subst, arith, eq-eqb}
use Rattle.std.specs.Prelude.{slice_get}
use Rattle.std.specs.List.{list_all}
use Rattle.std.proofs.lemmas.Bool.{cases_eq, or_left}
use Rattle.std.proofs.lemmas.Option.{none-some, slice_get_cases}
use Rattle.wire_runs.specs.Plan.{Plan, process_node, process_count, node_of, event_count}
use Rattle.wire_runs.specs.Fences.{is_member, collects, is_full, is_collecting}
use Rattle.wire_runs.specs.Embeddings.{Renaming, IsSetOf, IsEmbedding}
use Rattle.wire_runs.specs.Parts.{IsPartEach, IsPart}
use Rattle.wire_runs.specs.Patterns.{Pattern, Coding, Cast, group, processes_from, instance_of}
use Rattle.wire_runs.specs.Restrictions.{skip, back, without, restricted, pieces_of, removal, CanGo, RestrictionsEmbed}
use Rattle.wire_runs.proofs.Basics.{list_all_at_member}
use Rattle.wire_runs.proofs.Brought.{list_all_of_members}
use Rattle.wire_runs.proofs.Skip.{skip_one, skip_back, without_get}
use Rattle.wire_runs.proofs.WholeSets.{again_member, again_member_r, group_member, plays, member_group, three_left}
use Rattle.wire_runs.proofs.Parts.{collects_track, back_end, parts_embed}
use Rattle.wire_runs.proofs.RestrictedEach.{restricted_each}
use Rattle.wire_runs.proofs.RestrictedOnce.{once_there}
use Rattle.wire_runs.proofs.RestrictedFences.{role_says}

node_in : (pattern : Pattern) (coding : Coding) (cast : Cast) (q : ℕ) (roles : List ℕ) (p x : ℕ) → slice_get roles p ≡ Some x → process_node (slice_get (processes_from pattern coding cast q roles) p) ≡ cast.nodes (q + p)
node_in pattern coding cast q [] p x is = absurd (none-some x is)
node_in pattern coding cast q (role ∷ roles) zero x is = let s : q ≡ q + 0 = omega arith in ap cast.nodes s
node_in pattern coding cast q (role ∷ roles) (suc p) x is = let s : suc q + p ≡ q + suc p = omega arith in node_in pattern coding cast (suc q) roles p x is ∙ ap cast.nodes s

pub instance_node : (pattern : Pattern) (coding : Coding) (cast : Cast) (p x : ℕ) → slice_get cast.roles p ≡ Some x → node_of (instance_of pattern coding cast) p ≡ cast.nodes p
unfolding node_of
instance_node pattern coding cast p x is = let s : 0 + p ≡ p = omega arith in node_in pattern coding cast 0 cast.roles p x is ∙ ap cast.nodes s

count_in : (pattern : Pattern) (coding : Coding) (cast : Cast) (q : ℕ) (roles : List ℕ) → length (processes_from pattern coding cast q roles) ≡ length roles
count_in pattern coding cast q [] = refl
count_in pattern coding cast q (role ∷ roles) = ap suc (count_in pattern coding cast (suc q) roles)

pub instance_count : (pattern : Pattern) (coding : Coding) (cast : Cast) → process_count (instance_of pattern coding cast) ≡ length cast.roles
instance_count pattern coding cast = count_in pattern coding cast 0 cast.roles

role_at : (roles : List ℕ) (p : ℕ) → p < length roles → (x : ℕ) × (slice_get roles p ≡ Some x)
role_at roles p lt = elim (slice_get_cases roles p).1 [ inl c ↦ (c.0, c.2) | inr c ↦ absurd (let past = c.0 in omega (arith, lt, past)) ]

module _ (pattern : Pattern) (coding : Coding) (cast : Cast) (r role : ℕ) (can : CanGo pattern cast r role) where
  abbrev to : Renaming
  to = removal pattern coding cast r role

  abbrev small : Plan
  small = instance_of pattern coding (restricted r cast)

  abbrev large : Plan
  large = instance_of pattern coding cast

  abbrev rest : List ℕ
  rest = group role (without r cast.roles)

  each : IsPartEach to small large (pieces_of pattern coding cast r)
  each = restricted_each pattern coding cast r role can

  pub node_same : (p : ℕ) → p < process_count small → node_of large (skip r p) ≡ node_of small p
  node_same p lt =
      let c = instance_count pattern coding (restricted r cast) in
      let x = role_at (without r cast.roles) p (omega (arith, lt, c)) in
      instance_node pattern coding cast (skip r p) x.0 (sym (without_get r cast.roles p) ∙ x.1) ∙ sym (instance_node pattern coding (restricted r cast) p x.0 x.1)

  other_collects : (members : List ℕ) (j q : ℕ) → IsSetOf small members → is_collecting small members j ≡ true → is_member (to.members members) (skip r q) ≡ true →
      collects large (skip r q) (to.members members) j (event_count large (skip r q)) ≡ true
  other_collects members j q u all i =
      collects_track to small large (pieces_of pattern coding cast r) each q members u j (event_count large (skip r q)) (omega arith)
      ∙ ap (collects small q members j) (back_end to small large (pieces_of pattern coding cast r) each q)
      ∙ list_all_at_member _ members q all (sym (again_member r rest members q) ∙ i)

  -- a process that is left of the role
  one_left : (xs : List ℕ) → 3 ≤ length xs → (q : ℕ) × (is_member xs q ≡ true)
  one_left [] three = absurd (omega (arith, three))
  one_left (x ∷ xs) three = (x, or_left (x == x) (is_member xs x) (eq-eqb x x refl))

  all_collect : (members : List ℕ) (j : ℕ) → IsSetOf small members → is_full large (to.members members) j ≡ true → is_collecting small members j ≡ true → is_collecting large (to.members members) j ≡ true
  all_collect members j u full all = list_all_of_members _ (to.members members) (λ m i. elim (cases_eq m r) [
    | inr ne ↦ subst (λ v. collects large v (to.members members) j (event_count large v) ≡ true) (skip_back r m ne)
        (other_collects members j (back r m) u all (ap (is_member (to.members members)) (skip_back r m ne) ∙ i))
    | inl s ↦ (
        let has : list_all (is_member members) rest ≡ true = sym (again_member_r r rest members) ∙ ap (is_member (to.members members)) (sym s) ∙ i in
        let q = one_left rest (three_left role r cast.roles can.four) in
        let r_in : is_member (group role cast.roles) r ≡ true = group_member role cast.roles r ∙ ap (λ o. plays o role) can.is ∙ eq-eqb role role refl in
        let whole : (v : ℕ) → is_member (group role cast.roles) v ≡ true → is_member (to.members members) v ≡ true = λ v vin. elim (cases_eq v r) [
          | inl e ↦ ap (is_member (to.members members)) (e ∙ sym s) ∙ i
          | inr ne ↦ (let there = skip_back r v ne in
              ap (is_member (to.members members)) (sym there) ∙ again_member r rest members (back r v)
              ∙ list_all_at_member _ rest (back r v) has (sym (member_group pattern cast r role can role (back r v)) ∙ ap (is_member (group role cast.roles)) there ∙ vin))
        ] in
        let q_in : is_member (group role cast.roles) (skip r q.0) ≡ true = member_group pattern cast r role can role q.0 ∙ q.1 in
        ap (λ v. collects large v (to.members members) j (event_count large v)) s
        ∙ role_says pattern coding cast r role can (to.members members) whole r (skip r q.0) j r_in q_in
        ∙ other_collects members j q.0 u all (whole (skip r q.0) q_in))
  ])

  part : IsPart to small large (pieces_of pattern coding cast r)
  part = record {
    each = each;
    one_process = skip_one r;
    member = λ members p u. again_member r rest members p;
    all_collect = all_collect;
    once = once_there pattern coding cast r role can;
    together = λ p q lp lq s. node_same p lp ∙ s ∙ sym (node_same q lq);
    keeps = refl;
  }

  embeds : IsEmbedding to small large
  embeds = parts_embed to small large (pieces_of pattern coding cast r) part

pub restrictions_embed : RestrictionsEmbed
restrictions_embed pattern coding cast r role can = embeds pattern coding cast r role can

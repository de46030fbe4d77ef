-- What the text of an instance reads as is settled where the instance is, on whatever nodes.
use Rattle.std.proofs.Common.{◌≡◌, ◌∙◌, ap, sym, refl, ℕ, zero, suc, ◌+◌, ◌≤◌, ◌<◌, List, [], ◌∷◌, ◌++◌, length, true, Some, None, Option, ◌==◌, append_assoc, append-nil, arith}
use Rattle.std.specs.Prelude.{slice_get, slice_index_or, replicate}
use Rattle.std.proofs.lemmas.Option.{slice_get-get_or, slice_get_within, same_Some}
use Rattle.std.proofs.lemmas.Bool.{false≢true}
use Rattle.wire_runs.specs.Plan.{Plan, process_count, node_of}
use Rattle.wire_runs.specs.Races.{IsSettled}
use Rattle.wire_runs.specs.Patterns as plan
use Rattle.wire_runs.specs.Patterns.{group, instance_of, IsCastOf}
use Rattle.wire_runs.specs.Restrictions.{on_nodes}
use Rattle.wire_runs.proofs.Codings.{have_coding}
use Rattle.wire_runs.proofs.FindingsAnywhere.{placings_are}
use Rattle.wire_runs.proofs.PlacingKeeps.{placing_keeps}
use Rattle.wire_runs.proofs.Families.{placing_tells}
use Rattle.wire_runs.proofs.PlainRun.{plain_runs}
use Rattle.wire_runs.proofs.RestrictedWhole.{instance_node}
use Rattle.wire_scripts.specs.Scripts.{Scripts}
use Rattle.wire_scripts.specs.Planned.{plan_of}
use Rattle.wire_pattern.specs.Pattern.{Pattern, Role}
use Rattle.wire_pattern.specs.Planned.{pattern_of, single_in, least_in, least_of}
use Rattle.wire_pattern.specs.Lawful.{IsSoundPattern}
use Rattle.wire_pattern.specs.Instances as text
use Rattle.wire_pattern.specs.Instances.{Cast, IsCast, cast_of, roles_from, instance_text}
use Rattle.wire_pattern_laws.specs.Ordered.{in_blocks, StandInBlocks}
use Rattle.wire_pattern_laws.proofs.RoleBlocks.{order_is_blocks}
use Rattle.wire_pattern_laws.proofs.NumbersBack.{renumbered_both}
use Rattle.wire_instance_laws.specs.Reading.{IsInstance, IsOfCast}
use Rattle.wire_instance_laws.proofs.Read.{instances_read}
use Rattle.wire_cutoff_laws.specs.Promised.{IsAnyCast, IsSettledForAll}
use Rattle.wire_cutoff.specs.Texts.{HaveLeast, TextsSettled}
use Rattle.wire_cutoff.proofs.Alike.{settled_alike}
use Rattle.wire_cutoff.proofs.Listed.{roles_count}

abbrev size_in : List ℕ → ℕ → ℕ
size_in sizes role = slice_index_or sizes role 0

blocks_behind : (f : ℕ → ℕ) (k : ℕ) (sizes : List ℕ) → ((i : ℕ) → i < length sizes → f (k + i) ≡ slice_index_or sizes i 0)
    → in_blocks f k ++ roles_from k sizes ≡ in_blocks f (k + length sizes)
blocks_behind f k [] each = append-nil (in_blocks f k) ∙ ap (in_blocks f) none
  where
    none : k ≡ k + 0
    none = omega arith
blocks_behind f k (size ∷ sizes) each =
    sym (append_assoc (in_blocks f k) (replicate size k) (roles_from (suc k) sizes))
    ∙ ap (λ n. (in_blocks f k ++ replicate n k) ++ roles_from (suc k) sizes) (sym here)
    ∙ blocks_behind f (suc k) sizes later ∙ ap (in_blocks f) more
  where
    none : k + 0 ≡ k
    none = omega arith

    here : f k ≡ size
    here = ap f (sym none) ∙ each 0 (omega arith)

    next : (i : ℕ) → suc k + i ≡ k + suc i
    next i = omega arith

    later : (i : ℕ) → i < length sizes → f (suc k + i) ≡ slice_index_or sizes i 0
    later i lt = ap f (next i) ∙ each (suc i) (omega (arith, lt))

    more : suc k + length sizes ≡ k + suc (length sizes)
    more = omega arith

in_own_blocks : (sizes : List ℕ) → roles_from 0 sizes ≡ in_blocks (size_in sizes) (length sizes)
in_own_blocks sizes = blocks_behind (size_in sizes) 0 sizes (λ i lt. ap (size_in sizes) (from_none i)) ∙ ap (in_blocks (size_in sizes)) none
  where
    from_none : (i : ℕ) → 0 + i ≡ i
    from_none i = omega arith

    none : 0 + length sizes ≡ length sizes
    none = omega arith

-- a list of one
only_one : (xs : List ℕ) → length xs ≡ 1 → (x : ℕ) × (xs ≡ x ∷ [])
only_one [] is = absurd (omega (arith, is))
only_one (x ∷ []) is = (x, refl)
only_one (x ∷ y ∷ xs) is = absurd (omega (arith, is))

pub there_is : {A : Type 0} (xs : List A) (i : ℕ) → i < length xs → (x : A) × (slice_get xs i ≡ Some x)
there_is [] i lt = absurd (omega (arith, lt))
there_is (x ∷ xs) zero lt = (x, refl)
there_is (x ∷ xs) (suc i) lt = there_is xs i (omega (arith, lt))

module _ (p : Pattern) (cast : Cast) (is_cast : IsCast p cast) (least : HaveLeast p.roles cast.sizes) (nodes : ℕ → ℕ) where
  abbrev own : plan.Cast
  own = on_nodes nodes (cast_of cast)

  blocks : own.roles ≡ in_blocks (size_in cast.sizes) (length p.roles)
  blocks = in_own_blocks cast.sizes ∙ ap (in_blocks (size_in cast.sizes)) is_cast.sized

  stand : StandInBlocks (length p.roles) own
  stand = order_is_blocks (length p.roles) own

  size_is : (role : ℕ) → role < length p.roles → length (group role own.roles) ≡ size_in cast.sizes role
  size_is = stand.sizes (size_in cast.sizes) blocks

  has_size : (role : ℕ) → role < length p.roles → slice_get cast.sizes role ≡ Some (size_in cast.sizes role)
  has_size role lt = slice_get-get_or cast.sizes role 0 (omega (arith, lt, is_cast.sized))

  has_least : (role : ℕ) → role < length p.roles → least_of p role ≤ length (group role own.roles)
  has_least role lt =
      let r = there_is p.roles role lt in
      let few : r.0.least ≤ size_in cast.sizes role = least role r.0 (size_in cast.sizes role) r.1 (has_size role lt) in
      let said : least_of p role ≡ r.0.least = ap least_in r.1 in
      let size = size_is role lt in
      omega (arith, few, said, size)

  single_there : (role : ℕ) (o : Option Role) → slice_get p.roles role ≡ o → single_in o ≡ true → role < length p.roles
  single_there role None is single = absurd (false≢true single)
  single_there role (Some r) is single = slice_get_within p.roles role r is

  only : (role : ℕ) → single_in (slice_get p.roles role) ≡ true → (v : ℕ) × (group role own.roles ≡ v ∷ [])
  only role single =
      let lt = single_there role (slice_get p.roles role) refl single in
      let one : size_in cast.sizes role ≡ 1 = same_Some (size_in cast.sizes role) 1 (sym (has_size role lt) ∙ is_cast.only role single) in
      only_one (group role own.roles) (size_is role lt ∙ one)

  pub any_cast : IsAnyCast p own
  any_cast = record {
    is = record { only = only };
    in_order = stand.order (size_in cast.sizes) blocks;
    least = has_least;
  }

pub same_nodes : (a b c d : ℕ) → a ≡ c → b ≡ d → (a == b) ≡ (c == d)
same_nodes a b c d e f = ap (λ n. n == b) e ∙ ap (λ n. c == n) f

module _ (p : Pattern) (cast : Cast) (s : Scripts) (sound : IsSoundPattern p) (settled : IsSettledForAll p) (is_cast : IsCast p cast) (least : HaveLeast p.roles cast.sizes) (of : IsOfCast p cast s) where
  abbrev nodes : ℕ → ℕ
  nodes = (cast_of cast).nodes

  i : IsInstance p cast s have_coding nodes
  i = of.instances have_coding nodes

  abbrev instance : Plan
  instance = instance_of (pattern_of p) have_coding (on_nodes nodes (cast_of cast))

  other_settled : IsSettled i.other
  other_settled =
      (renumbered_both instance i.other i.key i.name i.renumbered).0
      (settled have_coding (on_nodes nodes (cast_of cast)) (any_cast p cast is_cast least nodes))

  node_is : (v : ℕ) → v < process_count (plan_of s) → node_of i.other v ≡ node_of (plan_of s) v
  node_is v lt =
      let few : v < text.process_count cast = omega (arith, lt, of.count) in
      let role = there_is (cast_of cast).roles v (omega (arith, few, roles_count 0 cast.sizes)) in
      i.renumbered.nodes v ∙ instance_node (pattern_of p) have_coding (on_nodes nodes (cast_of cast)) v role.0 role.1 ∙ sym (of.nodes v few)

  pub plan_settled : IsSettled (plan_of s)
  plan_settled =
      settled_alike i.other (plan_of s) placings_are placing_keeps placing_tells ((placings_are (plan_of s)).back i.other i.placing)
      (λ a b la lb. same_nodes (node_of (plan_of s) a) (node_of (plan_of s) b) (node_of i.other a) (node_of i.other b) (sym (node_is a (within la)))
      (sym (node_is b (within lb)))) other_settled
    where
      within : {n : ℕ} → n < process_count i.other → n < process_count (plan_of s)
      within lt = omega (arith, lt, i.placing.same_count)

pub texts_settled : TextsSettled
texts_settled p cast size s sound settled is_cast least reads =
    let of : IsOfCast p cast s = instances_read p cast size s sound is_cast reads in
    let is : IsSettled (plan_of s) = plan_settled p cast s sound settled is_cast least of in
    (is, (plain_runs (plan_of s)).is_the_end is)

-- What the text of an instance reads as is settled on all nodes, where nothing is found for any number of processes.
use Rattle.std.proofs.Common.{◌≡◌, ◌∙◌, ap, sym, ℕ, suc, zero, ◌<◌, List, [], ◌∷◌, length, arith}
use Rattle.wire_runs.specs.Plan.{Plan, process_count, node_of}
use Rattle.wire_runs.specs.Races.{IsSettled}
use Rattle.wire_runs.specs.Placings.{IsPlacing, IsSettledAnywhere}
use Rattle.wire_runs.specs.Patterns.{instance_of}
use Rattle.wire_runs.specs.Restrictions.{on_nodes}
use Rattle.wire_runs.proofs.Anywhere.{settled_anywhere}
use Rattle.wire_runs.proofs.Codings.{have_coding}
use Rattle.wire_runs.proofs.FindingsAnywhere.{placings_are}
use Rattle.wire_runs.proofs.PlacingKeeps.{placing_keeps}
use Rattle.wire_runs.proofs.Families.{placing_tells}
use Rattle.wire_runs.proofs.RestrictedWhole.{instance_node}
use Rattle.wire_scripts.specs.Scripts.{Scripts}
use Rattle.wire_scripts.specs.Planned.{plan_of}
use Rattle.wire_pattern.specs.Pattern.{Pattern, Role}
use Rattle.wire_pattern.specs.Planned.{pattern_of}
use Rattle.wire_pattern.specs.Instances as text
use Rattle.wire_pattern.specs.Instances.{Cast, IsCast, cast_of}
use Rattle.wire_pattern_laws.proofs.NumbersBack.{renumbered_both}
use Rattle.wire_instance_laws.specs.Reading.{IsInstance, IsOfCast}
use Rattle.wire_cutoff_laws.specs.Sizes.{AreFewSizes}
use Rattle.wire_cutoff_laws.specs.Promised.{IsSettledForAll}
use Rattle.wire_cutoff.specs.Texts.{HaveLeast}
use Rattle.wire_cutoff.proofs.Alike.{settled_alike}
use Rattle.wire_cutoff.proofs.Texts.{there_is, any_cast, same_nodes}

pub have_least : (roles : List Role) (sizes : List ℕ) → AreFewSizes roles sizes → HaveLeast roles sizes
have_least [] sizes are r role size is at = cc
have_least (x ∷ roles) [] are r role size is at = absurd are
have_least (x ∷ roles) (n ∷ sizes) are zero role size is at =
    let e : x ≡ role = cc in
    let f : n ≡ size = cc in
    let low = are.0.0 in
    let same : x.least ≡ role.least = ap (λ (q : Role). q.least) e in
    omega (arith, low, same, f)
have_least (x ∷ roles) (n ∷ sizes) are (suc r) role size is at = have_least roles sizes are.1 r role size is at

module _ (p : Pattern) (cast : Cast) (s : Scripts) (settled : IsSettledForAll p) (is_cast : IsCast p cast) (least : HaveLeast p.roles cast.sizes) (of : IsOfCast p cast s)
    (roles_count : length (cast_of cast).roles ≡ text.process_count cast) (third : Plan) (same : IsPlacing (plan_of s) third) where
  abbrev nodes : ℕ → ℕ
  nodes = node_of third

  i : IsInstance p cast s have_coding nodes
  i = of.instances have_coding nodes

  abbrev instance : Plan
  instance = instance_of (pattern_of p) have_coding (on_nodes nodes (cast_of cast))

  other_settled : IsSettled i.other
  other_settled =
      (renumbered_both instance i.other i.key i.name i.renumbered).0
      (settled have_coding (on_nodes nodes (cast_of cast)) (any_cast p cast is_cast least nodes))

  node_is : (v : ℕ) → v < process_count (plan_of s) → node_of i.other v ≡ node_of third v
  node_is v lt =
      let few : v < text.process_count cast = omega (arith, lt, of.count) in
      let role = there_is (cast_of cast).roles v (omega (arith, few, roles_count)) in
      i.renumbered.nodes v ∙ instance_node (pattern_of p) have_coding (on_nodes nodes (cast_of cast)) v role.0 role.1

  third_settled : IsSettled third
  third_settled =
      settled_alike i.other third placings_are placing_keeps placing_tells
      ((placings_are i.other).again (plan_of s) third ((placings_are (plan_of s)).back i.other i.placing) same)
      (λ a b la lb. same_nodes (node_of third a) (node_of third b) (node_of i.other a) (node_of i.other b) (sym (node_is a (within la))) (sym (node_is b (within lb)))) other_settled
    where
      within : {n : ℕ} → n < process_count i.other → n < process_count (plan_of s)
      within lt = omega (arith, lt, i.placing.same_count)

pub settled_on_all : (p : Pattern) (cast : Cast) (s : Scripts) → IsSettledForAll p → IsCast p cast → HaveLeast p.roles cast.sizes → IsOfCast p cast s
    → length (cast_of cast).roles ≡ text.process_count cast → IsSettledAnywhere (plan_of s)
settled_on_all p cast s settled is_cast least of count =
    (settled_anywhere (plan_of s)).everywhere.1 (λ third same. third_settled p cast s settled is_cast least of count third same)

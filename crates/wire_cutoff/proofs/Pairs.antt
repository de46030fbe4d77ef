-- Where nothing is found in an instance with each process alone, nor with any two on one node, nothing is on any nodes.
use Rattle.std.proofs.Common.{◌≡◌, ◌∙◌, ap, sym, subst, ℕ, ◌+◌, ◌<◌, ◌≤◌, Ok, ◌==◌, ◌↔◌, inl, inr, arith}
use Rattle.std.specs.Prelude.{sum_by}
use Rattle.std.proofs.lemmas.Bool.{cases_eq, cases_lt, eq-eqb, ne_eqb}
use Rattle.wire_runs.specs.Plan as plans
use Rattle.wire_runs.specs.Plan.{Plan, node_of, same_node}
use Rattle.wire_runs.specs.Races.{IsSettled}
use Rattle.wire_runs.specs.Embeddings.{pair}
use Rattle.wire_runs.specs.Patterns.{Coding, instance_of}
use Rattle.wire_runs.specs.Restrictions.{on_nodes}
use Rattle.wire_runs.proofs.FindingsAnywhere.{placings_are}
use Rattle.wire_runs.proofs.PlacingKeeps.{placing_keeps}
use Rattle.wire_runs.proofs.Families.{placing_tells}
use Rattle.wire_runs.proofs.Placements.{pair_first, pair_second, pair_other, pair_together, pairs_suffice}
use Rattle.wire_runs.proofs.RestrictedWhole.{instance_count, instance_node}
use Rattle.wire_scripts.specs.Scripts.{Scripts}
use Rattle.wire_scripts.specs.Planned.{plan_of}
use Rattle.wire_reader.specs.declared.Size.TheVariants.{OfVersion}
use Rattle.wire_reader.specs.Reads.{Reads}
use Rattle.wire_pattern.specs.Pattern.{Pattern}
use Rattle.wire_pattern.specs.Planned.{pattern_of}
use Rattle.wire_pattern.specs.Lawful.{IsSoundPattern}
use Rattle.wire_pattern.specs.Instances.{Cast, cast_of, process_count, instance_text}
use Rattle.wire_pattern_laws.proofs.NumbersBack.{renumbered_both}
use Rattle.wire_instances.specs.declared.cast.Cast.{Cast as Placed}
use Rattle.wire_instances.specs.declared.cast.Nodes.{Nodes}
use Rattle.wire_instances.specs.Nodes as placed
use Rattle.wire_instances.specs.Nodes.{HaveOwnNodes, ArePaired}
use Rattle.wire_instances.specs.Views.{cast_by}
use Rattle.wire_instance_laws.specs.Reading.{IsInstance, IsOfCast}
use Rattle.wire_instance_laws.proofs.Read.{instances_read}
use Rattle.wire_cutoff_laws.specs.Choices.{cast_on}
use Rattle.wire_cutoff_laws.specs.Promised.{IsChoiceSettled}
use Rattle.wire_cutoff.specs.Judged.{IsFewCast, AreMoved}
use Rattle.wire_cutoff.specs.Sharing.{ShareAs, IsSettledOn, IsSettledLike, IsPairSettled}
use Rattle.wire_cutoff.proofs.Alike.{settled_alike}
use Rattle.wire_cutoff.proofs.Listed.{roles_count}
use Rattle.wire_cutoff.proofs.OnNodes.{placed_there}
use Rattle.wire_cutoff.proofs.Texts.{same_nodes, there_is}

-- two tests that tell the same
same_test : (m n k l : ℕ) → (m ≡ n) ↔ (k ≡ l) → (m == n) ≡ (k == l)
same_test m n k l both = elim (cases_eq m n) [
  | inl e ↦ eq-eqb m n e ∙ sym (eq-eqb k l (both.0 e))
  | inr ne ↦ ne_eqb m n ne ∙ sym (ne_eqb k l (λ e. ne (both.1 e)))
]

-- the order of the two says nothing
turned : (a b v w : ℕ) → pair a b v ≡ pair a b w → pair b a v ≡ pair b a w
turned a b v w same = pair_together (pair b a) a b v w (pair_second b a ∙ sym (pair_first b a)) same

one_of_two : (a v : ℕ) → pair a a v ≡ v
one_of_two a v = elim (cases_eq v a) [ inl e ↦ ap (pair a a) e ∙ pair_second a a ∙ sym e | inr ne ↦ pair_other a a v ne ]

-- nodes on which each process is alone
pub alone_shares : (processes a : ℕ) (nodes : Nodes) → HaveOwnNodes processes nodes → ShareAs processes (pair a a) (placed.node_of nodes)
alone_shares processes a nodes alone v w lv lw =
    same_nodes (pair a a v) (pair a a w) (placed.node_of nodes v) (placed.node_of nodes w) (one_of_two a v ∙ sym (alone.node v lv)) (one_of_two a w ∙ sym (alone.node w lw))

-- nodes on which two share one
pub pair_shares : (processes a b : ℕ) (nodes : Nodes) → ArePaired processes a b nodes → ShareAs processes (pair a b) (placed.node_of nodes)
pair_shares processes a b nodes paired v w lv lw =
    let both = paired.together v w lv lw in same_test (pair a b v) (pair a b w) (placed.node_of nodes v) (placed.node_of nodes w) (both.1, both.0)

pub turned_shares : (processes a b : ℕ) (nodes : Nodes) → ArePaired processes a b nodes → ShareAs processes (pair b a) (placed.node_of nodes)
turned_shares processes a b nodes paired v w lv lw =
    let both = paired.together v w lv lw in
    same_test (pair b a v) (pair b a w) (placed.node_of nodes v) (placed.node_of nodes w) ((λ e. both.1 (turned b a v w e)), (λ e. turned a b v w (both.0 e)))

-- what the text of an instance reads as is settled: then so is the instance where the same processes share a node
module _ (p : Pattern) (cast : Cast) (s : Scripts) (of : IsOfCast p cast s) (nodes : ℕ → ℕ) (same : ShareAs (process_count cast) nodes (cast_of cast).nodes) (coding : Coding) where
  i : IsInstance p cast s coding nodes
  i = of.instances coding nodes

  node_is : (v : ℕ) → v < process_count cast → node_of i.other v ≡ nodes v
  node_is v few =
      let role = there_is (cast_of cast).roles v (omega (arith, few, roles_count 0 cast.sizes)) in
      i.renumbered.nodes v ∙ instance_node (pattern_of p) coding (on_nodes nodes (cast_of cast)) v role.0 role.1

  shared : (a b : ℕ) → a < process_count cast → b < process_count cast → same_node i.other a b ≡ same_node (plan_of s) a b
  shared a b la lb =
      same_nodes (node_of i.other a) (node_of i.other b) (nodes a) (nodes b) (node_is a la) (node_is b lb) ∙ same a b la lb
      ∙ same_nodes ((cast_of cast).nodes a) ((cast_of cast).nodes b) (node_of (plan_of s) a) (node_of (plan_of s) b) (sym (of.nodes a la)) (sym (of.nodes b lb))

  pub settled_there : IsSettled (plan_of s) → IsSettled (instance_of (pattern_of p) coding (on_nodes nodes (cast_of cast)))
  settled_there settled =
      (renumbered_both (instance_of (pattern_of p) coding (on_nodes nodes (cast_of cast))) i.other i.key i.name i.renumbered).1
      (settled_alike (plan_of s) i.other placings_are placing_keeps placing_tells i.placing (λ a b la lb. shared a b (within la) (within lb)) settled)
    where
      within : {n : ℕ} → n < plans.process_count (plan_of s) → n < process_count cast
      within lt = omega (arith, lt, of.count)

-- of the cast that was moved, what is said of the one that was
pub moved_on : (p : Pattern) (cast moved : Cast) (nodes : ℕ → ℕ) → AreMoved cast moved → IsSettledOn p moved nodes → IsSettledOn p cast nodes
moved_on p cast moved nodes same settled = λ coding.
    subst (λ cs. IsSettled (instance_of (pattern_of p) coding (cast_on cast.sizes cs nodes))) same.1
    (subst (λ ns. IsSettled (instance_of (pattern_of p) coding (cast_on ns moved.chosen nodes))) same.0 (settled coding))

-- nothing is found in the text of a cast on these nodes
pub settled_like : (p : Pattern) (cast : Cast) (moved : Placed) (nodes : Nodes) (s : Scripts) → IsSoundPattern p → IsFewCast p (cast_by moved)
    → AreMoved cast (cast_by moved) → moved.nodes ≡ nodes → Reads OfVersion (instance_text p (cast_by moved)) (Ok s) → IsSettled (plan_of s)
    → IsSettledLike p cast nodes
settled_like p cast moved nodes s sound few same at reads settled = λ f share.
    let of : IsOfCast p (cast_by moved) s = instances_read p (cast_by moved) OfVersion s sound few.cast_is reads in
    let count : process_count (cast_by moved) ≡ process_count cast = ap (λ ns. sum_by (λ (n : ℕ). n) ns) same.0 in
    let own : ShareAs (process_count (cast_by moved)) f (cast_of (cast_by moved)).nodes =
    λ v w lv lw. subst (λ (ns : Nodes). (f v == f w) ≡ (placed.node_of ns v == placed.node_of ns w)) (sym at)
    (share v w (omega (arith, lv, count)) (omega (arith, lw, count))) in
    moved_on p cast (cast_by moved) f same (λ coding. settled_there p (cast_by moved) s of f own coding settled)

-- nodes on which each process is alone are those of their numbers
pub alone_settled : (p : Pattern) (cast : Cast) (processes : ℕ) (nodes : Nodes) → processes ≡ process_count cast → HaveOwnNodes processes nodes
    → IsSettledLike p cast nodes → IsSettledOn p cast (λ v. v)
alone_settled p cast processes nodes is alone settled =
    settled (λ v. v) (λ v w lv lw.
    same_nodes v w (placed.node_of nodes v) (placed.node_of nodes w) (sym (alone.node v (omega (arith, lv, is)))) (sym (alone.node w (omega (arith, lw, is)))))

-- one pair more
pub one_pair : (p : Pattern) (cast : Cast) (processes a b : ℕ) (nodes : Nodes) → processes ≡ process_count cast → ArePaired processes a b nodes
    → IsSettledLike p cast nodes → IsPairSettled p cast a b
one_pair p cast processes a b nodes is paired settled = (
  settled (pair a b) (subst (λ n. ShareAs n (pair a b) (placed.node_of nodes)) is (pair_shares processes a b nodes paired)),
  settled (pair b a) (subst (λ n. ShareAs n (pair b a) (placed.node_of nodes)) is (turned_shares processes a b nodes paired)),
)

-- the pairs of this process with those behind it, below b
abbrev pub AreBesideSettled : Pattern → Cast → ℕ → ℕ → Type 0
AreBesideSettled p cast a b = (k : ℕ) → a < k → k < b → IsPairSettled p cast a k

pub none_beside : (p : Pattern) (cast : Cast) (a : ℕ) → AreBesideSettled p cast a (a + 1)
none_beside p cast a = λ k low high. absurd (omega (arith, low, high))

pub one_beside : (p : Pattern) (cast : Cast) (a b : ℕ) → AreBesideSettled p cast a b → IsPairSettled p cast a b → AreBesideSettled p cast a (b + 1)
one_beside p cast a b before here = λ k low high. elim (cases_eq k b) [
  | inl e ↦ subst (IsPairSettled p cast a) (sym e) here
  | inr ne ↦ before k low (omega (arith, high, ne))
]

-- those of the processes below a, with all behind them
abbrev pub ArePairsSettled : Pattern → Cast → ℕ → ℕ → Type 0
ArePairsSettled p cast processes a = (k : ℕ) → k < a → AreBesideSettled p cast k processes

pub one_process : (p : Pattern) (cast : Cast) (processes a : ℕ) → ArePairsSettled p cast processes a → AreBesideSettled p cast a processes
    → ArePairsSettled p cast processes (a + 1)
one_process p cast processes a before here = λ k less. elim (cases_eq k a) [
  | inl e ↦ subst (λ n. AreBesideSettled p cast n processes) (sym e) here
  | inr ne ↦ before k (omega (arith, less, ne))
]

-- with each process alone, and with each two on one node
pub all_pairs : (p : Pattern) (cast : Cast) (processes a : ℕ) (alone : Nodes) → processes ≡ process_count cast → HaveOwnNodes processes alone
    → IsSettledLike p cast alone → ArePairsSettled p cast processes a → processes ≤ a → IsChoiceSettled p cast.sizes cast.chosen
all_pairs p cast processes a alone is are settled pairs past = λ coding nodes.
    (pairs_suffice (instance_of (pattern_of p) coding (cast_on cast.sizes cast.chosen nodes)) nodes (λ k l lk ll.
    subst IsSettled (sym (placed_there coding (cast_on cast.sizes cast.chosen nodes) (pair k l) (pattern_of p)))
    (each k l (within coding nodes lk) (within coding nodes ll) coding))).0
  where
    within : (coding : Coding) (nodes : ℕ → ℕ) {n : ℕ} → n < plans.process_count (instance_of (pattern_of p) coding (cast_on cast.sizes cast.chosen nodes)) → n < processes
    within coding nodes lt =
        let count = instance_count (pattern_of p) coding (cast_on cast.sizes cast.chosen nodes) in
        let roles = roles_count 0 cast.sizes in
        omega (arith, lt, count, roles, is)

    one : (k : ℕ) → IsSettledOn p cast (pair k k)
    one k = settled (pair k k) (subst (λ n. ShareAs n (pair k k) (placed.node_of alone)) is (alone_shares processes k alone are))

    each : (k l : ℕ) → k < processes → l < processes → IsSettledOn p cast (pair k l)
    each k l lk ll = elim (cases_lt k l) [
      | inl lt ↦ (pairs k (omega (arith, lk, past)) l lt ll).0
      | inr le ↦ elim (cases_eq k l) [
        | inl e ↦ subst (λ n. IsSettledOn p cast (pair k n)) e (one k)
        | inr ne ↦ (pairs l (omega (arith, ll, past)) k (omega (arith, le, ne)) lk).1
      ]
    ]

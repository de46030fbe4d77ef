-- The line of a node is that of its first process: a table that is filled from the last process to the first.
use Rattle.std.proofs.Common.{◌≡◌, ◌∙◌, ap, sym, refl, ℕ, zero, suc, ◌+◌, ◌<◌, ◌==◌, inl, inr, List, [], ◌∷◌, length, drop, set, replicate, cond, arith}
use Rattle.std.specs.Prelude.{slice_get, slice_index_or, nat_lt}
use Rattle.std.specs.List.{list_all}
use Rattle.std.proofs.lemmas.Bool.{eq-eqb, ne_eqb, cases_eq}
use Rattle.std.proofs.lemmas.List.{get_or-set_same, get_or-set_other}
use Rattle.wire_pattern.specs.Pattern.{Pattern}
use Rattle.wire_pattern.specs.Instances.{Cast, IsCast, cast_of, number_in, node_line, nodes_lines}
use Rattle.wire_instances.proofs.Found.{at_all, lt_from}
use Rattle.wire_instances.proofs.Groups.{length_roles}
use Rattle.wire_instances.proofs.Texts.{opened_list, get_or_same}

-- behind the last process there is none
drop_all : (xs : List ℕ) (n : ℕ) → n ≡ length xs → drop n xs ≡ []
drop_all [] zero e = refl
drop_all [] (suc n) e = refl
drop_all (x ∷ xs) zero e = absurd (omega (arith, e))
drop_all (x ∷ xs) (suc n) e = drop_all xs n (omega (arith, e))

copies : (n count : ℕ) → slice_index_or (replicate {A = ℕ} count 0) n 0 ≡ 0
copies n zero = refl
copies zero (suc count) = refl
copies (suc n) (suc count) = copies n count

none_on : (p : Pattern) (n : ℕ) (roles : List ℕ) → node_line p n roles [] ≡ 0
none_on p n [] = refl
none_on p n (role ∷ roles) = refl

pub no_lines : (p : Pattern) (roles nodes lines : List ℕ) (count v n : ℕ) → lines ≡ replicate {A = ℕ} count 0 → v ≡ length nodes
    → slice_index_or lines n 0 ≡ node_line p n (drop v roles) (drop v nodes)
no_lines p roles nodes lines count v n is e =
    ap (λ xs. slice_index_or xs n 0) is ∙ copies n count ∙ sym (ap (node_line p n (drop v roles)) (drop_all nodes v e) ∙ none_on p n (drop v roles))

-- one process more from the end: its node has its line, whatever stood there
opened_line : (p : Pattern) (roles nodes : List ℕ) (v n : ℕ) → v < length roles → v < length nodes → node_line p n (drop v roles) (drop v nodes)
    ≡ cond (slice_index_or nodes v 0 == n) (number_in (slice_get p.roles (slice_index_or roles v 0))) (node_line p n (drop (v + 1) roles) (drop (v + 1) nodes))
opened_line p roles nodes v n r h =
    let role = slice_index_or roles v 0 in
    let node = slice_index_or nodes v 0 in
    ap (λ rs. node_line p n rs (drop v nodes)) (opened_list roles v role r (get_or_same roles v 0 r))
    ∙ ap (λ ns. node_line p n (role ∷ drop (v + 1) roles) ns) (opened_list nodes v node h (get_or_same nodes v 0 h))

pub line_set : (p : Pattern) (roles nodes lines : List ℕ) (v node line n : ℕ) → v < length roles → v < length nodes → node ≡ slice_index_or nodes v 0
    → line ≡ number_in (slice_get p.roles (slice_index_or roles v 0)) → node < length lines
    → slice_index_or lines n 0 ≡ node_line p n (drop (v + 1) roles) (drop (v + 1) nodes)
    → slice_index_or (set lines node line) n 0 ≡ node_line p n (drop v roles) (drop v nodes)
line_set p roles nodes lines v node line n r h is at low inv =
    let rest = node_line p n (drop (v + 1) roles) (drop (v + 1) nodes) in
    let whole = opened_line p roles nodes v n r h in
    elim (cases_eq n node) [
      | inl e ↦
          ap (λ m. slice_index_or (set lines node line) m 0) e ∙ get_or-set_same lines node line 0 low ∙ at
          ∙ sym (whole ∙ ap (λ b. cond b (number_in (slice_get p.roles (slice_index_or roles v 0))) rest) (eq-eqb (slice_index_or nodes v 0) n (sym is ∙ sym e)))
      | inr ne ↦
          get_or-set_other lines node n line 0 ne ∙ inv
          ∙ sym (whole ∙ ap (λ b. cond b (number_in (slice_get p.roles (slice_index_or roles v 0))) rest) (ne_eqb (slice_index_or nodes v 0) n (λ e. ne (sym e ∙ sym is))))
    ]

-- the node of each process is there
pub node_there : (p : Pattern) (cast : Cast) (nodes : List ℕ) (v : ℕ) → IsCast p cast → nodes ≡ cast.nodes → v < length nodes → slice_index_or nodes v 0 < cast.node_count
node_there p cast nodes v of is h =
    lt_from (slice_index_or nodes v 0) cast.node_count (at_all (λ n. nat_lt n cast.node_count) nodes v (ap (list_all (λ n. nat_lt n cast.node_count)) is ∙ of.below) h)

pub role_count : (p : Pattern) (cast : Cast) (nodes : List ℕ) → IsCast p cast → nodes ≡ cast.nodes → length (cast_of cast).roles ≡ length nodes
role_count p cast nodes of is = length_roles 0 cast.sizes ∙ sym (ap length is ∙ of.placed)

-- lines that stand for each node are those of the nodes
pub lines_are : (p : Pattern) (cast : Cast) (n : ℕ) (lines : List ℕ)
    → ((k : ℕ) → k < length lines → slice_index_or lines k 0 ≡ node_line p (n + k) (cast_of cast).roles cast.nodes) → lines ≡ nodes_lines p cast n (length lines)
lines_are p cast n [] h = refl
lines_are p cast n (line ∷ lines) h =
    let here : n + 0 ≡ n = omega arith in
    let first : line ≡ node_line p n (cast_of cast).roles cast.nodes = h 0 (omega arith) ∙ ap (λ m. node_line p m (cast_of cast).roles cast.nodes) here in
    let rest = lines_are p cast (suc n) lines (λ k l.
    (let there : n + suc k ≡ suc n + k = omega arith in
    h (suc k) (omega (arith, l)) ∙ ap (λ m. node_line p m (cast_of cast).roles cast.nodes) there)) in
    λ i. first i ∷ rest i

pub all_lines : (p : Pattern) (cast : Cast) (lines : List ℕ) (count : ℕ) → length lines ≡ count
    → ((n : ℕ) → n < count → slice_index_or lines n 0 ≡ node_line p n (cast_of cast).roles cast.nodes) → lines ≡ nodes_lines p cast 0 count
all_lines p cast lines count long h =
    lines_are p cast 0 lines (λ k l. (let zero_more : 0 + k ≡ k = omega arith in h k (omega (arith, l, long)) ∙ ap (λ m. node_line p m (cast_of cast).roles cast.nodes) (sym zero_more)))
    ∙ ap (nodes_lines p cast 0) long

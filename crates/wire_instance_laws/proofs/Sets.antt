-- The set of a fence has the members that the pattern's line names.
use Rattle.std.proofs.Common.{◌≡◌, ◌∙◌, ap, sym, subst, refl, ℕ, zero, suc, ◌+◌, ◌<◌, List, [], ◌∷◌, ◌++◌, map, length, Bool, true, false, Option, Some, None, slice_get, flat_map, inl, inr, if◌then◌else◌, arith, true≢false, zero-add, append_assoc, append-nil}
use Rattle.std.specs.Prelude.{◌==◌, ◌||◌, nat_lt}
use Rattle.std.specs.List.{list_any, list_all}
use Rattle.std.proofs.Math.Bool.{or-false}
use Rattle.std.proofs.lemmas.Bool.{cases_eq, cases_lt, false_from_ne_true, or_cases}
use Rattle.std.proofs.lemmas.List.Folds.{list_any-append}
use borrow.Author.Tests.{ltb-true, eqb-true, eq-eqb, ne_eqb}
use Rattle.wire_types.specs.Said as said
use Rattle.wire_runs.specs.Plan.{set_of}
use Rattle.wire_runs.specs.Fences.{is_member}
use Rattle.wire_runs.specs.Patterns as plan
use Rattle.wire_runs.specs.Patterns.{Who, group, who, item_members, members_in}
use Rattle.wire_runs.specs.Restrictions.{on_nodes}
use Rattle.wire_runs.proofs.WholeSets.{plays, group_member, member_set, same_set, rises_set}
use Rattle.wire_reader.specs.FirstPass.{Started}
use Rattle.wire_reader.specs.Reads.{names_it, is_in, places_from, set_members}
use Rattle.wire_reader.proofs.Places.{places_canonical, places_within}
use Rattle.wire_pattern.specs.Pattern.{Item, One, Group, Job, Role, Pattern}
use Rattle.wire_pattern.specs.Planned.{roles_of, items_of}
use Rattle.wire_pattern.specs.Instances.{Cast, IsCast, process_count, cast_of, job_in, job_name, process_item, items_said}
use Rattle.wire_pattern.specs.Lawful.{is_known_item, IsSoundPattern}
use Rattle.wire_lines.proofs.Colon.{and_left, and_right}
use Rattle.wire_instance_laws.proofs.Roles.{EachOf, each_both, count_is, stands, there, who_low, group_low}
use Rattle.wire_instance_laws.proofs.Facts.{job_is, role_at, role_low}
use Rattle.wire_instance_laws.proofs.Declared.{IsDeclaredAs, IsStarted, as_many, started, job_number, is_it, proc_is}

-- numbers of places start where they are counted from
none_below : (f : Started → Bool) (n m : ℕ) (ps : List Started) → m < n → is_member (places_from f n ps) m ≡ false
none_below f n m [] h = refl
none_below f n m (p ∷ ps) h =
    let rest = none_below f (n + 1) m ps (omega arith) in
    elim (f p) as (λ t. is_member (if t then n ∷ places_from f (n + 1) ps else places_from f (n + 1) ps) m ≡ false) [
      | true ↦ let other : (n == m) ≡ false = ne_eqb n m (λ e. omega arith) in rw (other, rest) refl
      | false ↦ rest
    ]

-- a process is among the places where it passes
place_is : (f : Started → Bool) (n : ℕ) (ps : List Started) (k : ℕ) (p : Started) → slice_get ps k ≡ Some p → is_member (places_from f n ps) (n + k) ≡ f p
place_is f n [] k p at = absurd (cc)
place_is f n (x ∷ ps) zero p at =
    let same : x ≡ p = cc in
    let here : (n == n + 0) ≡ true = eq-eqb n (n + 0) (omega arith) in
    let rest : is_member (places_from f (n + 1) ps) (n + 0) ≡ false = none_below f (n + 1) (n + 0) ps (omega arith) in
    elim (f x) as (λ t. is_member (if t then n ∷ places_from f (n + 1) ps else places_from f (n + 1) ps) (n + 0) ≡ t) [
      | true ↦ rw here refl
      | false ↦ rest
    ] ∙ ap f same
place_is f n (x ∷ ps) (suc k) p at =
    let other : (n == n + suc k) ≡ false = ne_eqb n (n + suc k) (λ e. omega arith) in
    let next : n + suc k ≡ n + 1 + k = omega arith in
    let rest : is_member (places_from f (n + 1) ps) (n + suc k) ≡ f p = ap (is_member (places_from f (n + 1) ps)) next ∙ place_is f (n + 1) ps k p at in
    elim (f x) as (λ t. is_member (if t then n ∷ places_from f (n + 1) ps else places_from f (n + 1) ps) (n + suc k) ≡ f p) [
      | true ↦ rw other rest
      | false ↦ rest
    ]

place_at : (f : Started → Bool) (ps : List Started) (k : ℕ) (p : Started) → slice_get ps k ≡ Some p → is_member (places_from f 0 ps) k ≡ f p
place_at f ps k p at = ap (is_member (places_from f 0 ps)) (sym (zero-add k)) ∙ place_is f 0 ps k p at

-- a member of a list of low numbers is low
member_low : (n : ℕ) (xs : List ℕ) (q : ℕ) → EachOf (λ x. x < n) xs → is_member xs q ≡ true → q < n
member_low n [] q h i = absurd (true≢false (sym i))
member_low n (x ∷ xs) q h i = elim (or_cases _ _ i) [ inl e ↦ subst (λ y. y < n) (eqb-true x q e) h.0 | inr r ↦ member_low n xs q h.1 r ]

each_low : (n : ℕ) (xs : List ℕ) → list_all (λ x. nat_lt x n) xs ≡ true → EachOf (λ x. x < n) xs
each_low n [] h = tt
each_low n (x ∷ xs) h = (ltb-true x n (and_left _ _ h), each_low n xs (and_right (nat_lt x n) _ h))

-- roles of a job
abbrev of_job : ℕ → Option Role → Bool
of_job job None = false
of_job job (Some role) = role.job == job

none_role : (job m n : ℕ) (rs : List Role) → m < n → list_any (λ r. m == r) (roles_of job n rs) ≡ false
none_role job m n [] low = refl
none_role job m n (role ∷ rs) low =
    let rest = none_role job m (suc n) rs (omega (arith, low)) in
    elim (role.job == job) as (λ t. list_any (λ r. m == r) (if t then n ∷ roles_of job (suc n) rs else roles_of job (suc n) rs) ≡ false) [
      | true ↦ let other : (m == n) ≡ false = ne_eqb m n (λ e. omega (arith, low, e)) in rw other rest
      | false ↦ rest
    ]

role_of_job : (job n : ℕ) (rs : List Role) (k : ℕ) → list_any (λ r. (n + k) == r) (roles_of job n rs) ≡ of_job job (slice_get rs k)
role_of_job job n [] k = refl
role_of_job job n (role ∷ rs) zero =
    let same : ((n + 0) == n) ≡ true = eq-eqb (n + 0) n (omega arith) in
    let none = none_role job (n + 0) (suc n) rs (omega arith) in
    elim (role.job == job) as (λ t. list_any (λ r. (n + 0) == r) (if t then n ∷ roles_of job (suc n) rs else roles_of job (suc n) rs) ≡ t) [
      | true ↦ rw same refl
      | false ↦ none
    ]
role_of_job job n (role ∷ rs) (suc k) =
    let other : ((n + suc k) == n) ≡ false = ne_eqb (n + suc k) n (λ e. omega (arith, e)) in
    let next : suc n + k ≡ n + suc k = omega arith in
    let rest : list_any (λ r. (n + suc k) == r) (roles_of job (suc n) rs) ≡ of_job job (slice_get rs k) =
    ap (λ m. list_any (λ r. m == r) (roles_of job (suc n) rs)) (sym next) ∙ role_of_job job (suc n) rs k in
    elim (role.job == job) as (λ t. list_any (λ r. (n + suc k) == r) (if t then n ∷ roles_of job (suc n) rs else roles_of job (suc n) rs) ≡ of_job job (slice_get rs k)) [
      | true ↦ rw other rest
      | false ↦ rest
    ]

members_both : (c : plan.Cast) (v e : ℕ) (xs ys : List plan.Item) → members_in c v e (xs ++ ys) ≡ members_in c v e xs ++ members_in c v e ys
members_both c v e [] ys = refl
members_both c v e (x ∷ xs) ys =
    ap (λ t. item_members c v e x ++ t) (members_both c v e xs ys) ∙ sym (append_assoc (item_members c v e x) (members_in c v e xs) (members_in c v e ys))

every_member : (c : plan.Cast) (v e : ℕ) (rs : List ℕ) (q role : ℕ) → slice_get c.roles q ≡ Some role → is_member (members_in c v e (map plan.Every rs)) q ≡ list_any (λ r. role == r) rs
every_member c v e [] q role at = refl
every_member c v e (r ∷ rs) q role at =
    list_any-append (λ x. x == q) (group r c.roles) (members_in c v e (map plan.Every rs))
    ∙ (λ i. (group_member r c.roles q ∙ ap (λ o. plays o r) at) i || every_member c v e rs q role at i)

module _ (p : Pattern) (cast : Cast) (sound : IsSoundPattern p) (is_cast : IsCast p cast) (a : IsDeclaredAs p cast) (nodes : ℕ → ℕ) (v e : ℕ) (low : v < length (cast_of cast).roles) (low_e : e < length (cast_of cast).roles) where
  abbrev on : plan.Cast
  on = on_nodes nodes (cast_of cast)

  abbrev roles : List ℕ
  roles = (cast_of cast).roles

  few : (q : ℕ) → q < length roles → q < process_count cast
  few q l = subst (λ n. q < n) (count_is cast) l

  module _ (q role : ℕ) (st : Started) (i : IsStarted p cast sound is_cast a q role st) (at : slice_get roles q ≡ Some role) where
    low_q : q < length roles
    low_q = there roles q role at

    -- a process is named where it is that one
    process_named : (x : ℕ) → x < length roles → names_it a.d (process_item p cast x) st ≡ (x == q)
    process_named x low_x = elim (cases_eq x q) [
      | inl same ↦
          subst (λ y. names_it a.d (process_item p cast y) st ≡ (y == q)) (sym same)
          (proc_is p cast sound is_cast a q role st i (few q low_q) ∙ sym (eq-eqb q q refl))
      | inr other ↦
          let r = role_at p cast sound is_cast x (few x low_x) in
          let sx = started p cast sound is_cast a x r.0 r.1 in
          false_from_ne_true _ (λ h. other (sym (is_it p cast sound is_cast a x r.0 sx.0 sx.1 (few x low_x) q st i.at h))) ∙ sym (ne_eqb x q other)
    ]

    group_named : (xs : List ℕ) → EachOf (λ x. x < length roles) xs → list_any (λ item. names_it a.d item st) (map (process_item p cast) xs) ≡ is_member xs q
    group_named [] h = refl
    group_named (x ∷ xs) h = λ j. process_named x h.0 j || group_named xs h.1 j

    job_named : (job : ℕ) → job < length p.jobs → names_it a.d (said.Every (job_name p job)) st ≡ of_job job (slice_get p.roles role)
    job_named job low_job =
        ap (λ n. st.job == n) (job_number p cast sound is_cast a job low_job)
        ∙ ap (λ n. n == job) (i.job ∙ job_is p cast q role at)
        ∙ subst (λ o. (job_in o == job) ≡ of_job job o) (sym (stands p.roles role (role_low p cast sound is_cast q role at)).1) refl

    item_named : (item : Item) → is_known_item (length p.jobs) p.roles item ≡ true
        → list_any (λ x. names_it a.d x st) (items_said p cast v e item) ≡ is_member (members_in on v e (items_of p.roles item)) q
    item_named (One w) h = ap (λ b. b || false) (process_named (who (cast_of cast) v e w) (who_low (cast_of cast) v e w low low_e))
    item_named (Group r) h =
        group_named (group r roles) (group_low r roles) ∙ ap (λ xs. is_member xs q) (sym (append-nil (group r roles)))
    item_named (Job job) h =
        or-false _ ∙ job_named job (ltb-true job (length p.jobs) h)
        ∙ sym (every_member on v e (roles_of job 0 p.roles) q role at ∙ ap (λ m. list_any (λ r. m == r) (roles_of job 0 p.roles)) (sym (zero-add role)) ∙ role_of_job job 0 p.roles role)

    items_named : (items : List Item) → list_all (is_known_item (length p.jobs) p.roles) items ≡ true
        → list_any (λ x. names_it a.d x st) (flat_map (items_said p cast v e) items) ≡ is_member (members_in on v e (flat_map (items_of p.roles) items)) q
    items_named [] h = refl
    items_named (item ∷ items) h =
        list_any-append (λ x. names_it a.d x st) (items_said p cast v e item) (flat_map (items_said p cast v e) items)
        ∙ (λ j. item_named item (and_left _ _ h) j || items_named items (and_right (is_known_item (length p.jobs) p.roles item) _ h) j)
        ∙ sym (ap (λ xs. is_member xs q) (members_both on v e (items_of p.roles item) (flat_map (items_of p.roles) items))
        ∙ list_any-append (λ x. x == q) (members_in on v e (items_of p.roles item)) (members_in on v e (flat_map (items_of p.roles) items)))

  -- members are processes
  item_low : (items : List plan.Item) → EachOf (λ x. x < length roles) (members_in on v e items)
  item_low [] = tt
  item_low (plan.Every r ∷ items) = each_both _ (group r roles) (members_in on v e items) (group_low r roles) (item_low items)
  item_low (plan.One w ∷ items) = (who_low (cast_of cast) v e w low low_e, item_low items)

  -- the set is the members that the line names
  pub set_is : (own : ℕ) (items : List Item) → list_all (is_known_item (length p.jobs) p.roles) items ≡ true
      → set_members a.d own (said.Listed (flat_map (items_said p cast v e) items)) ≡ set_of (members_in on v e (flat_map (items_of p.roles) items))
  set_is own items h =
      let test = is_in a.d own (said.Listed (flat_map (items_said p cast v e) items)) in
      let set = set_members a.d own (said.Listed (flat_map (items_said p cast v e) items)) in
      let members = members_in on v e (flat_map (items_of p.roles) items) in
      let same : (q : ℕ) → is_member set q ≡ is_member members q = λ q. elim (cases_lt q (length roles)) [
        | inl here ↦
            let r = role_at p cast sound is_cast q (few q here) in
            let st = started p cast sound is_cast a q r.0 r.1 in
            place_at test a.d.processes q st.0 st.1.at ∙ items_named q r.0 st.0 st.1 r.1 items h
        | inr past ↦
            let many = as_many p cast sound is_cast a in
            let count = count_is cast in
            false_from_ne_true _ (λ m. let l = member_low (length a.d.processes) set q (each_low (length a.d.processes) set (places_within test 0 (length a.d.processes) a.d.processes (omega arith))) m in omega (arith, l, past, many, count))
            ∙ sym (false_from_ne_true _ (λ m. let l = member_low (length roles) members q (item_low (flat_map (items_of p.roles) items)) m in omega (arith, l, past)))
      ] in
      sym (places_canonical test 0 a.d.processes)
      ∙ same_set (set_of set) (set_of members) (rises_set set) (rises_set members) (λ q. member_set set q ∙ same q ∙ sym (member_set members q))

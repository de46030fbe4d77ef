-- What a get-now finds on some nodes, it finds where each process has a node of its own, but one of them that of the get.
use Rattle.std.proofs.Common.{◌≡◌, ℕ, ◌<◌, ◌≤◌, List, length, true, false, Option, Some, None, inl, inr, refl, sym, ap, ◌∙◌, arith, eq-eqb, eqb-true, ne_eqb}
use Rattle.std.specs.Prelude.{slice_get}
use Rattle.std.proofs.lemmas.Bool.{cases_lt, true≢false}
use Rattle.std.proofs.lemmas.Option.{slice_get_cases}
use Rattle.wire_types.specs.declared.Status.{Status}
use Rattle.wire_types.specs.declared.Status.TheVariants as status
use Rattle.wire_runs.specs.Plan.{Plan, Event, GetNow, kind, kind_at, kinds, kinds_of, process_count, node_of, same_node}
use Rattle.wire_runs.specs.Order.{Live}
use Rattle.wire_runs.specs.Embeddings.{IsEmbedding, pair}
use Rattle.wire_runs.specs.Patterns.{Pattern, Coding, Cast, calls_from, instance_of}
use Rattle.wire_runs.specs.Restrictions.{script_in, on_nodes}
use Rattle.wire_runs.proofs.Basics.{process_within, stores_commit}
use Rattle.wire_runs.proofs.EmbeddedOrder.{live_back}
use Rattle.wire_runs.proofs.Placements.{pair_first, pair_second, pair_other, pair_together, itself, same_calls, mate_of}
use Rattle.wire_runs.proofs.RestrictedCalls.{instance_kinds}
use Rattle.wire_runs.proofs.RestrictedWhole.{instance_node, instance_count}
use Rattle.wire_pattern_laws.proofs.SameCalls.{calls_same, ask_all}
use Rattle.wire_pattern_laws.specs.Finds.{event_in, FindsNear, near_nothing, near_value, FindsFar, far_nothing, far_value, Finds, from_own, from_near, from_far}
use Rattle.wire_pattern_laws.proofs.FindsByOrder.{absent}
use Rattle.wire_pattern_laws.proofs.FindsBack.{own_back, near_back, far_nothing_back, far_value_back}

-- nodes say nothing of calls
kinds_there : (pattern : Pattern) (coding : Coding) (cast : Cast) (nodes : ℕ → ℕ) (p : ℕ) → kinds (instance_of pattern coding cast) p ≡ kinds (instance_of pattern coding (on_nodes nodes cast)) p
kinds_there pattern coding cast nodes p = instance_kinds pattern coding cast p ∙ go (slice_get cast.roles p) refl ∙ sym (instance_kinds pattern coding (on_nodes nodes cast) p)
  where
    go : (o : Option ℕ) → slice_get cast.roles p ≡ o → kinds_of (calls_from coding cast p 0 (script_in pattern (slice_get cast.roles p))) ≡ kinds_of (calls_from coding (on_nodes nodes cast) p 0 (script_in pattern (slice_get cast.roles p)))
    go None is = ap (λ o. kinds_of (calls_from coding cast p 0 (script_in pattern o))) is ∙ sym (ap (λ o. kinds_of (calls_from coding (on_nodes nodes cast) p 0 (script_in pattern o))) is)
    go (Some role) is =
        ap (λ o. kinds_of (calls_from coding cast p 0 (script_in pattern o))) is
        ∙ ap kinds_of (calls_same coding (on_nodes nodes cast) cast refl p 0 (pattern.script role)
        (ask_all pattern (on_nodes nodes cast) p role is (λ i e lines. cast.chosen p i e ≡ cast.chosen p i e) (λ i e lines may. refl)))
        ∙ sym (ap (λ o. kinds_of (calls_from coding (on_nodes nodes cast) p 0 (script_in pattern o))) is)

role_at : (roles : List ℕ) (p : ℕ) → p < length roles → (x : ℕ) × (slice_get roles p ≡ Some x)
role_at roles p lt = elim (slice_get_cases roles p).1 [ inl c ↦ (c.0, c.2) | inr c ↦ absurd (let past = c.0 in omega (arith, lt, past)) ]

module _ (pattern : Pattern) (coding : Coding) (cast : Cast) where
  abbrev plan : Plan
  plan = instance_of pattern coding cast

  abbrev on_pair : ℕ → ℕ → Plan
  on_pair p q = instance_of pattern coding (on_nodes (pair p q) cast)

  within : (p q r : ℕ) → r < process_count (on_pair p q) → r < length cast.roles
  within p q r lt = let c = instance_count pattern coding (on_nodes (pair p q) cast) in omega (arith, lt, c)

  node_is : (p q r : ℕ) → r < length cast.roles → node_of (on_pair p q) r ≡ pair p q r
  node_is p q r lt = let x = role_at cast.roles r lt in instance_node pattern coding (on_nodes (pair p q) cast) r x.0 x.1

  stands : (p q : ℕ) → node_of plan p ≡ node_of plan q → IsEmbedding itself (on_pair p q) plan
  stands p q together =
      same_calls (on_pair p q) plan (λ r. kinds_there pattern coding cast (pair p q) r) refl
      (λ r s ltr lts e. pair_together (node_of plan) p q r s together (sym (node_is p q r (within p q r ltr)) ∙ e ∙ node_is p q s (within p q s lts)))

  module _ (get : Event) (owner key : ℕ) (is : kind plan get ≡ Some (GetNow owner key)) (live_get : Live plan get) (found : Status) where
    -- where the get shares its node with the mate
    pub record FindsBeside : Type 0 where
      pub mate : ℕ
      pub is_there : kind (on_pair mate get.proc) get ≡ Some (GetNow owner key)
      pub is_live : Live (on_pair mate get.proc) get
      pub finds : Finds (on_pair mate get.proc) get owner key found

    reader_within : get.proc < length cast.roles
    reader_within = let w = process_within plan get.proc get.at _ is in let c = instance_count pattern coding cast in omega (arith, w, c)

    is_on : (p : ℕ) → kind (on_pair p get.proc) get ≡ Some (GetNow owner key)
    unfolding kind_at
    is_on p = ap (λ ks. slice_get ks get.at) (sym (kinds_there pattern coding cast (pair p get.proc) get.proc)) ∙ is

    beside : (p : ℕ) → node_of plan p ≡ node_of plan get.proc → Finds (on_pair p get.proc) get owner key found → FindsBeside
    beside p together f = record { mate = p; is_there = is_on p; is_live = live_back itself (on_pair p get.proc) plan (stands p get.proc together) get live_get; finds = f }

    reader_node : (p : ℕ) → node_of (on_pair p get.proc) get.proc ≡ p
    reader_node p = node_is p get.proc get.proc reader_within ∙ pair_second p get.proc

    module _ (ne : get.proc ≡ owner → ⊥) where
      not_reader : owner ≡ get.proc → ⊥
      not_reader e = ne (sym e)

      -- an owner that isn't a process
      beside_none : length cast.roles ≤ owner → found ≡ status.NotFound → FindsBeside
      beside_none none is_found = beside get.proc refl (absent (on_pair get.proc get.proc) get owner key found ne
          (let c = instance_count pattern coding (on_nodes (pair get.proc get.proc) cast) in omega (arith, none, c)) is_found)

      -- a process that isn't beside the get
      apart_node : (p : ℕ) → (owner ≡ p → ⊥) → owner < length cast.roles → same_node (on_pair p get.proc) owner get.proc ≡ false
      apart_node p not_mate lt =
          ne_eqb _ _ (λ s. not_mate (sym (node_is p get.proc owner lt ∙ pair_other p get.proc owner not_reader) ∙ s ∙ reader_node p))

      near_beside : same_node plan owner get.proc ≡ true → FindsNear plan get owner key found → owner < length cast.roles → FindsBeside
      near_beside near f lt =
          let together = eqb-true _ _ near in
          beside owner together (from_near ne (eq-eqb _ _ (node_is owner get.proc owner lt ∙ pair_first owner get.proc ∙ sym (reader_node owner)))
          (near_back itself (on_pair owner get.proc) plan (stands owner get.proc together) get owner key (is_on owner) live_get found f))

      near_case : same_node plan owner get.proc ≡ true → FindsNear plan get owner key found → FindsBeside
      near_case near (near_nothing none is_found) = elim (cases_lt owner (length cast.roles)) [
        | inl lt ↦ near_beside near (near_nothing none is_found) lt
        | inr past ↦ beside_none past is_found
      ]
      near_case near (near_value i put stores l not_before is_put is_found) =
          let w = process_within plan owner i _ (stores_commit plan (event_in owner i) key stores) in
          let c = instance_count pattern coding cast in
          near_beside near (near_value i put stores l not_before is_put is_found) (omega (arith, w, c))

      far_case : same_node plan owner get.proc ≡ false → FindsFar plan get owner key found → FindsBeside
      far_case away (far_nothing none is_found) = elim (cases_lt owner (length cast.roles)) [
        | inr past ↦ beside_none past is_found
        | inl lt ↦ beside get.proc refl (from_far ne (apart_node get.proc not_reader lt)
            (far_nothing_back itself (on_pair get.proc get.proc) plan (stands get.proc get.proc refl) get owner key (is_on get.proc) live_get found none is_found))
      ]
      far_case away (far_value d delivers none is_found) =
          let m = mate_of plan owner key get d delivers.brings_it in
          let c = instance_count pattern coding cast in
          let mate_lt : m.mate < length cast.roles = (let w = m.within in omega (arith, w, c)) in
          let owner_lt : owner < length cast.roles = (let w = m.owner_within in omega (arith, w, c)) in
          beside m.mate m.there (from_far ne (apart_node m.mate (λ s. true≢false (sym (eq-eqb _ _ (ap (node_of plan) s ∙ m.there)) ∙ away)) owner_lt)
          (far_value_back itself (on_pair m.mate get.proc) plan (stands m.mate get.proc m.there) get owner key (is_on m.mate) live_get found d delivers none is_found
          (m.is_kept (on_pair m.mate get.proc) (node_is m.mate get.proc m.mate mate_lt ∙ pair_first m.mate get.proc ∙ sym (reader_node m.mate)))))

    pub finds_beside : Finds plan get owner key found → FindsBeside
    finds_beside (from_own s f) = beside get.proc refl (from_own s (own_back itself (on_pair get.proc get.proc) plan (stands get.proc get.proc refl) get owner key (is_on get.proc) live_get found s f))
    finds_beside (from_near ne near f) = near_case ne near f
    finds_beside (from_far ne away f) = far_case ne away f

-- What a row says of a key, from the last event of a process to its first.
use Rattle.std.proofs.Common.{◌≡◌, ℕ, zero, suc, ◌+◌, ◌<◌, ◌≤◌, true, Option, Some, None, is_some, inl, inr, refl, sym, ap, ◌∙◌, subst, arith, eq-eqb, ne_eqb}
use Rattle.std.specs.Prelude.{◌==◌, MatchOption, List, [], ◌∷◌, ◌++◌, length, slice_get}
use Rattle.std.proofs.lemmas.Option.{slice_get_past}
use Rattle.std.proofs.lemmas.Bool.{cond-true, cond-false, cond_both, cases_eq, cases_lt, true≢false}
use Rattle.wire_types.specs.declared.Scope.{Scope}
use Rattle.wire_runs.specs.Plan.{Plan, Kind, Put, Commit, kind_at, event_count, kinds, process_count, process_kinds}
use Rattle.wire_runs.specs.Puts.{own_with, own_put, stored_with, stored_put, put_count_with, count_puts, put_count, scope_in}
use Rattle.wire_plan.specs.Kinds.{kind_of}
use Rattle.wire_plan.specs.Keys.{puts_in, row_in, IsStore, IsKeyRow, IsNextCommit, IsRowFrom, AreRowsFrom}
use Rattle.wire_plan.specs.declared.key_rows.KeyRow.{KeyRow}
use Rattle.wire_plan.specs.declared.kind.Kind.{Kind as CodeKind}
use Rattle.wire_plan.specs.declared.kind.Kind.TheVariants as code
use Rattle.wire_runs.proofs.Basics.{kept_on, rises, own_with_kept}
use Rattle.wire_runs.proofs.Lists.{slice_get-append_left, slice_get_push_last}

own_none_with : (key n c : ℕ) (o : Option ℕ) (e : Option Kind) → (c ≡ 0 → o ≡ None) → put_count_with key c e ≡ 0 → own_with key n o e ≡ None
own_none_with key n c o (Some (Put k scope)) ih =
    cond_both (k == key) _ _ (λ v. v ≡ 0 → own_with key n o (Some (Put k scope)) ≡ None) (λ t h. absurd (omega (arith, h))) (λ f h. cond-false _ _ _ f ∙ ih h)
own_none_with key n c o _ ih = ih

stored_none_with : (own before : Option ℕ) (e : Option Kind) → before ≡ None → (e ≡ Some Commit → own ≡ None) → stored_with own before e ≡ None
stored_none_with own before (Some Commit) b h = h refl
stored_none_with own before _ b h = b

count_with_up : (key n : ℕ) (e : Option Kind) → n ≤ put_count_with key n e
count_with_up key n (Some (Put k scope)) = cond_both (k == key) (suc n) n (λ m. n ≤ m) (λ _. omega arith) (λ _. omega arith)
count_with_up key n _ = omega arith

count_with_few : (key n : ℕ) (e : Option Kind) → put_count_with key n e ≤ suc n
count_with_few key n (Some (Put k scope)) = cond_both (k == key) (suc n) n (λ m. m ≤ suc n) (λ _. omega arith) (λ _. omega arith)
count_with_few key n _ = omega arith

pub none_or_some : {A : Type 0} (o : Option A) → (is_some o ≡ true → ⊥) → o ≡ None
none_or_some None h = refl
none_or_some (Some a) h = absurd (h refl)

module _ (kinds : ℕ → Option Kind) (key : ℕ) where
  -- a key that was never put has no put
  pub own_none : (n : ℕ) → count_puts kinds key n ≡ 0 → own_put kinds key n ≡ None
  own_none zero h = refl
  own_none (suc n) h = own_none_with key n _ _ (kinds n) (own_none n) h

  pub own_stays : (n m : ℕ) → n ≤ m → is_some (own_put kinds key n) ≡ true → is_some (own_put kinds key m) ≡ true
  own_stays = kept_on (λ n. is_some (own_put kinds key n)) (λ n. own_with_kept key n _ (kinds n))

  pub counts_rise : (n m : ℕ) → n ≤ m → count_puts kinds key n ≤ count_puts kinds key m
  counts_rise = rises (count_puts kinds key) (λ n. count_with_up key _ (kinds n))

  -- at most one put an event
  pub counts_few : (n m : ℕ) → n ≤ m → count_puts kinds key m + n ≤ count_puts kinds key n + m
  counts_few n zero le = let e : n ≡ 0 = omega arith in subst (λ k. count_puts kinds key 0 + k ≤ count_puts kinds key k + 0) (sym e) (omega arith)
  counts_few n (suc m) le = elim (cases_eq n (suc m)) [
    | inl e ↦ subst (λ k. count_puts kinds key (suc m) + k ≤ count_puts kinds key k + suc m) (sym e) (omega arith)
    | inr ne ↦ omega (arith, counts_few n m (omega (arith, le, ne)), count_with_few key (count_puts kinds key m) (kinds m))
  ]

  -- a put of this key counts
  pub count_same : (n : ℕ) (scope : Scope) → kinds n ≡ Some (Put key scope) → count_puts kinds key (suc n) ≡ suc (count_puts kinds key n)
  count_same n scope is = ap (put_count_with key (count_puts kinds key n)) is ∙ cond-true _ _ _ (eq-eqb key key refl)

  pub own_here : (n : ℕ) (scope : Scope) → kinds n ≡ Some (Put key scope) → own_put kinds key (suc n) ≡ Some n
  own_here n scope is = ap (own_with key n (own_put kinds key n)) is ∙ cond-true _ _ _ (eq-eqb key key refl)

  -- a put of another doesn't
  pub count_other : (k n : ℕ) (scope : Scope) → (k ≡ key → ⊥) → kinds n ≡ Some (Put k scope) → count_puts kinds key (suc n) ≡ count_puts kinds key n
  count_other k n scope ne is = ap (put_count_with key (count_puts kinds key n)) is ∙ cond-false _ _ _ (ne_eqb k key ne)

  module _ (i : ℕ) (scope : Scope) (is : kinds i ≡ Some (Put key scope)) (first : own_put kinds key i ≡ None) where
    own_none_up_to : (n : ℕ) → n ≤ i → own_put kinds key n ≡ None
    own_none_up_to n le = none_or_some _ (λ s. true≢false (sym (own_stays n i le s) ∙ ap is_some first))

    -- nothing is stored before the first commit after the first put
    pub stored_none_up_to : (c : ℕ) → ((k : ℕ) → i ≤ k → k < c → kinds k ≡ Some Commit → ⊥) → (n : ℕ) → n ≤ c → stored_put kinds key n ≡ None
    stored_none_up_to c none_there zero le = refl
    stored_none_up_to c none_there (suc n) le = stored_none_with _ _ (kinds n) (stored_none_up_to c none_there n (omega (arith, le)))
        (λ e. own_none_up_to n (elim (cases_lt n i) [ inl lt ↦ omega (arith, lt) | inr ge ↦ absurd (none_there n ge (omega (arith, le)) e) ]))

    -- and something after it
    pub stored_after : (c : ℕ) → i ≤ c → kinds c ≡ Some Commit → is_some (stored_put kinds key (suc c)) ≡ true
    stored_after c le commit = ap is_some (ap (stored_with (own_put kinds key c) (stored_put kinds key c)) commit) ∙ elim (cases_eq i c) [
      | inl e ↦ absurd (let both = sym is ∙ ap kinds e ∙ commit in cc)
      | inr ne ↦ own_stays (suc i) c (omega (arith, le, ne)) (ap is_some (own_here i scope is))
    ]

module _ (kinds : ℕ → Option Kind) (at end : ℕ) where
  next_kept : (o : Option ℕ) → (kinds at ≡ Some Commit → ⊥) → IsNextCommit kinds (suc at) end o → IsNextCommit kinds at end o
  next_kept None other h = λ k le lt is. elim (cases_eq at k) [ inl e ↦ other (ap kinds e ∙ is) | inr ne ↦ h k (omega (arith, le, ne)) lt is ]
  next_kept (Some c) other h =
      let low = h.0 in
      (omega (arith, low), h.1, h.2, λ k le lt is. elim (cases_eq at k) [ inl e ↦ other (ap kinds e ∙ is) | inr ne ↦ h.3 k (omega (arith, le, ne)) lt is ])

  next_here : at < end → kinds at ≡ Some Commit → IsNextCommit kinds at end (Some at)
  next_here lt is = (omega arith, lt, is, λ k le below. absurd (omega (arith, le, below)))

  row_kept : (key : ℕ) (o : Option KeyRow) → count_puts kinds key (suc at) ≡ count_puts kinds key at →
      MatchOption o (count_puts kinds key end ≡ count_puts kinds key (suc at)) (λ row. IsRowFrom kinds key (suc at) end row) →
      MatchOption o (count_puts kinds key end ≡ count_puts kinds key at) (λ row. IsRowFrom kinds key at end row)
  row_kept key None same h = h ∙ same
  row_kept key (Some row) same h = record {
    puts = h.puts ∙ ap (λ n. n + row.puts) same;
    positive = h.positive;
    is = h.is;
    below = h.below;
    first = h.first ∙ same;
    store = h.store;
  }

  counted : (key : ℕ) (o : Option KeyRow) → MatchOption o (count_puts kinds key end ≡ count_puts kinds key (suc at)) (λ row. IsRowFrom kinds key (suc at) end row) →
      count_puts kinds key end ≡ count_puts kinds key (suc at) + puts_in o
  counted key None h = omega (arith, h)
  counted key (Some row) h = h.puts

  -- a put is the first of its key
  pub take_put : (key : ℕ) (scope : Scope) (old new : ℕ → Option KeyRow) (commit : Option ℕ) → kinds at ≡ Some (Put key scope) → at < end →
      new key ≡ Some (record { puts = puts_in (old key) + 1; first = at; scope = scope; store = commit }) → ((q : ℕ) → (q ≡ key → ⊥) → new q ≡ old q) → AreRowsFrom kinds (suc at) end old commit →
      AreRowsFrom kinds at end new commit
  take_put key scope old new commit is lt here others h = record {
    each = λ q. elim (cases_eq q key) [
      | inl e ↦ subst (λ k. MatchOption (new k) (count_puts kinds k end ≡ count_puts kinds k at) (λ row. IsRowFrom kinds k at end row)) (sym e)
          (subst (λ o. MatchOption o (count_puts kinds key end ≡ count_puts kinds key at) (λ row. IsRowFrom kinds key at end row)) (sym here) row)
      | inr ne ↦ subst (λ o. MatchOption o (count_puts kinds q end ≡ count_puts kinds q at) (λ row. IsRowFrom kinds q at end row)) (sym (others q ne))
          (row_kept q (old q) (count_other kinds q key at scope (λ e. ne (sym e)) is) (h.each q))
    ];
    next = next;
  }
    where
      next : IsNextCommit kinds at end commit
      next = next_kept commit (λ c. let both = sym is ∙ c in cc) h.next

      row : IsRowFrom kinds key at end (record { puts = puts_in (old key) + 1; first = at; scope = scope; store = commit })
      row = record {
        puts = omega (arith, counted key (old key) (h.each key), count_same kinds key at scope is);
        positive = omega arith;
        is = is;
        below = lt;
        first = refl;
        store = next;
      }

  -- any other event puts nothing
  pub take_commit : (rows : ℕ → Option KeyRow) (commit : Option ℕ) → kinds at ≡ Some Commit → at < end → AreRowsFrom kinds (suc at) end rows commit → AreRowsFrom kinds at end rows (Some at)
  take_commit rows commit is lt h = record {
    each = λ q. row_kept q (rows q) (ap (put_count_with q (count_puts kinds q at)) is) (h.each q);
    next = next_here lt is;
  }

  count_kept : (sets : List (List ℕ)) (key n : ℕ) (k : CodeKind) → ((scope : Scope) (q : ℕ) → k ≡ code.Put scope q → ⊥) → put_count_with key n (Some (kind_of sets k)) ≡ n
  count_kept sets key n (code.Put scope q) not_put = absurd (not_put scope q refl)
  count_kept sets key n _ not_put = refl

  no_commit : (sets : List (List ℕ)) (k : CodeKind) → (k ≡ code.Commit → ⊥) → Some (kind_of sets k) ≡ Some Commit → ⊥
  no_commit sets code.Commit other h = other refl
  no_commit sets (code.Put scope q) other h = cc
  no_commit sets (code.Arrive s c) other h = cc
  no_commit sets (code.Leave s) other h = cc
  no_commit sets (code.Get o k) other h = cc
  no_commit sets (code.GetNow o k) other h = cc
  no_commit sets (code.Publish n) other h = cc
  no_commit sets (code.Lookup n) other h = cc
  no_commit sets (code.LookupWait n) other h = cc
  no_commit sets (code.Unpublish n) other h = cc
  no_commit sets code.UnpublishAll other h = cc
  no_commit sets (code.Fixed r) other h = cc

  pub take_other : (sets : List (List ℕ)) (k : CodeKind) (rows : ℕ → Option KeyRow) (commit : Option ℕ) → kinds at ≡ Some (kind_of sets k) → ((scope : Scope) (q : ℕ) → k ≡ code.Put scope q → ⊥) →
      (k ≡ code.Commit → ⊥) → AreRowsFrom kinds (suc at) end rows commit → AreRowsFrom kinds at end rows commit
  take_other sets k rows commit is not_put not_commit h = record {
    each = λ q. row_kept q (rows q) (ap (put_count_with q (count_puts kinds q at)) is ∙ count_kept sets q (count_puts kinds q at) k not_put) (h.each q);
    next = next_kept commit (λ c. no_commit sets k not_commit (sym is ∙ c)) h.next;
  }

-- a row tells of at most as many puts as there are events
pub puts_few : (kinds : ℕ → Option Kind) (from end : ℕ) (rows : ℕ → Option KeyRow) (commit : Option ℕ) → from ≤ end → AreRowsFrom kinds from end rows commit → (key : ℕ) →
    puts_in (rows key) + from ≤ end
puts_few kinds from end rows commit le h key = go (rows key) (h.each key)
  where
    go : (o : Option KeyRow) → MatchOption o (count_puts kinds key end ≡ count_puts kinds key from) (λ row. IsRowFrom kinds key from end row) → puts_in o + from ≤ end
    go None none_there = omega (arith, le)
    go (Some row) r = omega (arith, r.puts, counts_few kinds key from end le)

-- the rows before the last event is taken
pub rows_start : (kinds : ℕ → Option Kind) (end : ℕ) (rows : ℕ → Option KeyRow) → ((key : ℕ) → rows key ≡ None) → AreRowsFrom kinds end end rows None
rows_start kinds end rows none_yet = record {
  each = λ key. subst (λ o. MatchOption o (count_puts kinds key end ≡ count_puts kinds key end) (λ row. IsRowFrom kinds key end end row)) (sym (none_yet key)) refl;
  next = λ k le lt is. omega (arith, le, lt);
}

stored_as : (plan : Plan) (p key : ℕ) (row : KeyRow) → IsRowFrom (kind_at plan p) key 0 (event_count plan p) row → own_put (kind_at plan p) key row.first ≡ None → (o : Option ℕ) →
    IsNextCommit (kind_at plan p) row.first (event_count plan p) o → IsStore plan p key o
stored_as plan p key row r first None next =
    stored_none_up_to (kind_at plan p) key row.first row.scope r.is first (event_count plan p) next (event_count plan p) (omega arith)
stored_as plan p key row r first (Some c) next = record {
  nothing_before = stored_none_up_to (kind_at plan p) key row.first row.scope r.is first c next.3 c (omega arith);
  something_after = stored_after (kind_at plan p) key row.first row.scope r.is first c next.0 next.2;
}

-- once all events are taken the rows are those of the process
pub rows_done : (plan : Plan) (p : ℕ) (rows : ℕ → Option KeyRow) (commit : Option ℕ) → AreRowsFrom (kind_at plan p) 0 (event_count plan p) rows commit → (key : ℕ) → IsKeyRow plan p key (rows key)
rows_done plan p rows commit h key = go (rows key) (h.each key)
  where
    go : (o : Option KeyRow) → MatchOption o (count_puts (kind_at plan p) key (event_count plan p) ≡ 0) (λ row. IsRowFrom (kind_at plan p) key 0 (event_count plan p) row) → IsKeyRow plan p key o
    go None e = e
    go (Some row) r =
        let first = own_none (kind_at plan p) key row.first r.first in
        record {
          puts = omega (arith, r.puts);
          positive = r.positive;
          first = record { scope = row.scope; is = r.is; first = first };
          scope = ap scope_in r.is;
          store = stored_as plan p key row r first row.store r.store;
        }

-- the table after the rows of one more process
pub table_push : (plan : Plan) (rows : List (List (ℕ × KeyRow))) (row : List (ℕ × KeyRow)) (n : ℕ) → length rows ≡ n → ((p key : ℕ) → p < n → IsKeyRow plan p key (row_in (slice_get rows p) key)) →
    ((key : ℕ) → IsKeyRow plan n key (row_in (Some row) key)) → (p key : ℕ) → p < n + 1 → IsKeyRow plan p key (row_in (slice_get (rows ++ row ∷ []) p) key)
table_push plan rows row n len each last p key lt = elim (cases_eq p n) [
  | inl e ↦
      subst (λ q. IsKeyRow plan q key (row_in (slice_get (rows ++ row ∷ []) q) key)) (sym e)
      (subst (λ o. IsKeyRow plan n key (row_in o key)) (sym (ap (slice_get (rows ++ row ∷ [])) (sym len) ∙ slice_get_push_last rows row)) (last key))
  | inr ne ↦ subst (λ o. IsKeyRow plan p key (row_in o key)) (sym (slice_get-append_left rows (row ∷ []) p (omega (arith, lt, ne, len)))) (each p key (omega (arith, lt, ne)))
]

-- who isn't of the plan puts nothing
no_process : (plan : Plan) (p key : ℕ) → process_count plan ≤ p → put_count plan p key (event_count plan p) ≡ 0
unfolding event_count kinds
no_process plan p key le = ap (λ n. put_count plan p key n) (ap (λ o. length (process_kinds o)) (slice_get_past plan.processes p le))

pub table_done : (plan : Plan) (rows : List (List (ℕ × KeyRow))) → length rows ≡ process_count plan → ((p key : ℕ) → p < process_count plan → IsKeyRow plan p key (row_in (slice_get rows p) key)) →
    (p key : ℕ) → IsKeyRow plan p key (row_in (slice_get rows p) key)
table_done plan rows len each p key = elim (cases_lt p (process_count plan)) [
  | inl lt ↦ each p key lt
  | inr ge ↦ subst (λ o. IsKeyRow plan p key (row_in o key)) (sym (slice_get_past rows p (omega (arith, ge, len)))) (no_process plan p key ge)
]

-- What follows from the row of a key.
use Rattle.std.proofs.Common.{◌≡◌, ℕ, zero, suc, ◌<◌, ◌≤◌, Bool, true, false, Option, Some, None, is_some, inl, inr, refl, sym, ap, ◌∙◌, subst, arith, nat_lt}
use Rattle.std.specs.Prelude.{◌==◌, MatchOption, ◌||◌}
use Rattle.std.proofs.lemmas.Bool.{cond_both, cases_eq, cases_lt, true≢false, eqb-true, lt-ltb, ltb-true, le-ltb}
use Rattle.std.proofs.lemmas.Option.{same_Some}
use Rattle.wire_types.specs.declared.Scope.{Scope}
use Rattle.wire_types.specs.declared.Proc.{Proc}
use Rattle.wire_types.specs.declared.Event.{Event as CodeEvent}
use Rattle.wire_runs.specs.Plan.{Plan, Event, event_of, Kind, Put, Commit, kind_at, event_count, admits}
use Rattle.wire_runs.specs.Puts.{own_with, own, stored_with, stored, put_count, scope_of}
use Rattle.wire_runs.specs.Order.{Stores}
use Rattle.wire_runs.specs.Races.{IsPutOnce}
use Rattle.wire_plan.specs.Index.{IsFirstPut, IsSent}
use Rattle.wire_plan.specs.Keys.{IsStore, IsRowOf}
use Rattle.wire_plan.specs.Bringing.{IsSentAfter}
use Rattle.wire_plan.specs.declared.key_rows.KeyRow.{KeyRow}
use Rattle.wire_runs.proofs.Basics.{stored_own, stored_stays, event_within, event_past}
use Rattle.wire_runs.proofs.Due.{place_path}
use Rattle.wire_plan.proofs.KeyRows.{own_none, own_stays, own_here, counts_rise, count_same, none_or_some}

-- what never comes while a process has events, never comes
none_always : (f : ℕ → Option ℕ) (end : ℕ) → ((n m : ℕ) → n ≤ m → is_some (f n) ≡ true → is_some (f m) ≡ true) → ((n : ℕ) → end ≤ n → f (suc n) ≡ f n) → f end ≡ None → (n : ℕ) → f n ≡ None
none_always f end stays past h zero = none_or_some _ (λ s. true≢false (sym (stays 0 end (omega arith) s) ∙ ap is_some h))
none_always f end stays past h (suc n) = elim (cases_lt n end) [
  | inl lt ↦ none_or_some _ (λ s. true≢false (sym (stays (suc n) end (omega (arith, lt)) s) ∙ ap is_some h))
  | inr ge ↦ past n ge ∙ none_always f end stays past h n
]

-- a key that is never put
pub never_put : (plan : Plan) (p key n : ℕ) → put_count plan p key (event_count plan p) ≡ 0 → own plan p key n ≡ None
never_put plan p key n h =
    none_always (own plan p key) (event_count plan p) (own_stays (kind_at plan p) key) (λ m le. ap (own_with key m (own plan p key m)) (event_past plan p m le))
    (own_none (kind_at plan p) key (event_count plan p) h) n

pub never_put_stored : (plan : Plan) (p key n : ℕ) → put_count plan p key (event_count plan p) ≡ 0 → stored plan p key n ≡ None
never_put_stored plan p key n h = none_or_some _ (λ s. true≢false (sym (stored_own plan p key n s) ∙ ap is_some (never_put plan p key n h)))

-- a key that is never stored
pub never_stored : (plan : Plan) (p key n : ℕ) → stored plan p key (event_count plan p) ≡ None → stored plan p key n ≡ None
never_stored plan p key n h =
    none_always (stored plan p key) (event_count plan p) (stored_stays plan p key) (λ m le. ap (stored_with (own plan p key m) (stored plan p key m)) (event_past plan p m le)) h n

pub no_store : (plan : Plan) (p key : ℕ) → stored plan p key (event_count plan p) ≡ None → (x : Event) → x.proc ≡ p → Stores plan x key → ⊥
no_store plan p key h x e s =
    true≢false (sym s.something_after ∙ ap is_some (subst (λ q. stored plan q key (suc x.at) ≡ None) (sym e) (never_stored plan p key (suc x.at) h)))

-- whether an event is before another, if there is one
abbrev pub is_before : Option ℕ → ℕ → Bool
is_before None n = false
is_before (Some k) n = nat_lt k n

-- a key is put exactly after its first put
pub put_exactly : (plan : Plan) (p key i n : ℕ) → IsFirstPut plan (record { proc = p; at = i }) key → is_some (own plan p key n) ≡ nat_lt i n
put_exactly plan p key i n first = elim (cases_lt i n) [
  | inl lt ↦ own_stays (kind_at plan p) key (suc i) n (omega (arith, lt)) (ap is_some (own_here (kind_at plan p) key i first.scope first.is)) ∙ sym (lt-ltb i n lt)
  | inr ge ↦ ap is_some (none_or_some _ (λ s. true≢false (sym (own_stays (kind_at plan p) key n i ge s) ∙ ap is_some first.first))) ∙ sym (le-ltb i n ge)
]

-- and stored exactly after its store
pub stored_exactly : (plan : Plan) (p key n : ℕ) (o : Option ℕ) → IsStore plan p key o → is_some (stored plan p key n) ≡ is_before o n
stored_exactly plan p key n None h = ap is_some (never_stored plan p key n h)
stored_exactly plan p key n (Some c) h = elim (cases_lt c n) [
  | inl lt ↦ stored_stays plan p key (suc c) n (omega (arith, lt)) h.something_after ∙ sym (lt-ltb c n lt)
  | inr ge ↦ ap is_some (none_or_some _ (λ s. true≢false (sym (stored_stays plan p key n c ge s) ∙ ap is_some h.nothing_before))) ∙ sym (le-ltb c n ge)
]

pub stored_at_all : (plan : Plan) (p key : ℕ) (o : Option ℕ) → IsStore plan p key o → is_some (stored plan p key (event_count plan p)) ≡ is_some o
stored_at_all plan p key None h = ap is_some h
stored_at_all plan p key (Some c) h = elim (cases_lt c (event_count plan p)) [
  | inl lt ↦ stored_stays plan p key (suc c) (event_count plan p) (omega (arith, lt)) h.something_after
  | inr ge ↦ absurd (true≢false (sym h.something_after ∙ ap is_some (ap (stored_with (own plan p key c) (stored plan p key c)) (event_past plan p c ge) ∙ h.nothing_before)))
]

-- the last put is a put of the key
record IsPutAt (plan : Plan) (p key put : ℕ) : Type 0 where
  pub scope : Scope
  pub is : kind_at plan p put ≡ Some (Put key scope)

own_with_put : (plan : Plan) (p key n put : ℕ) (o : Option ℕ) (e : Option Kind) → kind_at plan p n ≡ e → (o ≡ Some put → IsPutAt plan p key put) → own_with key n o e ≡ Some put →
    IsPutAt plan p key put
own_with_put plan p key n put o (Some (Put k scope)) is ih =
    cond_both (k == key) (Some n) o (λ v. v ≡ Some put → IsPutAt plan p key put)
    (λ t h. record { scope = scope; is = ap (kind_at plan p) (sym (same_Some n put h)) ∙ is ∙ ap (λ q. Some (Put q scope)) (eqb-true k key t) })
    (λ f h. ih h)
own_with_put plan p key n put o _ is ih = ih

own_is_put : (plan : Plan) (p key n put : ℕ) → own plan p key n ≡ Some put → IsPutAt plan p key put
own_is_put plan p key zero put h = absurd (true≢false (sym (ap is_some h)))
own_is_put plan p key (suc n) put h = own_with_put plan p key n put (own plan p key n) (kind_at plan p n) refl (own_is_put plan p key n put) h

stored_with_put : (plan : Plan) (p key n put : ℕ) (e : Option Kind) → (stored plan p key n ≡ Some put → IsPutAt plan p key put) → stored_with (own plan p key n) (stored plan p key n) e ≡ Some put →
    IsPutAt plan p key put
stored_with_put plan p key n put (Some Commit) ih h = own_is_put plan p key n put h
stored_with_put plan p key n put _ ih h = ih h

stored_is_put : (plan : Plan) (p key n put : ℕ) → stored plan p key n ≡ Some put → IsPutAt plan p key put
stored_is_put plan p key zero put h = absurd (true≢false (sym (ap is_some h)))
stored_is_put plan p key (suc n) put h = stored_with_put plan p key n put (kind_at plan p n) (stored_is_put plan p key n put) h

-- of a key that is put once each put is the first
once_first : (plan : Plan) (p key i put : ℕ) → IsPutOnce plan p key → IsFirstPut plan (record { proc = p; at = i }) key → IsPutAt plan p key put → put ≡ i
once_first plan p key i put once first at = elim (cases_lt put i) [
  | inl lt ↦ absurd (true≢false (sym (own_stays (kind_at plan p) key (suc put) i (omega (arith, lt)) (ap is_some (own_here (kind_at plan p) key put at.scope at.is))) ∙ ap is_some first.first))
  | inr ge ↦ elim (cases_eq put i) [
    | inl e ↦ e
    | inr ne ↦
        let within = event_within plan p put _ at.is in
        let one = count_same (kind_at plan p) key i first.scope first.is in
        let two = count_same (kind_at plan p) key put at.scope at.is in
        let up = counts_rise (kind_at plan p) key (suc i) put (omega (arith, ge, ne)) in
        let end = counts_rise (kind_at plan p) key (suc put) (event_count plan p) (omega (arith, within)) in
        absurd (omega (arith, one, two, up, end, once))
  ]
]

-- of a key that is put once the owner, and its server, have that put
pub own_first : (plan : Plan) (p key i n put : ℕ) → IsPutOnce plan p key → IsFirstPut plan (record { proc = p; at = i }) key → own plan p key n ≡ Some put → put ≡ i
own_first plan p key i n put once first h = once_first plan p key i put once first (own_is_put plan p key n put h)

pub stored_first : (plan : Plan) (p key i n put : ℕ) → IsPutOnce plan p key → IsFirstPut plan (record { proc = p; at = i }) key → stored plan p key n ≡ Some put → put ≡ i
stored_first plan p key i n put once first h = once_first plan p key i put once first (stored_is_put plan p key n put h)

some_is : {A : Type 0} (o : Option A) → is_some o ≡ true → (a : A) × (o ≡ Some a)
some_is None h = absurd (true≢false (sym h))
some_is (Some a) h = (a, refl)

-- a stored key, put once, goes to other nodes where the scope of the put admits them
pub sent_where : (plan : Plan) (p key at : ℕ) (row : KeyRow) → IsPutOnce plan p key → IsRowOf plan p key row → admits row.scope false ≡ true → is_some (stored plan p key at) ≡ true →
    IsSent plan p key at
sent_where plan p key at row once r admitted some =
    let found = some_is (stored plan p key at) some in
    let same = stored_first plan p key row.first at found.0 once r.first found.1 in
    record { put = found.0; committed = found.1; admitted = ap (λ i. admits (scope_of plan p i) false) same ∙ ap (λ s. admits s false) r.scope ∙ admitted }

pub sent_admits : (plan : Plan) (p key at : ℕ) (row : KeyRow) → IsPutOnce plan p key → IsRowOf plan p key row → IsSent plan p key at → admits row.scope false ≡ true
sent_admits plan p key at row once r sent =
    let same = stored_first plan p key row.first at sent.put once r.first sent.committed in
    ap (λ s. admits s false) (sym r.scope) ∙ ap (λ i. admits (scope_of plan p i) false) (sym same) ∙ sent.admitted

pub sent_stored : (plan : Plan) (p key at : ℕ) → IsSent plan p key at → is_some (stored plan p key at) ≡ true
sent_stored plan p key at sent = ap is_some sent.committed

-- so exactly after the commit that stores it
pub sent_by_store : (plan : Plan) (p key : ℕ) (row : KeyRow) → IsPutOnce plan p key → IsRowOf plan p key row → admits row.scope false ≡ true → (o : Option ℕ) → IsStore plan p key o →
    IsSentAfter plan p key o
sent_by_store plan p key row once r admitted None store = λ at sent. true≢false (sym (sent_stored plan p key at sent) ∙ stored_exactly plan p key at None store)
sent_by_store plan p key row once r admitted (Some c) store = λ at. (
  λ sent. ltb-true c at (sym (stored_exactly plan p key at (Some c) store) ∙ sent_stored plan p key at sent),
  λ lt. sent_where plan p key at row once r admitted (stored_exactly plan p key at (Some c) store ∙ lt-ltb c at lt),
)

-- the commit that stores a key put once
pub feeds_where : (plan : Plan) (owner : Proc) (key count : ℕ) (o : Option CodeEvent) → count ≡ put_count plan owner.number key (event_count plan owner.number) → count ≡ 1 →
    MatchOption o ((x : Event) → x.proc ≡ owner.number → Stores plan x key → ⊥) (λ x. (x.proc ≡ owner) × Stores plan (event_of x) key) →
    MatchOption o ((x : Event) → x.proc ≡ owner.number → IsPutOnce plan owner.number key → Stores plan x key → ⊥)
    (λ x. (x.proc ≡ owner) × IsPutOnce plan owner.number key × Stores plan (event_of x) key)
feeds_where plan owner key count None is one h = λ x same once. h x same
feeds_where plan owner key count (Some at) is one h = (h.0, sym is ∙ one, h.1)

pub or_from : (a b r : Bool) → r ≡ true → r ≡ a → r ≡ (a || b)
or_from true b r t e = e
or_from false b r t e = absurd (true≢false (sym t ∙ e))

not_later : (plan : Plan) (x y : Event) (key : ℕ) → x.proc ≡ y.proc → Stores plan x key → Stores plan y key → x.at < y.at → ⊥
not_later plan x y key e sx sy lt =
    let some : is_some (stored plan y.proc key (suc x.at)) ≡ true = subst (λ q. is_some (stored plan q key (suc x.at)) ≡ true) e sx.something_after in
    true≢false (sym (stored_stays plan y.proc key (suc x.at) y.at (omega (arith, lt)) some) ∙ ap is_some sy.nothing_before)

-- only one event stores a process's key first
pub stores_once : (plan : Plan) (x y : Event) (key : ℕ) → x.proc ≡ y.proc → Stores plan x key → Stores plan y key → x ≡ y
stores_once plan x y key e sx sy =
    place_path x y.proc y.at e (elim (cases_lt x.at y.at) [
      | inl lt ↦ absurd (not_later plan x y key e sx sy lt)
      | inr ge ↦ elim (cases_eq x.at y.at) [ inl same ↦ same | inr ne ↦ absurd (not_later plan y x key (sym e) sy sx (omega (arith, ge, ne))) ]
    ])

-- What the puts and the commits of a key's owner tell.
use Rattle.std.proofs.Common.{◌≡◌, ℕ, suc, ◌≤◌, inl, inr, Bool, true, Option, Some, None, is_some, refl, sym, ap, ◌∙◌, subst, arith}
use Rattle.std.proofs.lemmas.Bool.{cases_eq, cases_lt, true≢false}
use Rattle.wire_types.specs.declared.Event.{Event as CodeEvent}
use Rattle.wire_runs.specs.Plan.{Plan, Event, kind_at, event_of, event_count, admits}
use Rattle.wire_runs.specs.Puts.{stored, scope_of, put_count}
use Rattle.wire_runs.specs.Order.{Stores, Live}
use Rattle.wire_plan.specs.Index.{IsFirstPut}
use Rattle.wire_runs.proofs.Basics.{event_within, stores_commit, stored_stays}
use Rattle.wire_runs.proofs.Puts.{first_stores}
use Rattle.wire_runs.proofs.Arrivals.{stored_is_put}
use Rattle.wire_runs.proofs.Histories.{before_live, same_process}
use Rattle.wire_plan.proofs.KeyRows.{own_stays, own_here, none_or_some}
use Rattle.wire_plan.proofs.KeyFacts.{never_put_stored}
use Rattle.wire_library_laws.specs.Portable.{Lacks, Lacked, IsFor, IsThereFirst, EndsFirst}
use Rattle.wire_portable.specs.Commits.{IsLiveCommit, IsLastOf, IsCommitBelow}
use Rattle.wire_portable.specs.Judging.{NoRewrites, AreFor}

pub last_same : (a b : Event → Type 0) (found : Option CodeEvent) → ((c : Event) → a c → b c) → ((c : Event) → b c → a c) → IsLastOf a found → IsLastOf b found
last_same a b None there back h = λ c t. h c (back c t)
last_same a b (Some e) there back h = (there (event_of e) h.0, (λ c t. h.1 c (back c t)))

-- a key that isn't there wasn't there before
pub missing_before : (plan : Plan) (p key m n : ℕ) → m ≤ n → stored plan p key n ≡ None → stored plan p key m ≡ None
missing_before plan p key m n le none = none_or_some _ (λ s. true≢false (sym (stored_stays plan p key m n le s) ∙ ap is_some none))

-- what is there isn't missing
pub there_missing : (plan : Plan) (p key n : ℕ) → is_some (stored plan p key n) ≡ true → stored plan p key n ≡ None → ⊥
there_missing plan p key n some none = true≢false (sym some ∙ ap is_some none)

module _ (plan : Plan) (p key : ℕ) where
  lacking_commit : (c : Event) → Lacks plan p key c → IsLiveCommit plan p c
  lacking_commit c l = record { is = l.is; its = l.its; is_live = l.is_live }

  module _ (x : Event) (its : x.proc ≡ p) (stores : Stores plan x key) where
    not_there : stored plan p key x.at ≡ None
    not_there = subst (λ q. stored plan q key x.at ≡ None) its stores.nothing_before

    there_after : is_some (stored plan p key (suc x.at)) ≡ true
    there_after = subst (λ q. is_some (stored plan q key (suc x.at)) ≡ true) its stores.something_after

    -- the commits that lack the key are those before the one that stores it
    pub below_lacks : (c : Event) → IsCommitBelow plan p x.at c → Lacks plan p key c
    below_lacks c b = record { is = b.0.is; its = b.0.its; is_live = b.0.is_live; missing = missing_before plan p key (suc c.at) x.at (let lt = b.1 in omega (arith, lt)) not_there }

    pub lacks_below : (c : Event) → Lacks plan p key c → IsCommitBelow plan p x.at c
    lacks_below c l = (
      lacking_commit c l,
      elim (cases_lt c.at x.at) [
        | inl lt ↦ lt
        | inr ge ↦ absurd (there_missing plan p key (suc c.at) (stored_stays plan p key (suc x.at) (suc c.at) (omega (arith, ge)) there_after) l.missing)
      ],
    )

    -- the storing commit is the last that lacked the key
    pub store_lacked : Live plan x → Lacked plan p key x
    store_lacked l = record { is = stores_commit plan x key stores; its = its; is_live = l; missing = not_there }

    pub lacked_upto : (c : Event) → Lacked plan p key c → c.at ≤ x.at
    lacked_upto c l = elim (cases_lt x.at c.at) [
      | inl lt ↦ absurd (there_missing plan p key c.at (stored_stays plan p key (suc x.at) c.at lt there_after) l.missing)
      | inr ge ↦ ge
    ]

    -- a store that ends first makes the key be there
    pub there_first : (g : Event) → EndsFirst plan x g → IsThereFirst plan p key g
    there_first g first = record { event = x; its = its; there = there_after; first = first }

  module _ (never : (x : Event) → x.proc ≡ p → Stores plan x key → ⊥) where
    pub never_there : (n : ℕ) → stored plan p key n ≡ None
    never_there n = none_or_some _ (λ s. let f = first_stores plan p key n s in never (record { proc = p; at = f.0 }) refl f.2)

    -- where nothing stores it, all lack it
    pub all_lack : (c : Event) → IsCommitBelow plan p (event_count plan p) c → Lacks plan p key c
    all_lack c b = record { is = b.0.is; its = b.0.its; is_live = b.0.is_live; missing = never_there (suc c.at) }

    pub lacks_all : (c : Event) → Lacks plan p key c → IsCommitBelow plan p (event_count plan p) c
    lacks_all c l = (lacking_commit c l, (let within = event_within plan c.proc c.at _ l.is in let same : event_count plan c.proc ≡ event_count plan p = ap (event_count plan) l.its in omega (arith, within, same)))

  pub lacks_lacked : (c : Event) → Lacks plan p key c → Lacked plan p key c
  lacks_lacked c l = record { is = l.is; its = l.its; is_live = l.is_live; missing = missing_before plan p key c.at (suc c.at) (omega arith) l.missing }

  -- where no live commit stores the key, those that lacked it lack it
  pub lacked_lacks : ((x : Event) → x.proc ≡ p → Stores plan x key → Live plan x → ⊥) → (c : Event) → Lacked plan p key c → Lacks plan p key c
  lacked_lacks never c l = record {
    is = l.is;
    its = l.its;
    is_live = l.is_live;
    missing = none_or_some _ (λ s. never c l.its
        (record { nothing_before = subst (λ q. stored plan q key c.at ≡ None) (sym l.its) l.missing; something_after = subst (λ q. is_some (stored plan q key (suc c.at)) ≡ true) (sym l.its) s })
        l.is_live);
  }

  -- where no live commit stores it, it never comes
  pub none_for : (near : Bool) → ((x : Event) → x.proc ≡ p → Stores plan x key → Live plan x → ⊥) → IsFor plan p key near
  none_for near never event u its lives is =
      let f = first_stores plan p key (suc event.at) (ap is_some is) in
      let x : Event = record { proc = p; at = f.0 } in
      let lt = f.1 in
      absurd (never x refl f.2 (elim (cases_eq f.0 event.at) [
        | inl e ↦ subst (Live plan) (λ t. record { proc = its t; at = sym e t }) lives
        | inr ne ↦ before_live (same_process plan x event lives (sym its) (omega (arith, lt, ne)))
      ]))

  pub some_for : (near is : Bool) → is ≡ true → AreFor plan p key near is → IsFor plan p key near
  some_for near is e are event u its lives h = are (suc event.at) u h ∙ e

  -- a key that is never put is for all
  pub never_put : (near is : Bool) → put_count plan p key (event_count plan p) ≡ 0 → AreFor plan p key near is
  never_put near is none n u h = absurd (true≢false (sym (ap is_some h) ∙ ap is_some (never_put_stored plan p key n none)))

  -- without rewrites what is stored is the first put
  pub first_is_stored : NoRewrites plan → (i n u : ℕ) → IsFirstPut plan (record { proc = p; at = i }) key → stored plan p key n ≡ Some u → u ≡ i
  first_is_stored once i n u first h =
      let put = stored_is_put plan p key n u h in
      elim (cases_lt i u) [
        | inl lt ↦ absurd (once (record { proc = p; at = i }) (record { proc = p; at = u })
            (record { key = key; first_scope = first.scope; later_scope = put.0; first_is = first.is; later_is = put.1; first = first.first; same = refl; later = lt }))
        | inr ge ↦ elim (cases_eq u i) [
          | inl e ↦ e
          | inr ne ↦ absurd (true≢false (sym (own_stays (kind_at plan p) key (suc u) i (omega (arith, ge, ne)) (ap is_some (own_here (kind_at plan p) key u put.0 put.1))) ∙ ap is_some first.first))
        ]
      ]

  pub put_for : (i : ℕ) (near is : Bool) → NoRewrites plan → IsFirstPut plan (record { proc = p; at = i }) key → is ≡ admits (scope_of plan p i) near → AreFor plan p key near is
  put_for i near is once first e n u h = ap (λ k. admits (scope_of plan p k) near) (first_is_stored once i n u first h) ∙ sym e

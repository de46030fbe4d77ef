-- The commit or the publish that an event waits for.
use Rattle.std.proofs.Common.{◌≡◌, ◌≢◌, ◌∙◌, ap, sym, subst, refl, ℕ, List, Bool, true, false, Option, Some, None, MatchOption}
use Rattle.std.specs.Prelude.{option_map}
use Rattle.std.proofs.lemmas.Bool.{true≢false}
use Rattle.std.proofs.lemmas.Option.{same_Some}
use Rattle.wire_runs.specs.Plan.{Plan, Event, Kind, Get, LookupWait, kind, event_of}
use Rattle.wire_types.specs.declared.Event.{Event as CodeEvent}
use Rattle.wire_types.specs.declared.Proc.{Proc}
use Rattle.wire_plan.specs.declared.kind.Kind.{Kind as CodeKind}
use Rattle.wire_plan.specs.declared.kind.Kind.TheVariants as code
use Rattle.wire_plan.specs.Kinds.{kind_of}
use Rattle.wire_runs.specs.Order.{Stores, PublishesOnce}
use Rattle.wire_runs.specs.Races.{IsPutOnce}
use Rattle.wire_plan.specs.Index.{AwaitsOnly, AwaitsCommit, AwaitsPublish, FindsAwaited}
use Rattle.wire_plan.proofs.KeyFacts.{stores_once}

-- all that is awaited, from what a get awaits and what a waiting lookup does
all_awaited : (plan : Plan) (y : Event) (found : Option Event) → ((z : Event) (key : ℕ) → kind plan y ≡ Some (Get z.proc key) → z.proc ≢ y.proc → IsPutOnce plan z.proc key → Stores plan z key →
    found ≡ Some z)
    → ((z : Event) (name : ℕ) → kind plan y ≡ Some (LookupWait name) → PublishesOnce plan z name → found ≡ Some z) → (z : Event) → AwaitsOnly plan y z → found ≡ Some z
all_awaited plan y found stored published z (AwaitsCommit key is other once stores) = stored z key is other once stores
all_awaited plan y found stored published z (AwaitsPublish name is once) = published z name is once

-- an event that is no get of another process's key and no waiting lookup waits for neither
nothing_awaited : (plan : Plan) (y : Event) → ((z : Event) (key : ℕ) → kind plan y ≡ Some (Get z.proc key) → z.proc ≢ y.proc → ⊥) → ((name : ℕ) → kind plan y ≡ Some (LookupWait name) → ⊥) →
    FindsAwaited plan y None
nothing_awaited plan y no_get no_lookup = record {
  only = λ z is. absurd (cc);
  all = all_awaited plan y None (λ z key is other once stores. absurd (no_get z key is other)) (λ z name is once. absurd (no_lookup name is));
}

-- nor does a get of a key of one's own
pub own_key : (plan : Plan) (y : Event) (owner key : ℕ) → kind plan y ≡ Some (Get owner key) → owner ≡ y.proc → FindsAwaited plan y None
own_key plan y owner key is own = nothing_awaited plan y
    (λ z other_key other_is other. let same : Get owner key ≡ Get z.proc other_key = same_Some _ _ (sym is ∙ other_is) in let its : owner ≡ z.proc = cc in other (sym its ∙ own))
    (λ name other_is. let same : Get owner key ≡ LookupWait name = same_Some _ _ (sym is ∙ other_is) in cc)

-- nor an event of another kind
abbrev may_wait : Kind → Bool
may_wait (Get owner key) = true
may_wait (LookupWait name) = true
may_wait _ = false

never_waits : (sets : List (List ℕ)) (k : CodeKind) → ((owner : Proc) (key : ℕ) → k ≡ code.Get owner key → ⊥) → ((name : ℕ) → k ≡ code.LookupWait name → ⊥) → may_wait (kind_of sets k) ≡ false
never_waits sets (code.Get owner key) no_get no_lookup = absurd (no_get owner key refl)
never_waits sets (code.LookupWait name) no_get no_lookup = absurd (no_lookup name refl)
never_waits sets _ no_get no_lookup = refl

pub awaits_other : (plan : Plan) (y : Event) (sets : List (List ℕ)) (k : CodeKind) → kind plan y ≡ Some (kind_of sets k) → ((owner : Proc) (key : ℕ) → k ≡ code.Get owner key → ⊥) →
    ((name : ℕ) → k ≡ code.LookupWait name → ⊥) → FindsAwaited plan y None
awaits_other plan y sets k is no_get no_lookup = nothing_awaited plan y
    (λ z key other_is other. true≢false (ap may_wait (same_Some _ _ (sym other_is ∙ is)) ∙ never_waits sets k no_get no_lookup))
    (λ name other_is. true≢false (ap may_wait (same_Some _ _ (sym other_is ∙ is)) ∙ never_waits sets k no_get no_lookup))

-- a get of another process's key waits for the commit that stores it, where it is put once
pub key_of_other : (plan : Plan) (y : Event) (owner : Proc) (key : ℕ) (found : Option CodeEvent) → kind plan y ≡ Some (Get owner.number key) → owner.number ≢ y.proc
    → MatchOption found ((x : Event) → x.proc ≡ owner.number → IsPutOnce plan owner.number key → Stores plan x key → ⊥)
    (λ x. (x.proc ≡ owner) × IsPutOnce plan owner.number key × Stores plan (event_of x) key)
    → FindsAwaited plan y (option_map event_of found)
key_of_other plan y owner key None is other none = record {
  only = λ z at. absurd (cc);
  all = all_awaited plan y None
      (λ z k at differs once stores.
      let same : Get owner.number key ≡ Get z.proc k = same_Some _ _ (sym is ∙ at) in
      let its : owner.number ≡ z.proc = cc in
      let k_is : key ≡ k = cc in
      absurd (none z (sym its) (subst (λ p. IsPutOnce plan p key) (sym its) (subst (λ n. IsPutOnce plan z.proc n) (sym k_is) once)) (subst (λ n. Stores plan z n) (sym k_is) stores)))
      (λ z name at once. let same : Get owner.number key ≡ LookupWait name = same_Some _ _ (sym is ∙ at) in absurd (cc));
}
key_of_other plan y owner key (Some x) is other (whose, once_put, stored_there) = record {
  only = λ z at.
      let here : event_of x ≡ z = same_Some _ _ at in
      let its : x.proc.number ≡ owner.number = ap (λ p. p.number) whose in
      subst (λ w. AwaitsOnly plan y w) here (AwaitsCommit key (is ∙ ap (λ p. Some (Get p key)) (sym its)) (λ e. other (sym its ∙ e)) (subst (λ p. IsPutOnce plan p key) (sym its) once_put) stored_there);
  all = all_awaited plan y (Some (event_of x))
      (λ z k at differs once stores.
      let same : Get owner.number key ≡ Get z.proc k = same_Some _ _ (sym is ∙ at) in
      let its : owner.number ≡ z.proc = cc in
      let k_is : key ≡ k = cc in
      ap Some (stores_once plan (event_of x) z key (ap (λ p. p.number) whose ∙ its) stored_there (subst (λ n. Stores plan z n) (sym k_is) stores)))
      (λ z name at once. let same : Get owner.number key ≡ LookupWait name = same_Some _ _ (sym is ∙ at) in absurd (cc));
}

-- a waiting lookup waits for the publish of a name that is published once
pub once_name : (plan : Plan) (y : Event) (name : ℕ) (found : Option CodeEvent) → kind plan y ≡ Some (LookupWait name)
    → MatchOption found ((x : Event) → PublishesOnce plan x name → ⊥) (λ x. PublishesOnce plan (event_of x) name)
    → FindsAwaited plan y (option_map event_of found)
once_name plan y name None is none = record {
  only = λ z at. absurd (cc);
  all = all_awaited plan y None
      (λ z key at other once stores. let same : LookupWait name ≡ Get z.proc key = same_Some _ _ (sym is ∙ at) in absurd (cc))
      (λ z n at once.
      let same : LookupWait name ≡ LookupWait n = same_Some _ _ (sym is ∙ at) in
      let n_is : name ≡ n = cc in
      absurd (none z (subst (PublishesOnce plan z) (sym n_is) once)));
}
once_name plan y name (Some x) is published = record {
  only = λ z at. let here : event_of x ≡ z = same_Some _ _ at in subst (λ w. AwaitsOnly plan y w) here (AwaitsPublish name is published);
  all = all_awaited plan y (Some (event_of x))
      (λ z key at other once stores. let same : LookupWait name ≡ Get z.proc key = same_Some _ _ (sym is ∙ at) in absurd (cc))
      (λ z n at once.
      let same : LookupWait name ≡ LookupWait n = same_Some _ _ (sym is ∙ at) in
      let n_is : name ≡ n = cc in
      ap Some (sym (published.only z ((subst (PublishesOnce plan z) (sym n_is) once).is))));
}

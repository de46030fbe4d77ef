-- A put that its process hasn't put before puts no key again.
use Rattle.std.proofs.Common.{◌≡◌, ℕ, suc, ◌≤◌, Some, true, is_some, sym, ap, ◌∙◌, subst, arith}
use Rattle.std.proofs.lemmas.Bool.{true≢false, le-ltb}
use Rattle.std.proofs.lemmas.Option.{same_Some}
use Rattle.wire_types.specs.declared.Scope.{Scope}
use Rattle.wire_runs.specs.Plan.{Plan, Event, Kind, Put, kind, kind_at, event_count}
use Rattle.wire_runs.specs.Puts.{own, put_count}
use Rattle.wire_runs.specs.Races.{IsRewrite}
use Rattle.wire_plan.specs.Index.{IsFirstPut}
use Rattle.wire_plan.proofs.KeyRows.{own_here}
use Rattle.wire_plan.proofs.KeyFacts.{put_exactly, never_put}
use Rattle.wire_portable.specs.Judging.{IsNoRewrite}

abbrev key_in : Kind → ℕ
key_in (Put key scope) = key
key_in _ = 0

module _ (plan : Plan) (y : Event) (key : ℕ) (scope : Scope) (is : kind plan y ≡ Some (Put key scope)) where
  -- the put that is put again is one of the same key
  put_first : (x : Event) → IsRewrite plan x y → is_some (own plan y.proc key (suc x.at)) ≡ true
  put_first x r =
      let same : r.key ≡ key = ap key_in (same_Some _ _ (sym r.later_is ∙ is)) in
      subst (λ p. is_some (own plan p key (suc x.at)) ≡ true) r.same
      (subst (λ k. is_some (own plan x.proc k (suc x.at)) ≡ true) same (ap is_some (own_here (kind_at plan x.proc) r.key x.at r.first_scope r.first_is)))

  pub first_put : (f : ℕ) → IsFirstPut plan (record { proc = y.proc; at = f }) key → y.at ≤ f → IsNoRewrite plan y
  first_put f first le x r =
      let later = r.later in
      true≢false (sym (put_first x r) ∙ put_exactly plan y.proc key f (suc x.at) first ∙ le-ltb f (suc x.at) (omega (arith, later, le)))

  pub no_put : put_count plan y.proc key (event_count plan y.proc) ≡ 0 → IsNoRewrite plan y
  no_put none x r = true≢false (sym (put_first x r) ∙ ap is_some (never_put plan y.proc key (suc x.at) none))

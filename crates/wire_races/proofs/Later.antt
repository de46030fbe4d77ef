-- Rewrites, told by first puts.
use Rattle.std.proofs.Common.{◌≡◌, ◌∙◌, ap, sym, subst, ℕ, suc, ◌<◌, ◌≤◌, List, Some, arith, is_some}
use Rattle.std.proofs.lemmas.Bool.{true≢false}
use Rattle.wire_runs.specs.Plan.{Plan, Event, Put, kind, kind_at, event_count, process_count}
use Rattle.wire_runs.specs.Puts.{put_count}
use Rattle.wire_types.specs.declared.Scope.{Scope}
use Rattle.wire_types.specs.declared.CallAt.{CallAt}
use Rattle.wire_runs.specs.Findings.{Finding, Rewrite, IsFound}
use Rattle.wire_findings.specs.declared.finding.Finding.{Finding as Told}
use Rattle.wire_runs.specs.Findings as told
use Rattle.wire_runs.specs.Ends.{call_of, first_event}
use Rattle.wire_plan.specs.Index.{IsFirstPut}
use Rattle.wire_runs.specs.Races.{IsRewrite}
use Rattle.wire_runs.proofs.Basics.{event_within, process_within}
use Rattle.wire_plan.proofs.KeyFacts.{never_put}
use Rattle.wire_plan.proofs.KeyRows.{own_here}
use Rattle.wire_findings.specs.Collected.{AreFound, IsFindingAdded}
use Rattle.wire_races.specs.FindingKinds.{IsOfRewrite}
use Rattle.wire_races.specs.Adding.{AddsFindings, OfKind}
use Rattle.wire_races.specs.Rewriting.{IsRewriteBy}
use Rattle.wire_races.proofs.Growing.{adds_one, adds_none}
use Rattle.wire_findings.proofs.Calls.{low_starts, high_starts, starts_back}
use Rattle.wire_findings.proofs.Told.{put_key, first_once, one_first}

first_of : (plan : Plan) (x y : Event) (p : ℕ) (r : IsRewrite plan x y) → x.proc ≡ p → IsFirstPut plan (record { proc = p; at = x.at }) r.key
first_of plan x y p r same =
    subst (λ q. IsFirstPut plan (record { proc = q; at = x.at }) r.key) same (record { scope = r.first_scope; is = r.first_is; first = r.first })

module _ (plan : Plan) (y : Event) (key : ℕ) (scope : Scope) (is : kind plan y ≡ Some (Put key scope)) where
  -- its key is put
  pub never_first : put_count plan y.proc key (event_count plan y.proc) ≡ 0 → (x : Event) → IsRewrite plan x y → ⊥
  never_first zero_puts x r =
      true≢false (sym (ap is_some (own_here (kind_at plan y.proc) key y.at scope is)) ∙ ap is_some (never_put plan y.proc key (suc y.at) zero_puts))

  -- the first put isn't before it
  pub is_first : (first : ℕ) → IsFirstPut plan (record { proc = y.proc; at = first }) key → y.at ≤ first → (x : Event) → IsRewrite plan x y → ⊥
  is_first first f le x r =
      let k : r.key ≡ key = ap put_key (sym r.later_is ∙ is) in
      let same = first_once plan y.proc key x.at first (subst (IsFirstPut plan (record { proc = y.proc; at = x.at })) k (first_of plan x y y.proc r r.same)) f in
      let lt = r.later in
      omega (arith, same, lt, le)

-- both puts are whole calls
pub first_stands : (plan : Plan) (x y : Event) → IsRewrite plan x y → first_event plan (call_of plan x) ≡ x
first_stands plan x y r = starts_back plan x (low_starts plan (Rewrite x y) r)

pub later_stands : (plan : Plan) (x y : Event) → IsRewrite plan x y → first_event plan (call_of plan y) ≡ y
later_stands plan x y r = starts_back plan y (high_starts plan (Rewrite x y) r)

-- rewrites stand among the events
pub rewrite_within : (plan : Plan) (y : Event) (f : Finding) → IsRewriteBy plan y f → y.at < event_count plan y.proc
rewrite_within plan y f t = event_within plan y.proc y.at _ t.1.later_is

pub rewrite_below : (plan : Plan) (y : Event) (f : Finding) → IsRewriteBy plan y f → y.proc < process_count plan
rewrite_below plan y f t = process_within plan y.proc y.at _ t.1.later_is

pub rewrite_told : (plan : Plan) (y : Event) (f : Finding) → IsRewriteBy plan y f → OfKind plan IsOfRewrite f
rewrite_told plan y f t = ((t.0, y, t.2), subst (IsFound plan) (sym t.2) t.1)

pub rewrite_by : (plan : Plan) (f : Finding) → OfKind plan IsOfRewrite f → (y : Event) × IsRewriteBy plan y f
rewrite_by plan f k = (k.0.1, (k.0.0, subst (IsFound plan) k.0.2 k.1, k.0.2))

-- the finding is added
pub adds_rewrite : (plan : Plan) (old new : List Told) (x y : Event) (g : Finding) → IsRewrite plan x y → g ≡ Rewrite x y → AreFound plan old → IsFindingAdded plan old new g →
    AddsFindings plan old new (IsRewriteBy plan y)
adds_rewrite plan old new x y g r is are told =
    adds_one plan old new (IsRewriteBy plan y) g are (subst (IsFound plan) (sym is) r) told (x, r, is)
    (λ f t. t.2 ∙ ap (λ z. Rewrite z y) (one_first plan t.0 x y t.1 r) ∙ sym is)

pub adds_no_rewrite : (plan : Plan) (found : List Told) (y : Event) → ((x : Event) → IsRewrite plan x y → ⊥) → AreFound plan found → AddsFindings plan found found (IsRewriteBy plan y)
adds_no_rewrite plan found y never are = adds_none plan found (IsRewriteBy plan y) are (λ f t. never t.0 t.1)

-- how it is shown
pub shown_rewrite : (plan : Plan) (x y : Event) (a b : CallAt) → a ≡ call_of plan x → b ≡ call_of plan y → IsRewrite plan x y → told.Rewrite (first_event plan a) (first_event plan b) ≡ Rewrite x y
shown_rewrite plan x y a b first later r =
    ap (λ c. told.Rewrite (first_event plan c) (first_event plan b)) first
    ∙ ap (λ c. told.Rewrite (first_event plan (call_of plan x)) (first_event plan c)) later
    ∙ ap (λ z. Rewrite z (first_event plan (call_of plan y))) (first_stands plan x y r)
    ∙ ap (Rewrite x) (later_stands plan x y r)

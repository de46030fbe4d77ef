use Rattle.std.proofs.Common.{◌≡◌, ◌∙◌, ◌+◌, sym, subst, arith}
use Rattle.std.proofs.lemmas.List.Filters.{dedup_is}
use Rattle.std.proofs.lemmas.List.Kept.{Contains-dedup_nat, Contains-from_dedup}
use Rattle.std.proofs.lemmas.List.Sorted.{Contains-permutation, IsPermutation-sym}
use Rattle.std.proofs.lemmas.Map.Keys.{IsStrictlyIncreasing-dedup}
use Rattle.wire_runs.specs.Plan.{event_count}
use Rattle.wire_scripts.specs.Planned.{plan_of}
use Rattle.wire_races.proofs.SweepRaces.{ArePublishedBelow, IsPublished, none_published, one_published, no_published}
use Rattle.wire_races.proofs.sweep_races.names_of.Goals as goal
use Rattle.wire_races.proofs.sweep_races.names_of.Goals.{in-Some+in_ok-push, in_default}

pub loop-at-init : goal.loop-at-init
loop-at-init c =
    subst (ArePublishedBelow (plan_of c.args.plan.now) c.args.proc.number 0) (sym c.new-names.ensures.items) (none_published (plan_of c.args.plan.now) c.args.proc.number)

pub loop-at-preserved : goal.loop-at-preserved
loop-at-preserved c =
    let plan = plan_of c.args.plan.now in
    let p = c.args.proc.number in
    let n = c.loop-at.at in
    elim c.match-name_published.branch [
      | in-Some+in_ok-push w ↦
          let is = subst (IsPublished plan p n) w.in-Some.is c.name_published.ensures in
          rw w.names-is (subst (ArePublishedBelow plan p (n + 1)) (sym w.in_ok-push.ensures.items)
          (one_published plan p n (n + 1) w.in-Some.name c.loop-at.names.items (omega arith) is c.loop-at.invariant))
      | in_default w ↦
          let is = subst (IsPublished plan p n) w.in_default.is c.name_published.ensures in
          rw w.names-is (no_published plan p n (n + 1) c.loop-at.names.items (omega arith) is c.loop-at.invariant)
    ]

pub returns-clause-those : goal.returns-clause-those
returns-clause-those c =
    let plan = plan_of c.args.plan.now in
    let p = c.args.proc.number in
    let count = c.event_count-at-end.ensures in
    let last : c.loop-at.at ≡ event_count plan p = (omega arith) ∙ count in
    let all = subst (λ n. ArePublishedBelow plan p n c.loop-at.names.items) last c.loop-at.invariant in
    let is = dedup_is _ _ _ c.dedup.ensures.filtered in
    let moved = c.sort_unstable.ensures.permutation in
    λ name. (
      (λ h. (all name).0 (Contains-permutation _ _ name (IsPermutation-sym _ _ moved) (Contains-from_dedup _ _ name (rw is at h)))),
      (λ t. rw is (Contains-dedup_nat _ name (Contains-permutation _ _ name moved ((all name).1 t)))),
    )

pub returns-clause-once : goal.returns-clause-once
returns-clause-once c =
    let is = dedup_is _ _ _ c.dedup.ensures.filtered in
    rw is (IsStrictlyIncreasing-dedup _ c.sort_unstable.ensures.sorted)

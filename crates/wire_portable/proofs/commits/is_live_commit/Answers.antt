use Rattle.std.proofs.Common.{◌∙◌, ap, sym, refl, Some}
use Rattle.std.proofs.lemmas.Bool.{true≢false}
use Rattle.wire_plan.specs.Kinds.{kind_of}
use Rattle.wire_portable.proofs.Gathered.{no_commit}
use Rattle.wire_portable.proofs.commits.is_live_commit.Goals as goal

pub returns-in-Commit : goal.returns-in-Commit
returns-in-Commit c =
    let is = (rw c.plan.ensures at c.kind.ensures) ∙ ap (λ k. Some (kind_of c.args.marked.now.sets k)) c.in-Commit.is in
    ((λ t. record { is = is; its = refl; is_live = c.live.ensures.0 t }), (λ h. c.live.ensures.1 h.is_live))

pub returns-in_default : goal.returns-in_default
returns-in_default c = (
  (λ t. absurd (true≢false (sym t))),
  (λ h. absurd (no_commit c.args.marked.now.sets c.kind.result _ (rw c.plan.ensures at c.kind.ensures) c.in_default.not-Commit h.is)),
)

use Rattle.std.proofs.Common.{◌∙◌, sym, inl, inr}
use Rattle.std.proofs.lemmas.Bool.{true≢false, false_from_ne_true, not_from_true, not_from_false}
use Rattle.wire_runs.specs.Plan.{event_of}
use Rattle.wire_scripts.specs.Planned.{plan_of}
use Rattle.wire_anywhere.proofs.Surely.{not_lacking, is_lacking}
use Rattle.wire_anywhere.proofs.carriers.lacks.Goals as goal

pub returns-then-fence_brings_surely : goal.returns-then-fence_brings_surely
returns-then-fence_brings_surely c = (
  (λ t. absurd (true≢false (sym t))),
  (λ l. absurd (not_lacking (plan_of c.args.marked.now) c.args.asked.owner.number c.args.asked.key c.args.proc.number (event_of c.args.asked.get_now) c.args.asked.owner.number c.args.asked.key
      c.requires.get.is (inl (c.fence_brings_surely.ensures.0 c.if-fence_brings_surely.true)) l)),
)

pub returns : goal.returns
returns c =
    let plan = plan_of c.args.marked.now in
    let p = c.args.asked.owner.number in
    let get = event_of c.args.asked.get_now in
    let r = c.get_brings_surely.result in (
      (λ t. is_lacking plan p c.args.asked.key c.args.proc.number get c.if-proc-asked.false
          (λ s. true≢false (sym (c.fence_brings_surely.ensures.1 s) ∙ c.if-fence_brings_surely.false))
          (λ s. true≢false (sym t ∙ not_from_true r (c.get_brings_surely.ensures.1 s)))),
      (λ l. not_from_false r (false_from_ne_true r (λ t. not_lacking plan p c.args.asked.key c.args.proc.number get p c.args.asked.key c.requires.get.is
          (inr (c.get_brings_surely.ensures.0 t)) l))),
    )

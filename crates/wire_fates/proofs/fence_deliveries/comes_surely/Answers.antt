use Rattle.std.proofs.Common.{◌∙◌, refl, sym, inl, inr}
use Rattle.std.proofs.lemmas.Bool.{true≢false}
use Rattle.wire_runs.specs.Plan.{event_of}
use Rattle.wire_scripts.specs.Planned.{plan_of}
use Rattle.wire_fates.proofs.Surely.{fence_sure, get_sure, sure_either}
use Rattle.wire_fates.proofs.fence_deliveries.comes_surely.Goals as goal

pub returns-then-fence_comes_surely : goal.returns-then-fence_comes_surely
returns-then-fence_comes_surely c =
    let plan = plan_of c.args.marked.now in (
      (λ t. fence_sure plan (event_of c.args.asked.get_now) c.args.asked.owner.number c.args.asked.key c.args.node (c.fence_comes_surely.ensures.0 c.if-fence_comes_surely.true)),
      (λ s. refl),
    )

pub returns : goal.returns
returns c =
    let plan = plan_of c.args.marked.now in
    let get = event_of c.args.asked.get_now in
    let p = c.args.asked.owner.number in (
      (λ t. get_sure plan get p c.args.asked.key c.args.node (c.get_comes_surely.ensures.0 t)),
      (λ s. elim (sure_either plan get p c.args.asked.key c.args.node s) [
        | inl fence ↦ absurd (true≢false (sym (c.fence_comes_surely.ensures.1 fence) ∙ c.if-fence_comes_surely.false))
        | inr got ↦ c.get_comes_surely.ensures.1 got
      ]),
    )

use Rattle.std.proofs.Common.{◌≡◌, ◌∙◌, ◌+◌, ap, subst, arith, length, inl, inr, sym}
use Rattle.wire_scripts.specs.Planned.{plan_of}
use Rattle.wire_runs.specs.State.{start}
use Rattle.wire_runs.proofs.Lists.{slice_get_push_cases}
use Rattle.wire_core.specs.Ranks.{IsRankOf}
use Rattle.wire_core.proofs.Steps.{new_rank}
use Rattle.wire_core.proofs.running.new_ranks.Goals as goal

pub loop-number-preserved : goal.loop-number-preserved
loop-number-preserved c =
    let facts = c.in_ok-rank.ensures in
    let shown = rw (ap (λ p. p.number) c.new.ensures) at c.events.ensures in
    let new : IsRankOf (plan_of c.args.plan.now) start c.loop-number.number c.in_ok-rank.rank =
    new_rank (plan_of c.args.plan.now) c.loop-number.number c.args.plan.now.sets c.events.result.now c.in_ok-rank.rank shown facts.done facts.puts (facts.room c.args.plan.now.sets) facts.replies
    facts.space in
    let count = c.loop-number.invariant.count in
    let items = c.loop-number.ranks.ok.0 in
    let here : length c.loop-number.ranks.items ≡ c.loop-number.number = omega (arith, count, items) in
    record {
      count = c.push_reserved.ensures.len ∙ ap (λ n. n + 1) count;
      space = c.push_reserved.ensures.capacity ∙ c.loop-number.invariant.space;
      each = λ p rank is. elim (slice_get_push_cases c.loop-number.ranks.items c.in_ok-rank.rank p rank (rw c.push_reserved.ensures.items at is)) [
        | inl old ↦ c.loop-number.invariant.each p rank old
        | inr last ↦ subst (λ n. IsRankOf (plan_of c.args.plan.now) start n rank) (sym (last.0 ∙ here)) (subst (λ r. IsRankOf (plan_of c.args.plan.now) start c.loop-number.number r) last.1 new)
      ];
    }

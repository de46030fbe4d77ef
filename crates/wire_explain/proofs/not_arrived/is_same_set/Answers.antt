use Rattle.std.proofs.Common.{◌∙◌, ap, sym, ◌==◌, length, [], slice_index_or, arith}
use Rattle.std.proofs.lemmas.List.{length-map}
use Rattle.wire_types.specs.declared.Proc.{Proc}
use Rattle.wire_explain.proofs.Sets.{numbers_tell, no_set}
use Rattle.wire_explain.proofs.not_arrived.is_same_set.Goals as goal

pub returns-then-other-len : goal.returns-then-other-len
returns-then-other-len c =
    let same = c.sets-sets.ensures ∙ ap (λ s. s.sets) c.scripts.ensures.scripts in
    let long = c.len.ensures ∙ ap length same in
    numbers_tell c.args.plan.now c.args.other c.args.set c.scripts.ensures.sound (omega (arith, long, c.if-other-len.true)) c.requires

pub returns-else-other-len : goal.returns-else-other-len
returns-else-other-len c =
    let same = c.sets-sets.ensures ∙ ap (λ s. s.sets) c.scripts.ensures.scripts in
    let long = c.len.ensures ∙ ap length same in
    let members = c.members.ensures ∙ ap (λ sets. slice_index_or sets c.args.set []) same in
    c.is_empty.ensures ∙ ap (λ n. n == 0) (sym (length-map c.members.result.now (λ (p : Proc). p.number)) ∙ ap length members)
    ∙ no_set c.args.plan.now c.args.other c.args.set c.scripts.ensures.sound (omega (arith, long, c.if-other-len.false)) c.requires

use Rattle.std.proofs.Common.{◌∙◌, ap, sym, inr}
use Rattle.wire_instances.specs.Views.{turn_by}
use Rattle.wire_cutoff.specs.Judged.{turn_line}
use Rattle.wire_cutoff.proofs.Listed.{roles_few}
use Rattle.wire_cutoff.proofs.ManyTurns.{few_turns, many_turns}
use Rattle.wire_cutoff.proofs.limits.judge_turns.Goals as goal

pub optional_turns-requires : goal.optional_turns-requires
optional_turns-requires c = roles_few c.as_slice.result.now c.args.sizes.now (c.as_slice.ensures.value ∙ c.in_ok-roles.ensures) c.requires.few

pub returns-in-Some-clause-err : goal.returns-in-Some-clause-err
returns-in-Some-clause-err c =
    let lookup = rw c.deref.ensures.value at c.in-Some.ensures.lookup in
    let roles = c.as_slice.ensures.value ∙ c.in_ok-roles.ensures in
    inr (many_turns c.args.pattern.now c.args.sizes.now c.as_slice.result.now c.in_ok-turns.turns.items c.in-Some.turn.now c.turn_line.result c.requires.most roles
    c.in_ok-turns.ensures lookup.3.0 lookup.1
    (c.turn_line.ensures ∙ ap (λ rs. turn_line c.args.pattern.now rs (turn_by c.in-Some.turn.now)) (c.as_slice-in-Some.ensures.value ∙ sym c.as_slice.ensures.value)))

pub returns-clause-ok : goal.returns-clause-ok
returns-clause-ok c =
    let lookup = rw c.deref.ensures.value at c.in-None.ensures.lookup in
    few_turns c.args.pattern.now c.args.sizes.now c.as_slice.result.now c.in_ok-turns.turns.items c.requires.most (c.as_slice.ensures.value ∙ c.in_ok-roles.ensures)
    c.in_ok-turns.ensures lookup.3

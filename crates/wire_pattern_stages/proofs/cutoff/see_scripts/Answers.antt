use Rattle.std.proofs.Common.{◌≡◌, ◌↔◌, true, not, subst}
use Rattle.std.specs.Prelude.{IfOk}
use Rattle.wire_scripts.specs.Planned.{plan_of}
use Rattle.wire_pattern.specs.Instances.{cast_of}
use Rattle.wire_pattern.specs.Planned.{pattern_of}
use Rattle.wire_instances.specs.Views.{cast_by}
use Rattle.wire_pattern_answers.specs.Answers.{IsAnsweredAtLine}
use Rattle.wire_pattern_answers.specs.Notes.{NotesAre}
use Rattle.wire_size_laws.specs.Answered.{WaitsForOne}
use Rattle.wire_reply_laws.specs.Kept.{KeepsStages}
use Rattle.wire_pattern_stages.specs.Views.{stages_by}
use Rattle.wire_pattern_stages.specs.Succeeding.{all_succeed}
use Rattle.wire_pattern_stages.proofs.cutoff.see_scripts.Goals as goal

pub returns-clause-kept : goal.returns-clause-kept
returns-clause-kept c =
    let q = c.args.question.now in
    subst (λ s. IfOk c.see_plan-shown.result (λ it. it.kept ≡ true
    → (q.asked ≡ true) × KeepsStages (stages_by q.stages.now) (pattern_of q.pattern.now) (cast_of (cast_by c.args.cast.now)) (plan_of s)))
    c.in_ok-plan.ensures.ok c.see_plan-shown.ensures.kept

pub returns-clause-for_one : goal.returns-clause-for_one
returns-clause-for_one c =
    subst (λ s. IfOk c.see_plan-shown.result (λ it. (it.for_one ≡ true) ↔ WaitsForOne (plan_of s))) c.in_ok-plan.ensures.ok c.see_plan-shown.ensures.for_one

pub returns-clause-failing : goal.returns-clause-failing
returns-clause-failing c =
    subst (λ s. IfOk c.see_plan-shown.result (λ it. it.failing ≡ not (all_succeed s))) c.in_ok-plan.ensures.ok c.see_plan-shown.ensures.failing

pub returns-clause-notes : goal.returns-clause-notes
returns-clause-notes c =
    subst (λ s. IfOk c.see_plan-shown.result (λ it. c.args.question.now.answers ≡ true
    → NotesAre it.notes.items (IsAnsweredAtLine c.args.question.now.pattern.now (cast_by c.args.cast.now) s)))
    c.in_ok-plan.ensures.ok c.see_plan-shown.ensures.notes

use Rattle.std.proofs.Common.{◌∙◌, sym, refl, arith}
use Rattle.wire_cutoff.specs.Views.{selection_by}
use Rattle.wire_cutoff.proofs.Judged.{item_sizes, item_total}
use Rattle.wire_pattern_waits.specs.LineSets.{has_line}
use Rattle.wire_pattern_waits.specs.Waits.{StopsIn, ReadsAsPlan}
use Rattle.wire_pattern_waits.proofs.Judged.{listed_at, each_more, each_all, none_before, one_before, all_before, told_more}
use Rattle.wire_pattern_answers.specs.Answers.{AnswersIn}
use Rattle.wire_pattern_answers.specs.Notes.{is_told}
use Rattle.wire_pattern_stages.specs.Views.{stages_by}
use Rattle.wire_pattern_stages.specs.Staged.{SelectionKeeps}
use Rattle.wire_pattern_stages.specs.Lookups.{SelectionWaitsForOne}
use Rattle.wire_pattern_stages.proofs.Swept.{left_of, right_of, both_of}
use Rattle.wire_pattern_stages.specs.Succeeding.{FailsIn, PutsRemoteIn}
use Rattle.wire_pattern_stages.proofs.cutoff.see_all.Goals as goal

pub see_selection-requires-clause-sizes : goal.see_selection-requires-clause-sizes
see_selection-requires-clause-sizes c =
    item_sizes c.args.question.now.pattern.now c.args.all.now c.loop-selection.selection-index c.selection-item.result c.requires.all c.loop-selection-test.true
    c.selection-item.is

pub see_selection-requires-clause-few : goal.see_selection-requires-clause-few
see_selection-requires-clause-few c =
    item_total c.args.question.now.pattern.now c.args.all.now c.loop-selection.selection-index c.selection-item.result c.requires.all c.loop-selection-test.true
    c.selection-item.is c.requires.few

pub loop-selection-init : goal.loop-selection-init
loop-selection-init c = record {
  told = λ role line. none_before c.args.question.now.pattern.now (λ s. StopsIn c.args.question.now.pattern.now s role line) _ (c.new-noted.ensures role line);
  read = λ i s lt at. absurd (omega (arith, lt));
  kept = λ k i s lt at. absurd (omega (arith, lt));
  for_one = ((λ k i s lt at. absurd (omega (arith, lt))), (λ each. refl));
  failing = none_before c.args.question.now.pattern.now (FailsIn c.args.question.now.pattern.now) _ refl;
  answers = λ asked settled role line status three.
      none_before c.args.question.now.pattern.now (λ s. AnswersIn c.args.question.now.pattern.now s role line status) _ (c.new-told.ensures role line status);
  remote = none_before c.args.question.now.pattern.now (PutsRemoteIn c.args.question.now.pattern.now) _ refl;
}

pub loop-selection-preserved : goal.loop-selection-preserved
loop-selection-preserved c =
    let p = c.args.question.now.pattern.now in
    let n = c.loop-selection.selection-index in
    let s = selection_by c.selection-item.result in
    let at = listed_at p c.args.all.now n c.selection-item.result c.requires.all c.loop-selection-test.true c.selection-item.is in
    record {
      told = λ role line.
          one_before p (λ s. StopsIn p s role line) n s (has_line c.loop-selection.noted role line) (has_line c.see_selection.new.noted role line) at
          (c.loop-selection.invariant.told role line) (c.in_ok-shown.ensures.waits role line);
      read = each_more p (ReadsAsPlan p) n s at c.loop-selection.invariant.read c.in_ok-shown.ensures.read;
      kept = λ k.
          let both = c.in_ok-shown.ensures.kept k in
          each_more p (SelectionKeeps p (stages_by c.args.question.now.stages.now)) n s at (c.loop-selection.invariant.kept both.0) both.1;
      for_one = (
        (λ k.
            let all = sym c.both-for_one.ensures ∙ k in
            each_more p (SelectionWaitsForOne p) n s at (c.loop-selection.invariant.for_one.0 (left_of c.loop-selection.for_one c.in_ok-shown.shown.for_one all))
            (c.in_ok-shown.ensures.for_one.0 (right_of c.loop-selection.for_one c.in_ok-shown.shown.for_one all))),
        (λ each.
            c.both-for_one.ensures
            ∙ both_of c.loop-selection.for_one c.in_ok-shown.shown.for_one (c.loop-selection.invariant.for_one.1 (λ i t lt is. each i t (omega (arith, lt)) is))
            (c.in_ok-shown.ensures.for_one.1 (each n s (omega (arith)) at))),
      );
      failing = one_before p (FailsIn p) n s _ _ at c.loop-selection.invariant.failing
          (told_more c.loop-selection.failing c.in_ok-shown.shown.failing _ (FailsIn p s) c.either-failing.ensures c.in_ok-shown.ensures.failing);
      answers = λ asked settled role line status three.
          one_before p (λ s. AnswersIn p s role line status) n s (is_told c.loop-selection.told role line status) (is_told c.see_selection.new.told role line status) at
          (c.loop-selection.invariant.answers asked settled role line status three) (c.in_ok-shown.ensures.answers asked settled role line status three);
      remote = one_before p (PutsRemoteIn p) n s _ _ at c.loop-selection.invariant.remote
          (told_more c.loop-selection.remote c.in_ok-shown.shown.remote _ (PutsRemoteIn p s) c.either-remote.ensures c.in_ok-shown.ensures.remote);
    }

pub returns-clause-waits : goal.returns-clause-waits
returns-clause-waits c = λ role line.
    let p = c.args.question.now.pattern.now in
    let end = c.loop-selection-test.false in
    let told = all_before p (λ s. StopsIn p s role line) c.args.all.now c.loop-selection.selection-index
    (has_line c.loop-selection.noted role line) c.requires.all (omega (arith, end)) (c.loop-selection.invariant.told role line) in (
      (λ h. let w = told.0 h in record { number = w.number; selection = w.selection; is = w.is; stops = w.holds }),
      (λ w. told.1 (record { number = w.number; selection = w.selection; is = w.is; holds = w.stops })),
    )

pub returns-clause-read : goal.returns-clause-read
returns-clause-read c =
    let p = c.args.question.now.pattern.now in
    let end = c.loop-selection-test.false in
    each_all p (ReadsAsPlan p) c.args.all.now c.loop-selection.selection-index c.requires.all (omega (arith, end)) c.loop-selection.invariant.read

pub returns-clause-kept : goal.returns-clause-kept
returns-clause-kept c = λ kept number selection scripts is reads.
    let p = c.args.question.now.pattern.now in
    let end = c.loop-selection-test.false in
    each_all p (SelectionKeeps p (stages_by c.args.question.now.stages.now)) c.args.all.now c.loop-selection.selection-index c.requires.all (omega (arith, end))
    (c.loop-selection.invariant.kept kept) number selection is scripts reads

pub returns-clause-for_one : goal.returns-clause-for_one
returns-clause-for_one c =
    let p = c.args.question.now.pattern.now in
    let end = c.loop-selection-test.false in (
      (λ one number selection is.
          each_all p (SelectionWaitsForOne p) c.args.all.now c.loop-selection.selection-index c.requires.all (omega (arith, end))
          (c.loop-selection.invariant.for_one.0 one) number selection is),
      (λ all. c.loop-selection.invariant.for_one.1 (λ i s lt is. all i s is)),
    )

pub returns-clause-failing : goal.returns-clause-failing
returns-clause-failing c =
    let p = c.args.question.now.pattern.now in
    let end = c.loop-selection-test.false in
    let told = all_before p (FailsIn p) c.args.all.now c.loop-selection.selection-index c.loop-selection.failing c.requires.all (omega (arith, end))
    c.loop-selection.invariant.failing in (
      (λ h. let w = told.0 h in record { number = w.number; selection = w.selection; is = w.is; fails = w.holds }),
      (λ w. told.1 (record { number = w.number; selection = w.selection; is = w.is; holds = w.fails })),
    )

pub returns-clause-remote : goal.returns-clause-remote
returns-clause-remote c =
    let p = c.args.question.now.pattern.now in
    let end = c.loop-selection-test.false in
    let told = all_before p (PutsRemoteIn p) c.args.all.now c.loop-selection.selection-index c.loop-selection.remote c.requires.all (omega (arith, end))
    c.loop-selection.invariant.remote in (
      (λ h. let w = told.0 h in record { number = w.number; selection = w.selection; is = w.is; puts = w.holds }),
      (λ w. told.1 (record { number = w.number; selection = w.selection; is = w.is; holds = w.puts })),
    )

pub returns-clause-answers : goal.returns-clause-answers
returns-clause-answers c = λ asked settled role line status three.
    let p = c.args.question.now.pattern.now in
    let end = c.loop-selection-test.false in
    let told = all_before p (λ s. AnswersIn p s role line status) c.args.all.now c.loop-selection.selection-index (is_told c.loop-selection.told role line status)
    c.requires.all (omega (arith, end)) (c.loop-selection.invariant.answers asked settled role line status three) in (
      (λ h. let w = told.0 h in record { number = w.number; selection = w.selection; is = w.is; answers = w.holds }),
      (λ w. told.1 (record { number = w.number; selection = w.selection; is = w.is; holds = w.answers })),
    )

use Rattle.wire_cutoff.proofs.Largest.{told_on}
use Rattle.wire_cutoff.proofs.FoundIn.{sweep_fault, limit_fault}
use Rattle.wire_cutoff.proofs.cutoff.judge_pattern.Goals as goal

pub returns-clause-settled : goal.returns-clause-settled
returns-clause-settled g c = λ e. (c.cutoff_suffices.ensures c.args.pattern.now c.note_sound.ensures (c.judge_all.ensures.settled e)).0

pub returns-clause-err : goal.returns-clause-err
returns-clause-err g c = sweep_fault c.args.pattern.now c.judge_all.result c.in_ok-judge_limits.ensures.ok c.judge_all.ensures.err

pub returns-in_err-judge_limits-clause-err : goal.returns-in_err-judge_limits-clause-err
returns-in_err-judge_limits-clause-err g c =
    told_on c.from_residual.result c.in_err-judge_limits.field-0.0 _ c.from_residual.ensures.1
    (limit_fault c.args.pattern.now c.in_err-judge_limits.field-0.0 c.in_err-judge_limits.ensures.err)

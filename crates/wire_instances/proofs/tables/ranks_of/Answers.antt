use Rattle.std.proofs.Common.{◌∙◌, ◌==◌, ◌<◌, ap, length, map, arith, length-set}
use Rattle.std.proofs.lemmas.List.{get_or_read}
use Rattle.wire_pattern.specs.Views.{role_by}
use Rattle.wire_instances.specs.Tables.{jobs_by}
use Rattle.wire_instances.proofs.Ranked.{its_job, job_count, low_rank, grow, counted, ranked}
use Rattle.wire_instances.proofs.tables.ranks_of.Goals as goal

pub overflow_add-rank : goal.overflow_add-rank
overflow_add-rank c =
    let roles = map role_by c.args.roles.now in
    let numbers = c.args.numbers.now in
    let i = c.loop-number.number-index in
    let job = c.job_of-job.result in
    let width = c.loop-number.invariant.width in
    let below : job < c.args.jobs = omega (arith, c.job_of-job.ensures, c.requires.there i c.loop-number-test.true) in
    let rank = get_or_read c.loop-number.counts.items job c.index-rank.result.now (omega (arith, below, width)) c.index-rank.ensures 0 ∙ c.loop-number.invariant.counts job below in
    omega (arith, low_rank (λ x. x == job) (jobs_by roles numbers) i c.index-rank.result.now rank, c.loop-number-test.true, c.requires.few)

pub loop-number-preserved : goal.loop-number-preserved
loop-number-preserved c =
    let roles = map role_by c.args.roles.now in
    let numbers = c.args.numbers.now in
    let i = c.loop-number.number-index in
    let job = c.job_of-job.result in
    let jobs = jobs_by roles numbers in
    let counts = c.loop-number.counts.items in
    let width = c.loop-number.invariant.width in
    let below : job < c.args.jobs = omega (arith, c.job_of-job.ensures, c.requires.there i c.loop-number-test.true) in
    let rank = get_or_read counts job c.index-rank.result.now (omega (arith, below, width)) c.index-rank.ensures 0 in
    let is = its_job roles numbers i job c.loop-number-test.true c.job_of-job.ensures in
    let there : i < length jobs = omega (arith, c.loop-number-test.true, job_count roles numbers) in
    record {
      count = ap length c.in_ok-push.ensures.items ∙ grow c.loop-number.ranks.items c.index-rank.result.now i c.loop-number.invariant.count;
      width = length-set counts job _ ∙ width;
      counts = λ j h. counted jobs counts i job c.args.jobs c.index-rank.result.now j there is below width c.loop-number.invariant.counts rank h;
      ranks = λ v h. ranked jobs c.loop-number.ranks.items c.push.new.self.items i job c.index-rank.result.now v c.loop-number.invariant.count is (rank ∙ c.loop-number.invariant.counts job below)
          c.loop-number.invariant.ranks c.in_ok-push.ensures.items h;
    }

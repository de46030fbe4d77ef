use Rattle.std.proofs.Common.{◌≡◌, ◌∙◌, ◌<◌, ◌==◌, ap, sym, refl, length, arith}
use Rattle.std.specs.Prelude.{false, not, ◌||◌, ◌&&◌}
use Rattle.std.specs.List.{list_any}
use Rattle.std.proofs.lemmas.List.{get_or_read}
use Rattle.wire_scripts.specs.Scripts.{numbers_of}
use Rattle.wire_scripts.proofs.Broken.{one_process, with_one, there_already, not_broken}
use Rattle.wire_scripts.proofs.set_word.broken_jobs.Goals as goal
use Rattle.wire_scripts.proofs.set_word.broken_jobs.Goals.{then-not-index+then-not-contains+in_ok-push, else-not-index}
use Rattle.wire_scripts.proofs.set_word.broken_jobs.Goals.{else-not-index-via-then-not-index+else-not-contains, else-not-index-via-else-not-index}

pub loop-number-preserved : goal.loop-number-preserved
loop-number-preserved c job =
    let n = c.loop-number.number in
    let there = c.loop-number-test.true in
    let present = c.in_ok-present.present in
    let jobs = c.loop-number.broken.items in
    let its_job = c.process-item.result.job in
    let is_there = c.index.result.now in
    let same = ap length (c.processes-process-items.ensures.processes ∙ sym c.processes.ensures.processes) in
    let len = c.in_ok-present.ensures.len in
    let within : n < length present.items = omega (arith, same, len, present.ok.0) in
    let seen = get_or_read present.items n _ within c.index.ensures false ∙ c.in_ok-present.ensures.present n (omega (arith, same)) in
    let after : list_any (λ j. j == job) c.if-not-index.broken.items ≡ (list_any (λ j. j == job) jobs || (not is_there && (its_job == job))) =
    elim c.if-not-index.branch [
      | then-not-index+then-not-contains+in_ok-push w ↦
          with_one jobs _ w.push.new.self.items its_job w.job-then-not-contains.result job is_there w.if-not-index.true (ap (λ v. v.items) w.broken-is) w.in_ok-push.ensures.items
          w.job-then-not-contains.ensures
      | else-not-index w ↦ ap (λ v. list_any (λ j. j == job) v.items) w.broken-is ∙
          (elim w.else-not-index.branch [
            | else-not-index-via-then-not-index+else-not-contains w' ↦
                there_already jobs w'.deref.result.now its_job w'.job.result job is_there w'.contains.result w'.if-not-index.true w'.if-not-contains.false w'.contains.ensures.value
                w'.deref.ensures.value w'.job.ensures
            | else-not-index-via-else-not-index w' ↦ not_broken (list_any (λ j. j == job) jobs) its_job job is_there w'.if-not-index.false
          ])
    ] in
    one_process (numbers_of c.args.set.now) c.processes-process-items.result.now n job its_job _ _ is_there _ c.process-item.result there
    c.process-item.is refl seen after (c.loop-number.invariant job)

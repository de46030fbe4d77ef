use Rattle.std.proofs.Common.{◌∙◌, ap, ◌+◌, ◌<◌, length, not, drop, drop-cons, add-one, arith}
use Rattle.std.specs.List.{list_any}
use Rattle.std.proofs.lemmas.Grind.{common_steps}
use Rattle.wire_scripts.specs.Scripts.{numbers_of}
use Rattle.wire_scripts.specs.Canonical.{is_whole}
use Rattle.wire_scripts.proofs.Listed.{one_more, without_last}
use Rattle.wire_scripts.proofs.set_word.listed_word.Goals as goal

pub loop-member-preserved : goal.loop-member-preserved
loop-member-preserved c =
    let s = c.args.scripts.now in
    let set = numbers_of c.args.set.now in
    let there : c.loop-member.member-index < length c.args.set.now = omega arith in
    let in_broken = c.contains.ensures.value ∙ ap (list_any _) c.deref.ensures.value ∙ c.in_ok-broken.ensures c.job_and_rank-job.result.0
    ∙ ap (λ j. not (is_whole s.processes set j)) c.job_and_rank-job.ensures.job in
    one_more s set (numbers_of (drop (c.loop-member.member-index + 1) c.args.set.now)) _ c.loop-member.word.items _ _ c.contains.result in_broken c.in_ok-write_item.ensures
    (rw (add-one c.loop-member.member-index) (rw (drop-cons c.args.set.now c.loop-member.member-index (record { number = 0 })) at c.loop-member.invariant))

pub returns : goal.returns
returns c =
    without_last _ c.loop-member.word.items c.pop.new.self.items c.pop.result (grind (arith, common_steps)) c.pop.ensures.items
    (λ h. c.pop.ensures.variant.1 (let len = c.loop-member.word.ok.0 in omega arith))

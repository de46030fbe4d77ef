use Rattle.wire_reader.proofs.Targets.{kept_next}
use Rattle.wire_reader.proofs.members.gather_distinct.Goals as goal

pub loop-target-preserved : goal.loop-target-preserved
loop-target-preserved c = record {
  named = λ p. kept_next c.loop-target.kept.keys c.insert_full.new.self.keys c.args.targets.now c.loop-target.target-index _ p c.loop-target-test.true c.in_ok-insert_full.ensures.keys
      (c.loop-target.invariant.named p);
}

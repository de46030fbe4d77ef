use Rattle.std.proofs.Common.{◌∙◌, arith, map}
use Rattle.std.proofs.Common.{refl}
use Rattle.wire_runs.specs.Plan.{kinds_of}
use Rattle.wire_scripts.specs.Planned.{planned_call}
use Rattle.wire_plan.specs.Kinds.{kind_of, calls_from}
use Rattle.wire_plan.proofs.Planning.{events_step, numbers_step, done_at_end}
use Rattle.wire_plan.proofs.rows.EventRows.add_process.Goals as goal

pub loop-call-preserved : goal.loop-call-preserved
loop-call-preserved c =
    let s = c.args.scripts.now in
    record {
      kinds = events_step (kind_of s.sets) (planned_call s) c.args.calls.now c.loop-call.call-index _ c.loop-call-test.true _ c.loop-call.self.kinds.items c.add_call.new.self.kinds.items
          c.loop-call.invariant.kinds c.in_ok-add_call.ensures.kinds;
      calls = numbers_step (kind_of s.sets) (planned_call s) c.args.calls.now c.loop-call.call-index _ c.loop-call-test.true _ c.loop-call.number c.loop-call.self.calls.items
          c.add_call.new.self.calls.items c.loop-call.invariant.calls c.in_ok-add_call.ensures.calls;
      firsts = c.in_ok-add_call.ensures.firsts ∙ c.loop-call.invariant.firsts;
      number = let same = c.loop-call.invariant.number in omega (arith, same);
    }

pub returns-clause-kinds : goal.returns-clause-kinds
returns-clause-kinds c =
    done_at_end (λ calls. kinds_of (map (planned_call c.args.scripts.now) calls)) _ _ c.args.calls.now c.loop-call.call-index refl c.loop-call-test.false c.loop-call.invariant.kinds

pub returns-clause-calls : goal.returns-clause-calls
returns-clause-calls c =
    done_at_end (λ calls. calls_from c.loop-call.number (map (planned_call c.args.scripts.now) calls)) _ _ c.args.calls.now c.loop-call.call-index refl c.loop-call-test.false
    c.loop-call.invariant.calls

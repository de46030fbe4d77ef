use Rattle.std.proofs.Common.{◌∙◌, ◌++◌, ◌+◌, ◌-◌, ap, sym, filter}
use Rattle.std.specs.List.{range_with_len}
use Rattle.wire_pattern.specs.Instances.{cast_of}
use Rattle.wire_pattern.specs.Views.{turns_by}
use Rattle.wire_instances.specs.Tables.{takes}
use Rattle.wire_instances.proofs.Takes.{turn_taken, turn_left}
use Rattle.wire_instances.proofs.frame.Frame.add_turns.Goals as goal
use Rattle.wire_instances.proofs.frame.Frame.add_turns.Goals.{then-takes+in_ok-push, else-takes}

pub loop-each-preserved : goal.loop-each-preserved
loop-each-preserved c =
    let test = takes (cast_of c.args.self.now.cast) c.args.round.caller c.args.round.step (turns_by c.args.round.turns) in
    elim c.if-takes.branch [
      | then-takes+in_ok-push w ↦
          turn_taken test c.loop-each.each c.args.to c.loop-each.out.items _ _ c.loop-each-test.true (sym c.takes.ensures ∙ w.if-takes.true)
          (ap (λ v. v.items) w.out-is ∙ w.in_ok-push.ensures.items) c.loop-each.invariant
      | else-takes w ↦
          ap (λ v. v.items ++ filter test (range_with_len (c.loop-each.each + 1) (c.args.to - (c.loop-each.each + 1)))) w.out-is
          ∙ turn_left test c.loop-each.each c.args.to c.loop-each.out.items _ c.loop-each-test.true (sym c.takes.ensures ∙ w.if-takes.false) c.loop-each.invariant
    ]

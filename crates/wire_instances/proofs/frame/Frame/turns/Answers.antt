use Rattle.std.proofs.Common.{◌≤◌, ◌∙◌, ap, sym, arith}
use Rattle.std.specs.Prelude.{nat_lt}
use Rattle.std.specs.List.{list_all}
use Rattle.wire_pattern.specs.Instances.{cast_of, process_count}
use Rattle.wire_pattern.specs.Views.{turns_by}
use Rattle.wire_instances.specs.Tables.{takes}
use Rattle.wire_instances.proofs.Takes.{written_round, written_once, goes_parts, round_there, once_there}
use Rattle.wire_instances.proofs.frame.Frame.turns.Goals as goal
use Rattle.wire_instances.proofs.frame.Frame.turns.Goals.{then-goes_round+in_ok-add_turns+in_ok-add_turns-2, else-goes_round+in_ok-add_turns-3}

pub returns-clause-turns : goal.returns-clause-turns
returns-clause-turns c =
    let cast = cast_of c.args.self.now.cast in
    let round = c.args.round in
    let first = c.group-first.result.0 in
    let end = c.group-first.result.1 in
    elim c.if-goes_round.branch [
      | then-goes_round+in_ok-add_turns+in_ok-add_turns-2 w ↦
          ap (λ v. v.items) w.turns-is
          ∙ written_round cast round.caller round.step c.args.role first end (turns_by round.turns) c.new-turns.result.items w.add_turns.new.out.items w.add_turns-then-goes_round.new.out.items
          c.group-first.ensures.members (sym c.goes_round.ensures ∙ w.if-goes_round.true) c.new-turns.ensures.items w.in_ok-add_turns.ensures w.in_ok-add_turns-2.ensures
      | else-goes_round+in_ok-add_turns-3 w ↦
          ap (λ v. v.items) w.turns-is
          ∙ written_once cast round.caller round.step c.args.role first end (turns_by round.turns) c.new-turns.result.items w.add_turns-else-goes_round.new.out.items
          c.group-first.ensures.members (sym c.goes_round.ensures ∙ w.if-goes_round.false) c.new-turns.ensures.items w.in_ok-add_turns-3.ensures
    ]

pub returns-clause-there : goal.returns-clause-there
returns-clause-there c =
    let cast = cast_of c.args.self.now.cast in
    let round = c.args.round in
    let test = takes cast round.caller round.step (turns_by round.turns) in
    let n = process_count c.args.self.now.cast in
    let first = c.group-first.result.0 in
    let end = c.group-first.result.1 in
    elim c.if-goes_round.branch [
      | then-goes_round+in_ok-add_turns+in_ok-add_turns-2 w ↦
          ap (λ v. list_all (λ e. nat_lt e n) v.items) w.turns-is
          ∙ round_there n test first end round.caller c.new-turns.result.items w.add_turns.new.out.items w.add_turns-then-goes_round.new.out.items c.group-first.ensures.there
          (goes_parts (turns_by round.turns) first end round.caller (sym c.goes_round.ensures ∙ w.if-goes_round.true)).1 c.new-turns.ensures.items w.in_ok-add_turns.ensures w.in_ok-add_turns-2.ensures
      | else-goes_round+in_ok-add_turns-3 w ↦
          let rising : first ≤ end = omega (arith, c.group-first.ensures.size) in
          ap (λ v. list_all (λ e. nat_lt e n) v.items) w.turns-is
          ∙ once_there n test first end c.new-turns.result.items w.add_turns-else-goes_round.new.out.items rising c.group-first.ensures.there c.new-turns.ensures.items w.in_ok-add_turns-3.ensures
    ]

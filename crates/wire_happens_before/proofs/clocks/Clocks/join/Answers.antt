use Rattle.std.proofs.Common.{◌≡◌, ◌∙◌, ℕ, Some, map, length, max, refl, ap, subst, arith}
use Rattle.std.specs.Prelude.{option_map, slice_get}
use Rattle.std.proofs.lemmas.Option.{slice_get-map, slice_get-get_or}
use Rattle.std.proofs.lemmas.Result.{IfOk-weaker}
use Rattle.wire_runs.specs.Plan.{event_of}
use Rattle.wire_clocks.specs.ClockTrees.{IsRoot, says}
use Rattle.wire_clocks.specs.Rising.{rising_says}
use Rattle.wire_happens_before.specs.Meeting.{IsJoin}
use Rattle.wire_happens_before.proofs.Growing.{clock_grown, grown_keeps, grown_none, grown_through, trees_grown}
use Rattle.wire_happens_before.proofs.Joining.{join_step, join_as}
use Rattle.wire_happens_before.proofs.clocks.Clocks.join.Goals as goal

pub loop-event-init : goal.loop-event-init
loop-event-init c = record {
  based = c.requires.based;
  grown = grown_none c.args.self.now;
  rising = c.new-rising.ensures.rising;
  join = record {
    from = λ q m lt. absurd (let none = c.new-rising.ensures.zeros q in omega (arith, lt, none));
    covers = λ q k z lt h. absurd (omega (arith, lt));
  };
  last = λ q. let none = c.requires.based.zeros.zeros q in omega (arith, none);
}

pub raise_to-requires-clause-marked : goal.raise_to-requires-clause-marked
raise_to-requires-clause-marked c =
    let at : slice_get (map event_of c.args.events.now) c.loop-event.event-index ≡ Some (event_of _) = slice_get-map event_of c.args.events.now c.loop-event.event-index
    ∙ ap (option_map event_of) (slice_get-get_or c.args.events.now c.loop-event.event-index _ c.loop-event-test.true) in
    (grown_keeps c.args.self.now c.loop-event.self c.requires.based c.loop-event.invariant.grown).marked (event_of _) (c.requires.marked c.loop-event.event-index (event_of _) (omega arith) at)

pub loop-event-preserved : goal.loop-event-preserved
loop-event-preserved c =
    let at : slice_get (map event_of c.args.events.now) c.loop-event.event-index ≡ Some (event_of _) = slice_get-map event_of c.args.events.now c.loop-event.event-index
    ∙ ap (option_map event_of) (slice_get-get_or c.args.events.now c.loop-event.event-index _ c.loop-event-test.true) in
    record {
      based = c.in_ok-last.ensures.based;
      grown = grown_through c.args.self.now c.loop-event.self c.raise_to.new.self c.loop-event.invariant.grown c.in_ok-last.ensures.grown;
      rising = c.in_ok-last.ensures.rising;
      join = join_step c.args.self.now (map event_of c.args.events.now) c.loop-event.event-index (event_of _) (rising_says c.loop-event.self.trees c.loop-event.rising)
          (rising_says c.raise_to.new.self.trees c.raise_to.new.rising) at c.loop-event.invariant.join
          (λ q. c.in_ok-last.ensures.each q ∙ ap (max (rising_says c.loop-event.self.trees c.loop-event.rising q))
          (clock_grown c.args.self.now c.loop-event.self c.requires.based c.loop-event.invariant.grown (event_of _) q));
      last = c.in_ok-last.ensures.last;
    }

pub returns-clause-join : goal.returns-clause-join
returns-clause-join c =
    let all : c.loop-event.event-index ≡ length c.args.events.now = omega arith in
    let before = rising_says c.loop-event.self.trees c.loop-event.rising in
    IfOk-weaker c.finish.result (λ root. (q : ℕ) → says c.finish.new.trees root q ≡ before q)
    (λ root. IsJoin c.args.self.now (map event_of c.args.events.now) (length c.args.events.now) (λ q. says c.finish.new.trees root q))
    (λ root same. subst (λ n. IsJoin c.args.self.now (map event_of c.args.events.now) n (λ q. says c.finish.new.trees root q)) all
    (join_as c.args.self.now (map event_of c.args.events.now) c.loop-event.event-index before (λ q. says c.finish.new.trees root q) same c.loop-event.invariant.join)) c.finish.ensures.says

pub returns-clause-based : goal.returns-clause-based
returns-clause-based c =
    let grown = trees_grown c.loop-event.self _ c.loop-event.invariant.based (record { roots = refl; updates = refl; trees = c.finish.ensures.keeps }) in
    IfOk-weaker c.finish.result (λ root. IsRoot c.finish.new.trees root) _ (λ root there. grown) c.finish.ensures.root

pub returns-clause-grown : goal.returns-clause-grown
returns-clause-grown c =
    let grown = grown_through c.args.self.now c.loop-event.self _ c.loop-event.invariant.grown (record { roots = refl; updates = refl; trees = c.finish.ensures.keeps }) in
    IfOk-weaker c.finish.result (λ root. IsRoot c.finish.new.trees root) _ (λ root there. grown) c.finish.ensures.root

use Rattle.wire_runs.proofs.Basics.{event_within}
use Rattle.wire_scripts.specs.Planned.{plan_of}
use Rattle.wire_fates.proofs.Places.{place_at}
use Rattle.wire_portable.proofs.sure.is_got_by.Goals as goal

pub has_got-requires : goal.has_got-requires
has_got-requires c =
    let its = c.requires.1.only c.gets.place _ (place_at c.args.gets.now c.gets.place _ c.gets-test.true) in
    event_within (plan_of c.args.judge.now) _ _ _ its.1

pub returns-then-has_got : goal.returns-then-has_got
returns-then-has_got c = λ t. record {
  k = c.gets.place;
  get = _;
  is = place_at c.args.gets.now c.gets.place _ c.gets-test.true;
  got = c.has_got.ensures c.if-has_got.true;
}

use Rattle.std.proofs.Common.{◌≡◌, ℕ, Some, max, ap}
use Rattle.std.specs.Prelude.{option_map}
use Rattle.std.proofs.lemmas.Result.{IfOk-weaker}
use Rattle.wire_runs.specs.Plan.{event_of}
use Rattle.wire_happens_before.specs.Clocks.{base_at, clock_of}
use Rattle.wire_happens_before.specs.Marking.{IsRaised, root_before}
use Rattle.wire_happens_before.proofs.Growing.{grown_none}
use Rattle.wire_happens_before.proofs.Joining.{before_fits, raised_here, raised_none, raised_counted}
use Rattle.wire_happens_before.proofs.clocks.Clocks.base_after.Goals as goal

pub returns-in_default-clause-there : goal.returns-in_default-clause-there
returns-in_default-clause-there c = rw c.root_before-root.ensures (before_fits c.args.self.now (option_map event_of c.args.previous) c.requires.based)

pub returns-then-counts-clause-there : goal.returns-then-counts-clause-there
returns-then-counts-clause-there c = rw c.root_before-root.ensures (before_fits c.args.self.now (option_map event_of c.args.previous) c.requires.based)

pub raise_root-requires-clause-root : goal.raise_root-requires-clause-root
raise_root-requires-clause-root c = rw c.root_before-root.ensures (before_fits c.args.self.now (option_map event_of c.args.previous) c.requires.based)

pub raise_root-requires-clause-marked : goal.raise_root-requires-clause-marked
raise_root-requires-clause-marked c = c.requires.awaited (event_of c.in-Some.event) (ap (option_map event_of) c.in-Some.is)

pub returns-clause-raised : goal.returns-clause-raised
returns-clause-raised c =
    let old = c.args.self.now in
    let previous = option_map event_of c.args.previous in
    let z = event_of c.in-Some.event in
    let each = rw c.root_before-root.ensures at c.raise_root.ensures.each in
    rw c.in-Some.is
    (IfOk-weaker c.raise_root.result (λ n. (q : ℕ) → base_at c.raise_root.new.self n q ≡ max (base_at old (root_before old previous) q) (clock_of old z q))
    (λ n. IsRaised old previous (Some z) (base_at c.raise_root.new.self n))
    (λ n. raised_here old previous z (base_at c.raise_root.new.self n)) each)

pub returns-in_default-clause-grown : goal.returns-in_default-clause-grown
returns-in_default-clause-grown c = grown_none c.args.self.now

pub returns-in_default-clause-raised : goal.returns-in_default-clause-raised
returns-in_default-clause-raised c = rw (c.root_before-root.ensures, c.in_default.is) (raised_none c.args.self.now (option_map event_of c.args.previous))

pub returns-then-counts-clause-grown : goal.returns-then-counts-clause-grown
returns-then-counts-clause-grown c = grown_none c.args.self.now

pub returns-then-counts-clause-raised : goal.returns-then-counts-clause-raised
returns-then-counts-clause-raised c = rw (c.root_before-root.ensures, c.in-Some.is)
    (raised_counted c.args.self.now (option_map event_of c.args.previous) (event_of c.in-Some.event) (c.counts.ensures.0 c.if-counts.true))

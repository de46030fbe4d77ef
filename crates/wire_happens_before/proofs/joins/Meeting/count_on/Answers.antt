use Rattle.std.proofs.Common.{◌≡◌, ◌∙◌, Some, map, sym, ap}
use Rattle.std.specs.Prelude.{option_map, slice_get}
use Rattle.std.proofs.lemmas.Bool.{true≢false}
use Rattle.std.proofs.lemmas.Option.{slice_get-map}
use Rattle.wire_runs.specs.Plan.{event_of}
use Rattle.wire_happens_before.proofs.Joining.{marked_step}
use Rattle.wire_happens_before.proofs.joins.Meeting.count_on.Goals as goal

pub returns-then-not-is_marked-clause-missing : goal.returns-then-not-is_marked-clause-missing
returns-then-not-is_marked-clause-missing c = λ marked.
    let at : slice_get (map event_of c.args.arrivals.now) c.met.self.count ≡ Some (event_of c.arrival_at.result) = slice_get-map event_of c.args.arrivals.now c.met.self.count
    ∙ ap (option_map event_of) c.arrival_at.ensures in
    true≢false (sym (c.is_marked.ensures.1 (marked c.met.self.count (event_of c.arrival_at.result) c.met-test.true at)) ∙ c.if-not-is_marked.true)

pub met-preserved : goal.met-preserved
met-preserved c =
    let at : slice_get (map event_of c.args.arrivals.now) c.met.self.count ≡ Some (event_of c.arrival_at.result) = slice_get-map event_of c.args.arrivals.now c.met.self.count
    ∙ ap (option_map event_of) c.arrival_at.ensures in
    record {
      marked = marked_step c.args.clocks.now (map event_of c.args.arrivals.now) c.met.self.count (event_of c.arrival_at.result) at (c.is_marked.ensures.0 c.if-not-is_marked.false)
          c.met.invariant.marked;
      joined = c.met.invariant.joined;
    }

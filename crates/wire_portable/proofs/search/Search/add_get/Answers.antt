use Rattle.std.proofs.Common.{true, false}
use Rattle.std.proofs.lemmas.Result.{on_ok_weaker}
use Rattle.wire_runs.specs.Plan.{event_of}
use Rattle.wire_portable.specs.Searched.{plan_in, MayBe, IsNearFine, IsFarFine, IsGetFine}
use Rattle.wire_portable.proofs.GetsFine.{both_added}
use Rattle.wire_portable.proofs.search.Search.add_get.Goals as goal

pub returns : goal.returns
returns c =
    let plan = plan_in c.args.self.now in
    let anywhere = c.args.self.now.anywhere in
    let p = c.args.asked.owner.number in
    let key = c.args.asked.key in
    let g = event_of c.args.get in
    on_ok_weaker c.add_far_get.result
    (λ second. both_added c.args.found.now c.add_near_get.new.found c.add_far_get.new.found
    (λ library. MayBe anywhere plan true p g.proc → IsNearFine library plan p key g) (λ library. MayBe anywhere plan false p g.proc → IsFarFine anywhere library plan p key g)
    (λ library. IsGetFine anywhere library plan p key g) (λ library n f. record { near = n; far = f }) c.in_ok-add_near_get.ensures second)
    c.add_far_get.ensures

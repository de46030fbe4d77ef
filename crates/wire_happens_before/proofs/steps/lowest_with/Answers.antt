use Rattle.std.proofs.Common.{◌∙◌, sym}
use Rattle.std.specs.Prelude.{option_map}
use Rattle.std.proofs.lemmas.Bool.{true≢false}
use Rattle.wire_runs.specs.Plan.{event_of}
use Rattle.wire_happens_before.proofs.Back.{lowest_skip, lowest_take}
use Rattle.wire_happens_before.proofs.steps.lowest_with.Goals as goal

pub returns-then-leads_to : goal.returns-then-leads_to
returns-then-leads_to c plan places m h =
    lowest_take plan (event_of c.args.x) places (event_of c.args.z) (event_of c.lower.result) (option_map event_of c.args.lowest) ((c.leads_to.ensures plan m).0 c.if-leads_to.true) h
    c.lower.ensures.one c.lower.ensures.first c.lower.ensures.second

pub returns-else-leads_to : goal.returns-else-leads_to
returns-else-leads_to c plan places m h =
    lowest_skip plan (event_of c.args.x) places (event_of c.args.z) (option_map event_of c.args.lowest) (λ l. true≢false (sym ((c.leads_to.ensures plan m).1 l) ∙ c.if-leads_to.false)) h

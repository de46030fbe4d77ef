use Rattle.std.proofs.Common.{◌<◌, ◌∙◌, sym, ap, subst}
use Rattle.std.specs.Prelude.{option_map}
use Rattle.std.proofs.lemmas.Option.{same_Some}
use Rattle.wire_runs.specs.Plan.{Event, event_of}
use Rattle.wire_happens_before.specs.Clocks.{marked_count}
use Rattle.wire_happens_before.proofs.clocks.Clocks.is_source_marked.Goals as goal

pub returns-in-Some : goal.returns-in-Some
returns-in-Some c = (
  (λ t z e. subst (λ (v : Event). v.at < marked_count c.args.self.now v.proc) (same_Some _ _ (ap (option_map event_of) (sym c.in-Some.is) ∙ e)) (c.is_marked.ensures.0 t)),
  (λ h. c.is_marked.ensures.1 (h (event_of c.in-Some.event) (ap (option_map event_of) c.in-Some.is))),
)

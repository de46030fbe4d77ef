use Rattle.std.proofs.Common.{ap, sym, ◌∙◌, subst}
use Rattle.std.specs.Prelude.{option_map}
use Rattle.std.proofs.lemmas.Option.{same_Some}
use Rattle.wire_runs.specs.Plan.{event_of}
use Rattle.wire_pattern_stages.specs.Rising.{Goes}
use Rattle.wire_pattern_stages.specs.Tables.{view_key}
use Rattle.wire_pattern_stages.proofs.instance.one_goes.Goals as goal

pub returns-in-Some : goal.returns-in-Some
returns-in-Some c h z is = subst (λ v. Goes (view_key c.args.view.now) v (event_of c.args.y)) (same_Some _ _ (sym (ap (option_map event_of) c.in-Some.is) ∙ is)) (c.goes.ensures h)

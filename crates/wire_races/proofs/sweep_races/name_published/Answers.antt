use Rattle.std.proofs.Common.{◌∙◌, ap, Some}
use Rattle.wire_plan.specs.Kinds.{kind_of}
use Rattle.wire_races.proofs.SweepRaces.{publishes_it, publishes_none}
use Rattle.wire_races.proofs.sweep_races.name_published.Goals as goal

pub returns-in-Publish : goal.returns-in-Publish
returns-in-Publish c = λ name. publishes_it name c.in-Publish.name _ (c.kind.ensures ∙ ap (λ k. Some (kind_of c.args.plan.now.sets k)) c.in-Publish.is)

pub returns-in_default : goal.returns-in_default
returns-in_default c = λ name. publishes_none name c.args.plan.now.sets c.kind.result _ c.kind.ensures c.in_default.not-Publish

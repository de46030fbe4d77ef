use Rattle.std.proofs.Common.{◌∙◌, ap}
use Rattle.wire_scripts.specs.contracts.scripts.Scripts.{the_view}
use Rattle.wire_scripts.specs.Planned.{plan_of}
use Rattle.wire_scripts.proofs.Migrated.{same_plan}
use Rattle.wire_scripts.proofs.scripts.Scripts.into_version_2.Goals as goal

pub returns-clause-plan : goal.returns-clause-plan
returns-clause-plan c = same_plan (the_view c.self.inside) ∙ ap plan_of c.self.view_is

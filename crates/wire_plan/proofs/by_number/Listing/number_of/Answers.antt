use Rattle.std.proofs.Common.{◌∙◌, Some, ap}
use Rattle.wire_plan.specs.Kinds.{kind_of}
use Rattle.wire_plan.specs.Tables.{is_listed}
use Rattle.wire_plan.proofs.Grown.{place}
use Rattle.wire_plan.proofs.by_number.Listing.number_of.Goals as goal

pub returns-in-Publishes : goal.returns-in-Publishes
returns-in-Publishes c = λ plan sets number at. ap (λ l. is_listed plan l number (place c.args.proc.number at) (Some (kind_of sets c.args.kind))) c.in-Publishes.is
    ∙ c.name_published.ensures plan sets number (place c.args.proc.number at)

pub returns-in-Takes : goal.returns-in-Takes
returns-in-Takes c = λ plan sets number at. ap (λ l. is_listed plan l number (place c.args.proc.number at) (Some (kind_of sets c.args.kind))) c.in-Takes.is
    ∙ c.name_taken.ensures plan sets number (place c.args.proc.number at)

pub returns-in-Sweeps : goal.returns-in-Sweeps
returns-in-Sweeps c = λ plan sets number at. ap (λ l. is_listed plan l number (place c.args.proc.number at) (Some (kind_of sets c.args.kind))) c.in-Sweeps.is ∙ c.proc_swept.ensures plan sets number at

pub returns-in-NameCalls : goal.returns-in-NameCalls
returns-in-NameCalls c = λ plan sets number at.
    ap (λ l. is_listed plan l number (place c.args.proc.number at) (Some (kind_of sets c.args.kind))) c.in-NameCalls.is ∙ c.name_called.ensures plan sets number (place c.args.proc.number at)

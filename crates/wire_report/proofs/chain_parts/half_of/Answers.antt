use Rattle.std.proofs.Common.{ap, sym, Some}
use Rattle.wire_plan.specs.Kinds.{kind_of}
use Rattle.wire_report.specs.Chain.{half_of}
use Rattle.wire_report.proofs.chain_parts.half_of.Goals as goal

pub returns-in-Arrive : goal.returns-in-Arrive
returns-in-Arrive c sets = sym (ap (λ k. half_of (Some (kind_of sets k))) c.in-Arrive.is)

use Rattle.std.proofs.Common.{◌∙◌, sym}
use Rattle.std.proofs.lemmas.Bool.{true≢false}
use Rattle.wire_scripts.specs.Planned.{plan_of}
use Rattle.wire_runs.specs.Plan.{event_of}
use Rattle.wire_portable.proofs.NamesFound.{never_missed}
use Rattle.wire_portable.proofs.names.is_missed.Goals as goal

pub returns-then-settled : goal.returns-then-settled
returns-then-settled c = λ no name is. never_missed (plan_of c.args.marked.now) name (event_of c.args.event) (c.requires.settled c.if-settled.true) is (λ s answer r at tells. true≢false (sym (c.is_replied.ensures s answer r at tells) ∙ no))

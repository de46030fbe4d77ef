use Rattle.std.proofs.Common.{◌∙◌, sym}
use Rattle.std.proofs.lemmas.Bool.{true≢false}
use Rattle.wire_scripts.specs.Planned.{plan_of}
use Rattle.wire_runs.specs.Plan.{event_of}
use Rattle.wire_portable.proofs.NamesFound.{never_duplicate, only_free}
use Rattle.wire_portable.proofs.names.is_published.Goals as goal

pub returns-then-settled : goal.returns-then-settled
returns-then-settled c = λ no. never_duplicate (plan_of c.args.marked.now) c.args.name (event_of c.args.event) (c.requires.settled c.if-settled.true) c.requires.is (λ s answer r at tells. true≢false (sym (c.is_replied.ensures s answer r at tells) ∙ no))

pub returns-else-settled : goal.returns-else-settled
returns-else-settled c = λ no. only_free (plan_of c.args.marked.now) c.args.name (event_of c.args.event) c.requires.is (c.may_be_there.ensures no)

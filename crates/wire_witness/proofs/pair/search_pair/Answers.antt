use Rattle.std.proofs.Common.{subst, IfOk}
use Rattle.wire_witness.specs.Searches.{IsPairSearch}
use Rattle.wire_witness.proofs.pair.search_pair.Goals as goal

pub returns-clause-ok : goal.returns-clause-ok
returns-clause-ok c =
    subst (λ s. IfOk c.search_calls-search.result (IsPairSearch s c.args.calls.0 c.args.calls.1)) c.with.ensures c.search_calls-search.ensures.ok

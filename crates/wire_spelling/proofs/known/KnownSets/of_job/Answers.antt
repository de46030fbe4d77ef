use Rattle.std.proofs.Common.{ap}
use Rattle.std.specs.Map.{lookup}
use Rattle.std.specs.Str.{bytes_eq}
use Rattle.wire_spelling.proofs.known.KnownSets.of_job.Goals as goal

pub returns-clause-none : goal.returns-clause-none
returns-clause-none c = λ text. ap (λ es. lookup (λ k. bytes_eq text k.items) es) c.new.ensures.empty

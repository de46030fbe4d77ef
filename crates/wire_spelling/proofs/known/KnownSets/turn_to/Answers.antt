use Rattle.std.proofs.Common.{◌∙◌, sym}
use Rattle.std.proofs.lemmas.Slice.Eq.{bytes_eq-Decides}
use Rattle.wire_spelling.proofs.KnownSets.{none_known}
use Rattle.wire_spelling.proofs.known.KnownSets.turn_to.Goals as goal

pub returns-then-not-is_of-clause-known : goal.returns-then-not-is_of-clause-known
returns-then-not-is_of-clause-known c = λ table are. none_known table c.of_job.result c.of_job.ensures.none

pub returns-else-not-is_of-clause-job : goal.returns-else-not-is_of-clause-job
returns-else-not-is_of-clause-job c = (bytes_eq-Decides _ _).0 (sym c.is_of.ensures ∙ c.if-not-is_of.false)

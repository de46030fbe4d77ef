use Rattle.wire_runs.proofs.RestrictedWhole.{restrictions_embed}
use Rattle.wire_runs.proofs.embedding_laws.restrictions_embed.Goals as goal

pub returns : goal.returns
returns c = restrictions_embed

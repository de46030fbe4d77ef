use Rattle.wire_runs.proofs.Parts.{parts_embed}
use Rattle.wire_runs.proofs.embedding_laws.parts_embed.Goals as goal

pub returns : goal.returns
returns c = parts_embed

use Rattle.std.proofs.Common.{◌∙◌}
use Rattle.std.specs.Str.{bytes_eq}
use Rattle.wire_reader.proofs.TextTable.{place_none}
use Rattle.wire_reader.proofs.numbered_texts.NumberedTexts.number_or_count.Goals as goal

pub returns-in-None : goal.returns-in-None
returns-in-None c = c.len.ensures ∙ place_none (bytes_eq c.args.text.now) c.args.self.now c.in-None.ensures

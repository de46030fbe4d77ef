use Rattle.std.proofs.Common.{◌∙◌, ap}
use Rattle.std.specs.List.{list_any}
use Rattle.std.specs.Str.{bytes_eq}
use Rattle.wire_reader.proofs.TextTable.{any_of}
use Rattle.wire_reader.proofs.numbered_texts.NumberedTexts.contains.Goals as goal

pub returns : goal.returns
returns c = c.contains.ensures ∙ any_of (λ v. v.items) (bytes_eq c.args.text.now) c.self.inside.set.keys ∙ ap (list_any (bytes_eq c.args.text.now)) c.self.view_is

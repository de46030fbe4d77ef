use Rattle.std.proofs.Common.{◌∙◌, ap, position}
use Rattle.std.specs.Str.{bytes_eq}
use Rattle.wire_reader.proofs.TextTable.{position_of}
use Rattle.wire_reader.proofs.numbered_texts.NumberedTexts.number_of.Goals as goal

pub returns-in-Some : goal.returns-in-Some
returns-in-Some c = c.in-Some.ensures.index ∙ position_of (λ v. v.items) (bytes_eq c.args.text.now) c.self.inside.set.keys ∙ ap (position (bytes_eq c.args.text.now)) c.self.view_is

pub returns-in-None : goal.returns-in-None
returns-in-None c = c.in-None.ensures.index ∙ position_of (λ v. v.items) (bytes_eq c.args.text.now) c.self.inside.set.keys ∙ ap (position (bytes_eq c.args.text.now)) c.self.view_is

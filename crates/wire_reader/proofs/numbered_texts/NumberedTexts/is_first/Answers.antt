use Rattle.std.proofs.Common.{◌≡◌, ◌∙◌, sym, ap, Some, option_map, slice_get}
use Rattle.std.specs.Str.{bytes_eq}
use Rattle.std.proofs.lemmas.Option.{slice_get-map}
use Rattle.wire_reader.proofs.TextTable.{first_found, first_fails}
use Rattle.wire_reader.proofs.numbered_texts.NumberedTexts.is_first.Goals as goal

pub returns-in-Some : goal.returns-in-Some
returns-in-Some c =
    let keys = c.self.inside.set.keys in
    let first : slice_get c.args.self.now 0 ≡ Some c.in-Some.first.now.items =
    ap (λ l. slice_get l 0) (sym c.self.view_is) ∙ slice_get-map (λ v. v.items) keys 0 ∙ ap (option_map (λ v. v.items)) (sym c.in-Some.ensures.key) in
    let equal : c.eq.result ≡ bytes_eq c.args.text.now c.in-Some.first.now.items = c.eq.ensures ∙ ap (bytes_eq c.args.text.now) c.as_slice.ensures.value in
    record {
      first = λ same. first_found (bytes_eq c.args.text.now) c.args.self.now c.in-Some.first.now.items first (sym equal ∙ same);
      other = λ differs. first_fails (bytes_eq c.args.text.now) c.args.self.now c.in-Some.first.now.items first (sym equal ∙ differs);
    }

use Rattle.std.proofs.Common.{◌∙◌, length, None, get_or, refl, sym, ap}
use Rattle.std.proofs.lemmas.Option.{slice_get_read, get_or_from_slice_get}
use Rattle.wire_names.proofs.names.Names.lookup.Goals as goal

pub returns-in-Some : goal.returns-in-Some
returns-in-Some c =
    let table = c.deref.result.now in
    let lookup = c.in-Some.ensures.lookup in
    let there = slice_get_read table (length table) c.args.name c.in-Some.standing.now refl lookup.3.0 lookup.1 in
    sym (get_or_from_slice_get table c.args.name c.in-Some.standing.now None there)
    ∙ ap (λ names. get_or names c.args.name None) (c.deref.ensures.value ∙ c.self.view_is)

use Rattle.std.proofs.Common.{◌∙◌, ap, sym, refl, length}
use Rattle.std.proofs.lemmas.Option.{slice_get_read}
use Rattle.wire_pattern_waits.specs.Lines.{name_in}
use Rattle.wire_pattern_waits.proofs.Pieces.{last_piece, role_at, none_named}
use Rattle.wire_pattern_waits.proofs.text.write_role.Goals as goal

pub returns-in-Some : goal.returns-in-Some
returns-in-Some c =
    let roles = c.roles.result.now in
    let lookup = c.in-Some.ensures.lookup in
    last_piece c.extend_from_slice.result c.args.out.now.items c.extend_from_slice.new.self.items c.as_slice.result.now _ c.extend_from_slice.ensures.items
    (c.as_slice.ensures.value ∙ ap name_in (sym (role_at c.args.pattern.now roles c.args.role c.in-Some.role.now c.roles.ensures.roles
    (slice_get_read roles (length roles) c.args.role c.in-Some.role.now refl lookup.3.0 lookup.1))))

pub returns-in-None : goal.returns-in-None
returns-in-None c =
    none_named c.args.pattern.now c.roles.result.now c.args.role c.args.out.now.items c.roles.ensures.roles c.in-None.ensures.lookup.3

use Rattle.std.proofs.Common.{◌∙◌, ap, sym, refl, subst, length}
use Rattle.std.proofs.lemmas.Option.{slice_get_read, slice_get_past}
use Rattle.wire_plan.specs.Keys.{row_in, IsKeyRow}
use Rattle.wire_plan.proofs.keys.KeyTable.row.Goals as goal

pub returns-in-Some-clause-at : goal.returns-in-Some-clause-at
returns-in-Some-clause-at c =
    let rows = c.args.self.now.rows.items in
    let lookup = rw (c.deref.ensures.value, c.index.ensures) at c.in-Some.ensures.lookup in
    let found = slice_get_read rows (length rows) c.args.owner.number c.in-Some.rows.now refl lookup.3.0 lookup.1 in
    c.row.ensures ∙ ap (λ o. row_in o c.args.key) (sym found)

pub returns-in-Some-clause-is : goal.returns-in-Some-clause-is
returns-in-Some-clause-is c = λ plan are.
    subst (IsKeyRow plan c.args.owner.number c.args.key) (sym (returns-in-Some-clause-at c)) (are c.args.owner.number c.args.key)

pub returns-in-None-clause-at : goal.returns-in-None-clause-at
returns-in-None-clause-at c =
    let lookup = rw (c.deref.ensures.value, c.index.ensures) at c.in-None.ensures.lookup in
    ap (λ o. row_in o c.args.key) (sym (slice_get_past c.args.self.now.rows.items c.args.owner.number lookup.3))

pub returns-in-None-clause-is : goal.returns-in-None-clause-is
returns-in-None-clause-is c = λ plan are.
    subst (IsKeyRow plan c.args.owner.number c.args.key) (sym (returns-in-None-clause-at c)) (are c.args.owner.number c.args.key)

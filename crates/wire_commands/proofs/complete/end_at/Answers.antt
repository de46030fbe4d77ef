use Rattle.std.proofs.Common.{◌≡◌, ◌∙◌, ap, sym, refl, ℕ, List, Option, Vec, Global, length, arith, map, slice_get, option_map}
use Rattle.std.proofs.lemmas.Option.{slice_get-map, slice_get_read, slice_get_past}
use Rattle.wire_types.specs.declared.CallEnd.{CallEnd}
use Rattle.wire_commands.specs.Complete.{end_or_none, row_or_none}
use Rattle.wire_commands.proofs.complete.end_at.Goals as goal

-- what became of a call, by what is found of its row
by_row : (rows : List (Vec CallEnd Global)) (p n : ℕ) (o : Option (Vec CallEnd Global)) → slice_get rows p ≡ o →
    end_or_none (slice_get (row_or_none (slice_get (map (λ r. r.items) rows) p)) n) ≡ end_or_none (slice_get (row_or_none (option_map (λ r. r.items) o)) n)
by_row rows p n o is = ap (λ r. end_or_none (slice_get (row_or_none r) n)) (slice_get-map (λ r. r.items) rows p ∙ ap (option_map (λ r. r.items)) is)

pub returns-in-Some-get : goal.returns-in-Some-get
returns-in-Some-get c =
    let rows = c.args.outcome.now.rows.items in
    let found = rw (c.deref.ensures.value, c.index.ensures) at c.in-Some.ensures.lookup in
    let row = slice_get_read rows (length rows) c.args.proc.number c.in-Some.row.now refl found.3.0 found.1 in
    let ends = c.in-Some.row.now.items in
    let told = rw c.deref-in-Some.ensures.value at c.in-Some-get.ensures.lookup in
    let end = slice_get_read ends (length ends) c.args.call c.in-Some-get.end.now refl told.3.0 told.1 in
    sym (by_row rows c.args.proc.number c.args.call _ row ∙ ap end_or_none end)

pub returns-in-None-get : goal.returns-in-None-get
returns-in-None-get c =
    let rows = c.args.outcome.now.rows.items in
    let found = rw (c.deref.ensures.value, c.index.ensures) at c.in-Some.ensures.lookup in
    let row = slice_get_read rows (length rows) c.args.proc.number c.in-Some.row.now refl found.3.0 found.1 in
    let missed = rw c.deref-in-Some.ensures.value at c.in-None-get.ensures.lookup in
    let past = slice_get_past c.in-Some.row.now.items c.args.call (omega (arith, missed.3)) in
    sym (by_row rows c.args.proc.number c.args.call _ row ∙ ap end_or_none past)

pub returns-in-None : goal.returns-in-None
returns-in-None c =
    let rows = c.args.outcome.now.rows.items in
    let missed = rw (c.deref.ensures.value, c.index.ensures) at c.in-None.ensures.lookup in
    sym (by_row rows c.args.proc.number c.args.call _ (slice_get_past rows c.args.proc.number (omega (arith, missed.3))))

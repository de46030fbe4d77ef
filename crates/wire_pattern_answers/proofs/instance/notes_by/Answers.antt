use Rattle.std.proofs.Common.{◌++◌, length, ◌∙◌, ap, refl, get_or, arith}
use Rattle.std.proofs.lemmas.List.{length-map}
use Rattle.std.proofs.lemmas.Option.{slice_get_read}
use Rattle.std.specs.Prelude.{slice_get}
use Rattle.wire_types.specs.Texts.{lists_of}
use Rattle.wire_scripts.specs.Scripts.{calls_in}
use Rattle.wire_pattern.specs.Planned.{steps_in}
use Rattle.wire_instances.specs.Views.{cast_by}
use Rattle.wire_instances.proofs.Texts.{get_or_same}
use Rattle.wire_pattern_waits.specs.Places.{steps_places}
use Rattle.wire_pattern_answers.specs.Notes.{process_notes, notes_from}
use Rattle.wire_pattern_answers.proofs.Walks.{rows_end, rows_step}
use Rattle.wire_pattern_answers.proofs.instance.notes_by.Goals as goal

pub returns-in_default : goal.returns-in_default
returns-in_default c =
    let rows = c.args.rows.now in
    let past = c.in_default.ensures.lookup.3 in
    rows_end c.args.pattern.now (cast_by c.args.cast.now) c.args.scripts.now c.loop-number.number c.deref-role-items.result.now (lists_of rows) c.loop-number.notes.items _
    (omega (arith, past, length-map rows (λ r. r.items))) c.loop-number.invariant
    ∙ ap (λ roles. notes_from c.args.pattern.now (cast_by c.args.cast.now) c.args.scripts.now 0 roles (lists_of rows)) (c.deref-role-items.ensures.value ∙ c.in_ok-roles.ensures.roles)

pub loop-number-preserved : goal.loop-number-preserved
loop-number-preserved c =
    let roles = c.deref-role-items.result.now in
    let rows = c.args.rows.now in
    let n = c.loop-number.number in
    let lookup = c.in-Some.ensures.lookup in
    rows_step c.args.pattern.now (cast_by c.args.cast.now) c.args.scripts.now n (get_or roles n 0) roles rows c.in-Some.row.now
    c.loop-number.notes.items c.add_process.new.out.items _ c.loop-number-test.true (get_or_same roles n 0 c.loop-number-test.true)
    (slice_get_read rows (length rows) n c.in-Some.row.now refl lookup.3.0 lookup.1)
    (c.in_ok-add_process.ensures ∙ ap (λ row. c.loop-number.notes.items ++ process_notes (get_or roles n 0) row (calls_in (slice_get c.args.scripts.now.processes n))
    (steps_places (cast_by c.args.cast.now) n 0 1 (steps_in (slice_get c.args.pattern.now.roles (get_or roles n 0))))) c.as_slice.ensures.value) c.loop-number.invariant

use Rattle.std.proofs.Common.{◌∙◌, ap, sym, refl, length, map, arith}
use Rattle.std.specs.Prelude.{option_map, is_some}
use Rattle.std.proofs.lemmas.List.{length-map}
use Rattle.std.proofs.lemmas.Option.{slice_get-map, slice_get_read}
use Rattle.wire_runs.specs.Plan.{event_of}
use Rattle.wire_anywhere.proofs.Firsts.{is_first, another_there, nothing_there, past_end}
use Rattle.wire_anywhere.proofs.carriers.first_of.Goals as goal

pub returns-in-Some : goal.returns-in-Some
returns-in-Some c =
    let list = c.args.list.now in
    let lookup = c.in-Some.ensures.lookup in
    is_first (map event_of list) c.requires c.args.proc.number c.count_below.result (c.count_below.ensures c.requires) (event_of c.in-Some.event.now)
    (slice_get-map event_of list c.count_below.result ∙ ap (option_map event_of) (slice_get_read list (length list) c.count_below.result c.in-Some.event.now refl lookup.3.0 lookup.1))
    c.if-event-proc.true

pub returns-in_default : goal.returns-in_default
returns-in_default c =
    let list = c.args.list.now in
    let lookup = c.in-Some.ensures.lookup in
    another_there (map event_of list) c.requires c.args.proc.number c.count_below.result (c.count_below.ensures c.requires) (event_of c.in-Some.event.now)
    (slice_get-map event_of list c.count_below.result ∙ ap (option_map event_of) (slice_get_read list (length list) c.count_below.result c.in-Some.event.now refl lookup.3.0 lookup.1))
    c.if-event-proc.false

pub returns-in_default-2 : goal.returns-in_default-2
returns-in_default-2 c =
    let list = c.args.list.now in
    nothing_there (map event_of list) c.requires c.args.proc.number c.count_below.result (c.count_below.ensures c.requires)
    (let size = length-map list event_of in
    let past = past_end c.count_below.result (length list) (ap is_some (sym c.in_default.is) ∙ c.get.ensures.lookup.0) in
    omega (arith, size, past))

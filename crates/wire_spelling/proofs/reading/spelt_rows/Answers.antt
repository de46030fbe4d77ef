use Rattle.std.proofs.Common.{ap, ◌∙◌, arith, drop}
use Rattle.wire_spelling.proofs.ReadSets.{has_first, others_numbered}
use Rattle.wire_spelling.proofs.reading.spelt_rows.Goals as goal

pub remove-requires : goal.remove-requires
remove-requires c =
    let so = c.in_ok-reading.ensures in
    let some = has_first c.end_row.new.self so.so_far c.args.text.now so.whole (c.in_ok-end_row.ensures so.so_far so.read) in
    let count = c.end_row.new.self.done.ok.0 in
    rw c.replace-rows.ensures.value (omega (arith, some, count))

pub returns : goal.returns
returns c =
    let so = c.in_ok-reading.ensures in
    others_numbered c.end_row.new.self so.so_far c.args.text.now so.whole (c.in_ok-end_row.ensures so.so_far so.read) c.are_apart.ensures c.remove.new.self.items
    (c.remove.ensures.by_index.2 ∙ ap (λ v. drop 1 v.items) c.replace-rows.ensures.value)

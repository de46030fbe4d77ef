use Rattle.std.proofs.Common.{◌≡◌, ◌∙◌, ◌++◌, ◌∷◌, [], ap, sym, map, length, arith}
use Rattle.std.specs.List.{range_with_len}
use Rattle.wire_procmap.specs.Rows.{row_of}
use Rattle.wire_procmap.proofs.Rows.{rows_more}
use Rattle.wire_procmap.proofs.row.rows_of.Goals as goal

pub loop-index-init : goal.loop-index-init
loop-index-init c = record { made = c.in_ok-made.ensures.items; counts = c.new-counts.ensures }

pub loop-index-preserved : goal.loop-index-preserved
loop-index-preserved c =
    let processes = c.args.processes.now in
    let n = c.loop-index.index in
    record {
      made = c.in_ok-push.ensures.items ∙ ap (λ rows. rows ++ c.in_ok-row_of.field-0 ∷ []) c.loop-index.invariant.made
          ∙ ap (λ row. map (row_of processes) (range_with_len 0 n) ++ row ∷ []) c.in_ok-row_of.ensures.row ∙ sym (rows_more processes n);
      counts = c.in_ok-row_of.ensures.counted;
    }

pub returns : goal.returns
returns c =
    let over : c.loop-index.index ≡ length c.args.processes.now = omega arith in
    c.loop-index.invariant.made ∙ ap (λ n. map (row_of c.args.processes.now) (range_with_len 0 n)) over

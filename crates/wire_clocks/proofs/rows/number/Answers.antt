use Rattle.std.proofs.Common.{◌∙◌, ◌/◌, ◌^◌, ◌-◌, sym, ap, arith}
use Rattle.wire_clocks.specs.Rows.{tree_says, entry}
use Rattle.wire_clocks.proofs.Growing.{says_zero, says_down, says_low}
use Rattle.wire_clocks.proofs.rows.number.Goals as goal

pub returns-then-row-eq0 : goal.returns-then-row-eq0
returns-then-row-eq0 c =
    let rows = c.args.rows.now in
    sym (says_zero rows c.requires.zero c.down.level c.down.rest) ∙ ap (λ n. tree_says rows c.down.level n c.down.rest) (sym c.if-row-eq0.true) ∙ c.down.invariant.same

pub down-preserved : goal.down-preserved
down-preserved c =
    let rows = c.args.rows.now in
    let below = c.down.level - 1 in
    record {
      low = omega arith;
      same = ap (λ n. tree_says rows below n c.place_below-rest.result) (c.entry-row.ensures ∙ ap (entry rows c.down.row) c.place.ensures)
          ∙ ap (tree_says rows below (entry rows c.down.row (c.down.rest / 16 ^ below))) c.place_below-rest.ensures ∙ sym (says_down rows c.down.level c.down.row c.down.rest (omega arith))
          ∙ c.down.invariant.same;
    }

pub returns : goal.returns
returns c = sym (says_low c.args.rows.now c.down.level c.down.row c.down.rest (omega arith)) ∙ c.down.invariant.same

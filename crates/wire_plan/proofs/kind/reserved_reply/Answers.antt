use Rattle.std.proofs.Common.{◌≡◌, ◌∙◌, ◌<◌, ◌≤◌, ℕ, nat_lt, ap, sym, length, arith}
use Rattle.std.proofs.lemmas.Bool.{cond-true, cond-false, lt-ltb, le-ltb}
use Rattle.wire_types.specs.Replies.{bare}
use Rattle.wire_types.specs.declared.Status.TheVariants.{NotFound}
use Rattle.wire_scripts.specs.Scripts.{Scripts, text_at}
use Rattle.wire_scripts.specs.Reserved.{reserved_reply}
use Rattle.wire_scripts.specs.Planned.{reply_of_key}
use Rattle.wire_procmap.specs.Map.{row_count}
use Rattle.wire_procmap.proofs.Tables.{count_of_map}
use Rattle.wire_plan.proofs.kind.reserved_reply.Goals as goal

pub reserved-requires : goal.reserved-requires
reserved-requires c =
    let count : row_count c.args.places.now ≡ length c.args.scripts.now.processes = ap row_count c.requires ∙ count_of_map c.args.scripts.now in
    let here = ap length c.processes.ensures.processes in
    let there = c.if-index-processes.true in
    let index = c.index.ensures in
    omega (arith, count, here, there, index)

module _ (s : Scripts) (owner key : ℕ) where
  within : owner < length s.processes → reply_of_key s owner key ≡ reserved_reply s.processes owner (text_at s.keys key)
  within there = cond-true (nat_lt owner (length s.processes)) (reserved_reply s.processes owner (text_at s.keys key)) (bare NotFound) (lt-ltb owner (length s.processes) there)

  past : length s.processes ≤ owner → reply_of_key s owner key ≡ bare NotFound
  past over = cond-false (nat_lt owner (length s.processes)) (reserved_reply s.processes owner (text_at s.keys key)) (bare NotFound) (le-ltb owner (length s.processes) over)

pub returns-then-index-processes : goal.returns-then-index-processes
returns-then-index-processes c =
    let here = ap length c.processes.ensures.processes in
    let there = c.if-index-processes.true in
    let index = c.index.ensures in
    c.reserved.ensures c.args.scripts.now c.requires ∙ sym (within c.args.scripts.now c.args.owner.number c.args.key (omega (arith, here, there, index)))

pub returns-else-index-processes : goal.returns-else-index-processes
returns-else-index-processes c =
    let here = ap length c.processes.ensures.processes in
    let there = c.if-index-processes.false in
    let index = c.index.ensures in
    c.bare.ensures ∙ sym (past c.args.scripts.now c.args.owner.number c.args.key (omega (arith, here, there, index)))

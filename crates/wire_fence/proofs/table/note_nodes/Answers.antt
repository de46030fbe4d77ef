use Rattle.std.proofs.Common.{◌∙◌, ◌<◌, ◌==◌, length, sym, ap, arith}
use Rattle.std.proofs.lemmas.List.{get_or-map, length-map}
use Rattle.wire_types.specs.declared.Proc.{Proc}
use Rattle.wire_scripts.specs.Scripts.{numbers_of}
use Rattle.wire_scripts.specs.Map.{node_at}
use Rattle.wire_fence.specs.FenceTable.{is_noted}
use Rattle.wire_fence.proofs.Nodes.{noted_none, noted_more}
use Rattle.wire_fence.proofs.table.note_nodes.Goals as goal

abbrev no_proc : Proc
no_proc = record { number = 0 }

pub loop-member-init : goal.loop-member-init
loop-member-init c = λ s other node same. noted_none (is_noted c.args.reached.now.keys other node) (other == c.args.set)

pub node_of-requires : goal.node_of-requires
node_of-requires c =
    let low : c.loop-member.member-index < length c.args.members.now = omega arith in
    let within = c.requires c.loop-member.member-index low in
    let same = get_or-map (λ (p : Proc). p.number) c.args.members.now c.loop-member.member-index no_proc 0 low in
    omega (arith, within, same)

pub loop-member-preserved : goal.loop-member-preserved
loop-member-preserved c = λ s other node same.
    let low : c.loop-member.member-index < length c.args.members.now = omega arith in
    let len = length-map c.args.members.now (λ (p : Proc). p.number) in
    noted_more s (numbers_of c.args.members.now) c.loop-member.member-index other node c.args.set c.node_of.result c.args.reached.now.keys c.loop-member.reached.keys c.insert.new.self.keys
    (omega (arith, low, len))
    (c.loop-member.invariant s other node same)
    (c.node_of.ensures s same ∙ ap (node_at s.processes) (sym (get_or-map (λ (p : Proc). p.number) c.args.members.now c.loop-member.member-index no_proc 0 low)))
    (c.in_ok-insert.ensures.updates.0 (other, node))

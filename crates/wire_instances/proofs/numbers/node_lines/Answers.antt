use Rattle.std.proofs.Common.{◌≡◌, ◌∙◌, ◌+◌, ◌-◌, ◌<◌, ap, length, drop, length-set, arith}
use Rattle.std.proofs.lemmas.List.{get_or_read, length-replicate}
use Rattle.std.specs.Prelude.{slice_index_or}
use Rattle.wire_pattern.specs.Instances.{cast_of, node_line}
use Rattle.wire_instances.proofs.NodeLines.{no_lines, line_set, node_there, role_count}
use Rattle.wire_instances.proofs.numbers.node_lines.Goals as goal

pub processes-init : goal.processes-init
processes-init c =
    let f = c.args.frame.now in
    let nodes = c.cast.result.now.nodes in
    let len : c.len-process.result ≡ nodes.of.len = c.len-process.ensures in
    let all : c.len-process.result ≡ length nodes.of.items = omega (arith, len, nodes.of.ok.0) in
    let made = c.in_ok-lines.ensures.items_if_clones_equal (λ y is. is) in
    record {
      left = omega (arith, all);
      count = ap length made ∙ length-replicate nodes.count 0 ∙ ap (λ k. k.node_count) c.cast.ensures.value;
      lines = λ n h. no_lines f.pattern (cast_of f.cast).roles nodes.of.items c.in_ok-lines.lines.items nodes.count c.len-process.result n
          made all;
    }

pub processes-preserved : goal.processes-preserved
processes-preserved c =
    let f = c.args.frame.now in
    let roles = (cast_of f.cast).roles in
    let nodes = c.cast.result.now.nodes.of.items in
    let lines = c.processes.lines.items in
    let v = c.processes.process - 1 in
    let back : c.processes.process ≡ v + 1 = omega (arith, c.processes-test.true) in
    let those = ap (λ k. k.nodes) c.cast.ensures.value in
    let many = role_count f.pattern f.cast nodes c.cast.ensures.of_pattern those in
    let left = c.processes.invariant.left in
    let low : v < length nodes = omega (arith, left, c.processes-test.true) in
    let there : v < length roles = omega (arith, low, many) in
    let node : c.index.result.now ≡ slice_index_or nodes v 0 = get_or_read nodes v c.index.result.now low c.index.ensures 0 in
    let count = c.processes.invariant.count in
    let within : c.index.result.now < length lines = omega (arith, node, count, node_there f.pattern f.cast nodes v c.cast.ensures.of_pattern those low) in
    record {
      left = omega (arith, left);
      count = length-set lines c.index.result.now c.role_line.result ∙ count;
      lines = λ n h. line_set f.pattern roles nodes lines v c.index.result.now c.role_line.result n there low node c.role_line.ensures within
          (c.processes.invariant.lines n h ∙ ap (λ m. node_line f.pattern n (drop m roles) (drop m nodes)) back);
    }

use Rattle.std.proofs.Common.{◌∙◌, ◌∷◌, [], ap, Bool, if◌then◌else◌}
use Rattle.wire_pattern.specs.Instances.{nodes_lines, jobs_lines}
use Rattle.wire_instances.specs.Views.{cast_by}
use Rattle.wire_instances.specs.Search.{past}
use Rattle.wire_instances.proofs.Searches.{line_found}
use Rattle.wire_instances.proofs.numbers.find_line.Goals as goal
use Rattle.wire_instances.proofs.numbers.find_line.Goals.{then-keeps, else-keeps}

pub returns : goal.returns
returns c =
    let kept = λ (b : Bool). past c.pass.new.self (if b then 0 ∷ [] else []) in
    c.line.ensures
    ∙ line_found c.args.pattern.now (cast_by c.args.cast.now) c.args.line c.of-search.result c.pass.new.self c.if-keeps.search c.pass_nodes.new.search
    c.pass_jobs.new.search
    c.of-search.ensures c.pass.ensures
    (elim c.if-keeps.branch [
      | then-keeps w ↦ w.search-is ∙ w.pass-then-keeps.ensures ∙ ap kept w.if-keeps.ensures
      | else-keeps w ↦ w.search-is ∙ ap kept
          w.if-keeps.ensures
    ])
    (c.in_ok-pass_nodes.ensures ∙ ap (λ f. past c.if-keeps.search (nodes_lines f.pattern f.cast 0 f.cast.node_count)) c.in_ok-frame.ensures)
    (c.in_ok-pass_jobs.ensures ∙ ap (λ f. past c.pass_nodes.new.search (jobs_lines f.pattern f.cast 0 f.pattern.jobs)) c.in_ok-frame.ensures)

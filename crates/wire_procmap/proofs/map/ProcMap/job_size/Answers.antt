use Rattle.std.proofs.Common.{◌∙◌, ◌==◌, ap, count_by}
use Rattle.wire_procmap.specs.declared.row.ProcessNumbers.{ProcessNumbers}
use Rattle.wire_procmap.specs.Map.{Map}
use Rattle.wire_procmap.proofs.Tables.{size_in_map}
use Rattle.wire_procmap.proofs.map.ProcMap.job_size.Goals as goal

pub returns : goal.returns
returns c =
    let all = c.deref.ensures.value ∙ ap (λ (m : Map). m.rows) c.self.view_is in
    size_in_map c.args.self.now c.args.job c.size_in.result (c.size_in.ensures ∙ ap (count_by (λ (r : ProcessNumbers). r.job == c.args.job)) all)

use Rattle.std.proofs.Common.{◌∙◌, ap, get_or}
use Rattle.wire_procmap.specs.declared.row.ProcessNumbers.{ProcessNumbers}
use Rattle.wire_procmap.specs.Map.{Map}
use Rattle.wire_procmap.proofs.Tables.{row_in}
use Rattle.wire_procmap.proofs.map.ProcMap.numbers.Goals as goal

pub returns : goal.returns
returns c = λ s is.
    let none : ProcessNumbers = record { job = 0; node = 0; rank = 0; local_rank = 0; node_rank = 0; job_size = 0 } in
    let all = c.as_slice-rows.ensures.value ∙ ap (λ (m : Map). m.rows) c.self.view_is in
    ap (λ rows. get_or rows c.index.result none) all ∙ ap (λ i. get_or c.args.self.now.rows i none) c.index.ensures ∙ row_in c.args.self.now c.args.proc.number none c.requires s is

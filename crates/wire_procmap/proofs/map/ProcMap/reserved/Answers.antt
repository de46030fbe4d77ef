use Rattle.std.proofs.Common.{◌∙◌, ap}
use Rattle.wire_scripts.specs.Scripts.{text_at}
use Rattle.wire_procmap.specs.declared.row.ProcessNumbers.{ProcessNumbers}
use Rattle.wire_procmap.specs.Rows.{row_of, reply_of}
use Rattle.wire_procmap.proofs.Keys.{reply_of_kind}
use Rattle.wire_procmap.proofs.map.ProcMap.reserved.Goals as goal

pub returns : goal.returns
returns c = λ s is.
    c.reply.ensures
    ∙ ap (λ (r : ProcessNumbers). reply_of r c.kind.result) (c.numbers.ensures s is)
    ∙ ap (reply_of (row_of s.processes c.args.proc.number)) (c.kind.ensures s is)
    ∙ reply_of_kind s.processes c.args.proc.number (text_at s.keys c.args.key)

use Rattle.std.proofs.Common.{ap, ◌∙◌, ◌+◌}
use Rattle.wire_words.proofs.OnItsWay.{went_out, cut_off}
use Rattle.wire_words.proofs.chunks.Chunk.flush.Goals as goal

pub returns-in-Ok-clause-ok : goal.returns-in-Ok-clause-ok
returns-in-Ok-clause-ok g c =
    went_out _ _ c.args.self.now (record { waiting = c.clear.new.self; gone = c.args.self.now.gone + c.len.result }) c.as_slice.result.now c.as_slice.ensures.value c.in-Ok.ensures.ok
    c.clear.ensures.items
    (ap (λ n. c.args.self.now.gone + n) (c.len.ensures ∙ c.args.self.now.waiting.ok.0))

pub returns-in-Err-clause-err : goal.returns-in-Err-clause-err
returns-in-Err-clause-err g c = cut_off _ _ c.args.self.now c.as_slice.result.now c.in-Err.n c.as_slice.ensures.value c.in-Err.ensures.short c.in-Err.ensures.err

use Rattle.std.proofs.Common.{◌∙◌, inr, subst, ℕ, List}
use Rattle.std.proofs.lemmas.Result.{IfErr-weaker, on_ok_weaker}
use Rattle.std.specs.Io.KnownBytes.{Appends}
use Rattle.wire_types.specs.Front.{WritesFront}
use Rattle.wire_report.proofs.Ends.{where_ok, front_of}
use Rattle.wire_report.proofs.report.write_report.Goals as goal

pub returns-clause-ok : goal.returns-clause-ok
returns-clause-ok g c =
    on_ok_weaker c.map_err.result
    (λ out. subst (λ (t : List ℕ). Appends (g.S.Sink.written c.args.sink.now) (g.S.Sink.written c.write_out.new.sink) t) (c.as_slice.ensures.value ∙ c.in_ok-text.ensures.ok) out)
    (where_ok c.write_out.result c.map_err.result _ c.map_err.ensures.variant c.write_out.ensures.ok)

pub returns-clause-err : goal.returns-clause-err
returns-clause-err g c =
    IfErr-weaker c.map_err.result _ _
    (λ e out. inr (subst (λ (t : List ℕ). WritesFront (g.S.Sink.written c.args.sink.now) (g.S.Sink.written c.write_out.new.sink) t e) (c.as_slice.ensures.value ∙ c.in_ok-text.ensures.ok) out))
    (front_of c.write_out.result c.map_err.result _ _ c.as_slice.result.now c.map_err.ensures.cases c.write_out.ensures.err c.write_out.ensures.short)

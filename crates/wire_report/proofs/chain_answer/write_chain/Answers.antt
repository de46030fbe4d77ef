use Rattle.std.proofs.Common.{sym, subst, inr, List, ℕ, false}
use Rattle.std.proofs.lemmas.Result.{IfErr-weaker, on_ok_weaker}
use Rattle.wire_report.specs.Chain.{IsChainText}
use Rattle.wire_report.proofs.chain_answer.write_chain.Goals as goal

pub returns-clause-ok : goal.returns-clause-ok
returns-clause-ok g c =
    let told = subst (λ (t : List ℕ). IsChainText false c.args.marked.now c.args.x c.args.y t) (sym c.as_slice.ensures.value) c.in_ok-text.ensures.ok in
    on_ok_weaker c.write_text.result (λ out. (c.as_slice.result.now, told, out)) c.write_text.ensures.ok

pub returns-clause-err : goal.returns-clause-err
returns-clause-err g c =
    let told = subst (λ (t : List ℕ). IsChainText false c.args.marked.now c.args.x c.args.y t) (sym c.as_slice.ensures.value) c.in_ok-text.ensures.ok in
    IfErr-weaker c.write_text.result _ _ (λ e out. inr (c.as_slice.result.now, told, out)) c.write_text.ensures.front

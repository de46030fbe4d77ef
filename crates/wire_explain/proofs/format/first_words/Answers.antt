use Rattle.std.proofs.Common.{◌∙◌, ap, sym, [], ◌∷◌, ◌++◌, List, ℕ, map}
use Rattle.std.specs.Borrow.{Bor}
use Rattle.std.proofs.lemmas.List.{map_push, map_more, take_all}
use Rattle.wire_explain.proofs.Tables.{Row}
use Rattle.wire_explain.proofs.format.first_words.Goals as goal

pub loop-usage-preserved : goal.loop-usage-preserved
loop-usage-preserved c =
    ap (map (λ (w : Bor (List ℕ)). w.now)) c.in_ok-push.ensures.items
    ∙ map_push (λ (w : Bor (List ℕ)). w.now) c.loop-usage.words.items c.as_bytes.result
    ∙ (λ k. c.loop-usage.invariant k ++ c.as_bytes.ensures.value k ∷ [])
    ∙ sym (map_more (λ (u : Row). u.0.now) c.args.table.now c.loop-usage.usage-index _ c.loop-usage-test.true)

pub returns : goal.returns
returns c = c.loop-usage.invariant ∙ ap (map (λ (u : Row). u.0.now)) (take_all c.loop-usage.usage-index c.args.table.now c.loop-usage-test.false)

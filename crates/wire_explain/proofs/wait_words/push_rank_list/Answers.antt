use Rattle.std.proofs.Common.{◌∙◌, sym, refl, List, ◌++◌, codes, append-nil}
use Rattle.std.proofs.lemmas.List.{at_drop_more, at_drop_all}
use Rattle.wire_types.specs.declared.Proc.{Proc}
use Rattle.wire_scripts.specs.Scripts.{numbers_of}
use Rattle.wire_explain.specs.Stops.{rank_list_text}
use Rattle.wire_explain.proofs.Texts.{joined}
use Rattle.wire_explain.proofs.wait_words.push_rank_list.Goals as goal

pub loop-rank-preserved : goal.loop-rank-preserved
loop-rank-preserved c =
    joined c.loop-rank.out.items _ _ _ (codes " ") _ _ c.in_ok-extend_from_slice.ensures.items c.in_ok-push_proc.ensures.ok refl
    ∙ sym (at_drop_more (λ (ranks : List Proc). c.loop-rank.out.items ++ rank_list_text c.args.scripts.now (numbers_of ranks)) c.args.ranks.now c.loop-rank.rank-index _ c.loop-rank-test.true)
    ∙ c.loop-rank.invariant

pub returns : goal.returns
returns c =
    sym (append-nil c.loop-rank.out.items)
    ∙ sym (at_drop_all (λ (ranks : List Proc). c.loop-rank.out.items ++ rank_list_text c.args.scripts.now (numbers_of ranks)) c.args.ranks.now c.loop-rank.rank-index c.loop-rank-test.false)
    ∙ c.loop-rank.invariant

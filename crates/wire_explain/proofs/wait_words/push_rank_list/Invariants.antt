use Rattle.std.proofs.Common.{◌≡◌, ◌++◌, drop}
use Rattle.wire_scripts.specs.Scripts.{numbers_of}
use Rattle.wire_explain.specs.Stops.{rank_list_text}
use Rattle.wire_explain.proofs.wait_words.push_rank_list.Given as goal

abbrev pub invariant-loop-rank : goal.invariant-loop-rank
invariant-loop-rank l = l.out.items ++ rank_list_text l.scripts (numbers_of (drop l.rank-index l.ranks)) ≡ l.fn.out.items ++ rank_list_text l.scripts (numbers_of l.ranks)

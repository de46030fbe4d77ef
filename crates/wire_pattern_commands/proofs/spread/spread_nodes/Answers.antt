use Rattle.std.proofs.Common.{◌%◌, ap, sym, ◌∙◌}
use Rattle.wire_pattern_commands.specs.Spread.{node_asked}
use Rattle.wire_pattern_commands.proofs.Spreads.{dealt_asked}
use Rattle.wire_pattern_commands.proofs.spread.spread_nodes.Goals as goal

pub returns-in-Apart-clause-asked : goal.returns-in-Apart-clause-asked
returns-in-Apart-clause-asked c =
    dealt_asked c.args.size c.args.spread c.args.processes c.most_nodes.result c.dealt.result c.most_nodes.ensures.some
    (λ v. ap (λ s. node_asked c.args.size s v) c.in-Apart.is ∙ ap (λ n. v % n) (sym c.most_nodes.ensures.most)) c.dealt.ensures.dealt

pub returns-in-ByNode-clause-asked : goal.returns-in-ByNode-clause-asked
returns-in-ByNode-clause-asked c =
    dealt_asked c.args.size c.args.spread c.args.processes c.get-in-ByNode.result c.dealt-in-ByNode.result c.get-in-ByNode.ensures.nonzero
    (λ v. ap (λ s. node_asked c.args.size s v) c.in-ByNode.is ∙ ap (λ n. v % n) (sym c.get-in-ByNode.ensures.value)) c.dealt-in-ByNode.ensures.dealt

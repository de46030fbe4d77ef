use Rattle.std.proofs.Common.{◌∙◌, sym, subst}
use Rattle.wire_scripts.specs.Scripts.{IsSound}
use Rattle.wire_reader.specs.Tabled.{seen_by_tables}
use Rattle.wire_reader.proofs.SameScripts.{same_scripts}
use Rattle.wire_reader.proofs.draft.Draft.into_scripts.Goals as goal

pub new-requires : goal.new-requires
new-requires c =
    subst IsSound (sym (same_scripts c.args.self.version c.args.self.keeps c.in_ok-nodes.nodes _ c.in_ok-jobs.jobs _ (seen_by_tables c.in_ok-tables.tables) _ c.args.numbered.items
    c.in_ok-nodes.ensures c.in_ok-jobs.ensures c.in_ok-tables.ensures)) c.requires

pub returns : goal.returns
returns c =
    c.new.ensures
    ∙ same_scripts c.args.self.version c.args.self.keeps c.in_ok-nodes.nodes _ c.in_ok-jobs.jobs _ (seen_by_tables c.in_ok-tables.tables) _ c.args.numbered.items
    c.in_ok-nodes.ensures c.in_ok-jobs.ensures c.in_ok-tables.ensures

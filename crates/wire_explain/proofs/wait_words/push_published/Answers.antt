use Rattle.std.proofs.Common.{codes}
use Rattle.wire_scripts.specs.Scripts.{text_at}
use Rattle.wire_explain.proofs.Texts.{then_joined}
use Rattle.wire_explain.proofs.wait_words.push_published.Goals as goal

pub returns : goal.returns
returns c =
    then_joined c.extend_from_slice-2.result c.args.out.now.items c.extend_from_slice.new.self.items c.push_name_text.new.out.items c.extend_from_slice-2.new.self.items
    (codes " the name ") (text_at c.args.scripts.now.names c.args.name) (codes " to be published") c.in_ok-extend_from_slice.ensures.items c.in_ok-push_name_text.ensures
    c.extend_from_slice-2.ensures.items

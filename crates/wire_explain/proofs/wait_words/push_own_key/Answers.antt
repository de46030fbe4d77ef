use Rattle.std.proofs.Common.{codes}
use Rattle.wire_scripts.specs.Scripts.{text_at}
use Rattle.wire_explain.proofs.Texts.{then_joined}
use Rattle.wire_explain.proofs.wait_words.push_own_key.Goals as goal

pub returns : goal.returns
returns c =
    then_joined c.extend_from_slice-2.result c.args.out.now.items c.extend_from_slice.new.self.items c.push_key_text.new.out.items c.extend_from_slice-2.new.self.items
    (codes " its own key ") (text_at c.args.scripts.now.keys c.args.key) (codes ", which it hasn't put") c.in_ok-extend_from_slice.ensures.items c.in_ok-push_key_text.ensures
    c.extend_from_slice-2.ensures.items

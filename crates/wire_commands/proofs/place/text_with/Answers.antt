use Rattle.std.proofs.Common.{◌≡◌, subst, IfOk}
use Rattle.wire_scripts.specs.Canonical.{canonical}
use Rattle.wire_commands.proofs.place.text_with.Goals as goal

pub returns-clause-ok : goal.returns-clause-ok
returns-clause-ok c =
    subst (λ s. IfOk c.to_text-text.result (λ text. text.items ≡ canonical s)) c.in_ok-placed.ensures.scripts c.to_text-text.ensures.ok

pub returns-clause-err : goal.returns-clause-err
returns-clause-err c = c.to_text-text.ensures.err

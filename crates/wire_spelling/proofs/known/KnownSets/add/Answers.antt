use Rattle.std.proofs.Common.{◌≡◌, subst, Some, if◌then◌else◌}
use Rattle.std.specs.Str.{bytes_eq}
use Rattle.wire_spelling.specs.Known.{known_of}
use Rattle.wire_spelling.specs.declared.known.KnownSets.{KnownSets}
use Rattle.wire_spelling.proofs.KnownSets.{found_after}
use Rattle.wire_spelling.proofs.known.KnownSets.add.Goals as goal

pub returns-clause-sets : goal.returns-clause-sets
returns-clause-sets c = λ text.
    let old = c.args.self.now in
    let new : KnownSets = record { job = old.job; sets = c.insert.new.self } in
    subst (λ w. known_of new text ≡ (if bytes_eq text w then Some c.args.spelt else known_of old text)) c.in_ok-word.ensures.items
    (found_after (λ v. v.items) old.sets c.insert.new.self c.in_ok-word.word c.args.spelt c.in_ok-insert.ensures.updates text)

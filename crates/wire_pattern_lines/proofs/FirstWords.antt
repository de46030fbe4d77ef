-- Each line that can be said begins with the word of a kind.
use Rattle.std.proofs.Common.{◌≡◌, refl}
use Rattle.wire_pattern_lines.specs.Said.{Said, Header, Keep, Job, Single, Many, Begin, End, Calls, first_word, verb_in}
use Rattle.wire_pattern_lines.specs.Kind.{text_of}
use Rattle.wire_pattern_lines.specs.declared.line.Kind.{Kind}
use Rattle.wire_pattern_lines.specs.declared.line.Kind.TheVariants as kind

pub some_kind : (said : Said) → (k : Kind) × (first_word said ≡ text_of k)
some_kind Header = (kind.Header, refl)
some_kind Keep = (kind.Keep, refl)
some_kind (Job name) = (kind.Job, refl)
some_kind (Single name) = (kind.Single, refl)
some_kind (Many name least) = (kind.Many, refl)
some_kind (Begin turns group) = (kind.Begin, refl)
some_kind End = (kind.End, refl)
some_kind (Calls call) = (kind.Calls (verb_in call), refl)

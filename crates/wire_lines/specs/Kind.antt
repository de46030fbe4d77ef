-- The first word of each kind of line.
use Rattle.std.specs.Prelude.{ℕ, List, codes}
use Rattle.wire_types.specs.Verbs.{text_of_verb}
use Rattle.wire_lines.specs.declared.line.Kind.{Kind}
use Rattle.wire_lines.specs.declared.line.Kind.TheVariants.{Header, Keep, Node, Job, Rank, Calls}

abbrev pub text_of : Kind → List ℕ
text_of Header = codes "rehearsal"
text_of Keep = codes "keep"
text_of Node = codes "node"
text_of Job = codes "job"
text_of Rank = codes "rank"
text_of (Calls verb) = text_of_verb verb

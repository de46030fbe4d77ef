-- The first word of each kind of line.
use Rattle.std.specs.Prelude.{ℕ, List, codes, Bool, true, false}
use Rattle.wire_types.specs.declared.verb.Verb.{Verb}
use Rattle.wire_types.specs.declared.verb.Verb.TheVariants as verb
use Rattle.wire_types.specs.Verbs.{text_of_verb}
use Rattle.wire_pattern_lines.specs.declared.line.Kind.{Kind}
use Rattle.wire_pattern_lines.specs.declared.line.Kind.TheVariants.{Header, Keep, Job, Single, Many, Begin, End, Calls}

abbrev pub text_of : Kind → List ℕ
text_of Header = codes "pattern"
text_of Keep = codes "keep"
text_of Job = codes "job"
text_of Single = codes "one"
text_of Many = codes "many"
text_of Begin = codes "for"
text_of End = codes "end"
text_of (Calls verb) = text_of_verb verb

-- the verbs of the gets and of the lookups
abbrev pub get_verb : (is_now : Bool) → Verb
get_verb true = verb.GetNow
get_verb false = verb.Get

abbrev pub lookup_verb : (waits : Bool) → Verb
lookup_verb true = verb.LookupWait
lookup_verb false = verb.Lookup

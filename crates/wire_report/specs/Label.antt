-- What findings have in common that are one mistake.
use Rattle.std.specs.Prelude.{ℕ, Option, Some, None, nat_le, if◌then◌else◌}
use Rattle.wire_types.specs.declared.Call.{Call}
use Rattle.wire_types.specs.declared.Call.TheVariants as call
use Rattle.wire_types.specs.declared.CallAt.{CallAt}
use Rattle.wire_types.specs.declared.verb.Verb.{Verb}
use Rattle.wire_types.specs.declared.verb.Verb.TheVariants.{Put, Commit, Fence, Get, GetNow, Publish, Lookup}
use Rattle.wire_types.specs.declared.verb.Verb.TheVariants.{LookupWait, Unpublish}
use Rattle.wire_scripts.specs.Scripts.{Scripts, call_at}
use Rattle.wire_findings.specs.declared.finding.Finding.{Finding}
use Rattle.wire_findings.specs.declared.finding.Finding.TheVariants as found
use Rattle.wire_words.specs.Words.{verb_of}
use Rattle.wire_report.specs.declared.label.Subject.{Subject}
use Rattle.wire_report.specs.declared.label.Subject.TheVariants.{Rewrite, KeyRace, NameRace}
use Rattle.wire_report.specs.declared.label.Label.{Label}
use Rattle.wire_report.specs.declared.label.Pair.{Pair}

-- the verb of a call, if there is one
abbrev pub verb_found : Option Call → Option Verb
verb_found None = None
verb_found (Some call) = Some (verb_of call)

-- the key that a call puts, by its number
abbrev pub key_put : Option Call → ℕ
key_put (Some (call.Put scope key value)) = key
key_put _ = 0

-- the two calls of a finding
abbrev pub pair_of : Finding → Pair
pair_of (found.Rewrite first later) = record { lower = first; higher = later }
pair_of (found.KeyRace lower higher owner key) = record { lower = lower; higher = higher }
pair_of (found.NameRace lower higher name) = record { lower = lower; higher = higher }

abbrev pub call_there : Scripts → CallAt → Option Call
call_there s place = call_at s.processes place.proc.number place.call

-- what a finding is, and the key or the name that it is on; not who owns the key
abbrev pub subject_of : Scripts → Finding → Subject
subject_of s (found.Rewrite first later) = Rewrite (key_put (call_there s later))
subject_of s (found.KeyRace lower higher owner key) = KeyRace key
subject_of s (found.NameRace lower higher name) = NameRace name

-- the number of a verb, in the order in which they are named; that of no verb comes last
abbrev pub verb_number : Option Verb → ℕ
verb_number (Some Put) = 0
verb_number (Some Commit) = 1
verb_number (Some Fence) = 2
verb_number (Some Get) = 3
verb_number (Some GetNow) = 4
verb_number (Some Publish) = 5
verb_number (Some Lookup) = 6
verb_number (Some LookupWait) = 7
verb_number (Some Unpublish) = 8
verb_number None = 9

-- the label of findings on this, whose calls have these two verbs, whichever of them stands first
abbrev pub label_with : Subject → Option Verb → Option Verb → Label
label_with subject x y =
    if nat_le (verb_number x) (verb_number y) then record { subject = subject; one = x; other = y } else record { subject = subject; one = y; other = x }

-- findings are one mistake where they have one label: they are on the same, and their two calls have the same verbs
abbrev pub label_of : Scripts → Finding → Label
label_of s finding = label_with (subject_of s finding) (verb_found (call_there s (pair_of finding).lower)) (verb_found (call_there s (pair_of finding).higher))

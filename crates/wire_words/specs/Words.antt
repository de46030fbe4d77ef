-- The words of the texts, as bytes: calls and processes, and what became of a call.
use Rattle.std.specs.Prelude.{ℕ, ◌+◌, List, [], ◌++◌, Option, Some, None, codes, decimal, slice_get}
use Rattle.wire_types.specs.declared.Call.{Call}
use Rattle.wire_types.specs.declared.Call.TheVariants.{Put, Commit, Fence, Get, GetNow, Publish, Lookup, LookupWait}
use Rattle.wire_types.specs.declared.Call.TheVariants.{Unpublish, UnpublishAll}
use Rattle.wire_types.specs.declared.CallAt.{CallAt}
use Rattle.wire_types.specs.declared.Status.{Status}
use Rattle.wire_types.specs.declared.Status.TheVariants.{Success, NotFound, ExistsOutsideScope, DuplicateKey, BadParam}
use Rattle.wire_types.specs.declared.Value.{Value}
use Rattle.wire_types.specs.declared.Value.TheVariants as value
use Rattle.wire_types.specs.declared.CallEnd.{CallEnd}
use Rattle.wire_types.specs.declared.CallEnd.TheVariants.{Replied, Waiting, Ready, Unreached}
use Rattle.wire_types.specs.declared.verb.Verb.{Verb}
use Rattle.wire_types.specs.declared.verb.Verb.TheVariants as verb
use Rattle.wire_types.specs.Verbs.{text_of_verb}
use Rattle.wire_scripts.specs.Scripts.{Scripts, Process, text_at, call_at}
use Rattle.wire_scripts.specs.Canonical.{process_text}

-- the name of a status in the PMIx Standard 5.0
abbrev pub status_name : Status → List ℕ
status_name Success = codes "PMIX_SUCCESS"
status_name NotFound = codes "PMIX_ERR_NOT_FOUND"
status_name ExistsOutsideScope = codes "PMIX_ERR_EXISTS_OUTSIDE_SCOPE"
status_name DuplicateKey = codes "PMIX_ERR_DUPLICATE_KEY"
status_name BadParam = codes "PMIX_ERR_BAD_PARAM"

-- the verb of a call
abbrev pub verb_of : Call → Verb
verb_of (Put scope key value) = verb.Put
verb_of Commit = verb.Commit
verb_of (Get owner key) = verb.Get
verb_of (GetNow owner key) = verb.GetNow
verb_of (Fence set collect) = verb.Fence
verb_of (Publish name value) = verb.Publish
verb_of (Lookup name) = verb.Lookup
verb_of (LookupWait name) = verb.LookupWait
verb_of (Unpublish name) = verb.Unpublish
verb_of UnpublishAll = verb.Unpublish

-- its text, as it is spelled in a file
abbrev pub verb_text : Call → List ℕ
verb_text call = text_of_verb (verb_of call)

-- the verb of a call, empty where there is none
abbrev pub verb_text_in : Option Call → List ℕ
verb_text_in None = []
verb_text_in (Some call) = verb_text call

-- the text of the value that a call gives, empty where it gives none
abbrev pub given_text : Scripts → Option Call → List ℕ
given_text scripts (Some (Put scope key value)) = text_at scripts.values value
given_text scripts (Some (Publish name value)) = text_at scripts.values value
given_text scripts _ = []

-- the text of what a reply brings: a value that a call gave, a number, or the name of a node
abbrev pub value_text : Scripts → Value → List ℕ
value_text scripts value.Nothing = []
value_text scripts (value.Put place) = given_text scripts (call_at scripts.processes place.proc.number place.call)
value_text scripts (value.Published place) = given_text scripts (call_at scripts.processes place.proc.number place.call)
value_text scripts (value.Number n) = decimal n
value_text scripts (value.NodeName node) = text_at scripts.nodes node

-- a space and the text of what a reply brings, nothing where it brings nothing
abbrev pub value_part : Scripts → Value → List ℕ
value_part scripts value.Nothing = []
value_part scripts value = codes " " ++ value_text scripts value

-- the name of a reply's status, or how a call stands that has no reply
abbrev pub end_word : CallEnd → List ℕ
end_word (Replied reply) = status_name reply.status
end_word Waiting = codes "waiting"
end_word Ready = codes "ready"
end_word Unreached = codes "unreached"

-- what the reply of a call brings, nothing where it has none
abbrev pub replied_value : CallEnd → Value
replied_value (Replied reply) = reply.value
replied_value _ = value.Nothing

-- what became of a call
abbrev pub end_text : Scripts → CallEnd → List ℕ
end_text scripts end = end_word end ++ value_part scripts (replied_value end)

-- the text of a process, empty where there is none
abbrev pub text_of_process : Scripts → Option Process → List ℕ
text_of_process scripts None = []
text_of_process scripts (Some process) = process_text scripts process

-- the text of the process of a number, empty where there is none
abbrev pub name_of : Scripts → ℕ → List ℕ
name_of scripts p = text_of_process scripts (slice_get scripts.processes p)

-- a call: its process, and its number from 1
abbrev pub call_text : Scripts → CallAt → List ℕ
call_text scripts call = name_of scripts call.proc.number ++ codes " " ++ decimal (call.call + 1)

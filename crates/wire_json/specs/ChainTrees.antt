-- The trees of which the answers to a question are made: for the contracts of private functions.
use Rattle.std.specs.Prelude.{ℕ, ◌+◌, List, map, codes}
use Rattle.serde_json.specs.Data.{Data, null, number, unsigned, string, object, member, no_members}
use Rattle.wire_types.specs.declared.CallAt.{CallAt}
use Rattle.wire_scripts.specs.Scripts.{Scripts, call_at}
use Rattle.wire_words.specs.Words.{name_of, verb_text_in}
use Rattle.wire_json.specs.declared.chains.ChainStep.{ChainStep}
use Rattle.wire_json.specs.declared.chains.Half.{Half}
use Rattle.wire_json.specs.declared.chains.Half.TheVariants.{Whole, Arrive, Leave}
use Rattle.wire_json.specs.Json.{printed}
use Rattle.wire_json.specs.Trees.{list_data}

-- a call: its number, its process and its verb
abbrev pub named_data : ℕ → List ℕ → List ℕ → Data
named_data n proc verb =
    object (member (codes "call") (number (unsigned n)) (member (codes "proc") (string proc) (member (codes "verb") (string verb) no_members)))

-- a half of a fence
abbrev pub half_data : List ℕ → ℕ → List ℕ → List ℕ → Data
half_data half n proc verb =
    object (member (codes "call") (number (unsigned n))
    (member (codes "half") (string half) (member (codes "proc") (string proc) (member (codes "verb") (string verb) no_members))))

-- a call, or this half of it
abbrev pub part_data : Half → ℕ → List ℕ → List ℕ → Data
part_data Whole n proc verb = named_data n proc verb
part_data Arrive n proc verb = half_data (codes "arrive") n proc verb
part_data Leave n proc verb = half_data (codes "leave") n proc verb

-- the process of a call, and what it is called
abbrev pub proc_shown : Scripts → CallAt → List ℕ
proc_shown scripts call = map printed (name_of scripts call.proc.number)

abbrev pub verb_shown : Scripts → CallAt → List ℕ
verb_shown scripts call = map printed (verb_text_in (call_at scripts.processes call.proc.number call.call))

abbrev pub step_data : Scripts → ChainStep → Data
step_data scripts step = part_data step.half (step.call.call + 1) (proc_shown scripts step.call) (verb_shown scripts step.call)

-- a call by its number and process alone
abbrev pub bare_place : ℕ → List ℕ → Data
bare_place n proc = object (member (codes "call") (number (unsigned n)) (member (codes "proc") (string proc) no_members))

abbrev pub place_data : Scripts → CallAt → Data
place_data scripts call = bare_place (call.call + 1) (proc_shown scripts call)

-- a chain under the word for the call that comes first
abbrev pub chain_data : List ℕ → List Data → Data
chain_data before chain = object (member (codes "before") (string before) (member (codes "chain") (list_data chain) no_members))

abbrev pub unordered_data : List Data → Data
unordered_data dead = object (member (codes "before") null (member (codes "dead") (list_data dead) no_members))

-- The JSON forms of the answer to a question about two calls, as bytes: the chain that orders them, or which of them
-- are dead.
use Rattle.std.specs.Prelude.{ℕ, ◌+◌, Bool, true, false, List, [], ◌++◌, map, codes, decimal}
use Rattle.wire_types.specs.declared.CallAt.{CallAt}
use Rattle.wire_scripts.specs.Scripts.{Scripts, call_at}
use Rattle.wire_words.specs.Words.{name_of, verb_text_in}
use Rattle.wire_json.specs.declared.chains.ChainStep.{ChainStep}
use Rattle.wire_json.specs.declared.chains.Half.{Half}
use Rattle.wire_json.specs.declared.chains.Half.TheVariants.{Whole, Arrive, Leave}
use Rattle.wire_json.specs.Json.{quoted, bracketed}

-- the member of a call's number, from 1
abbrev pub call_member : CallAt → List ℕ
call_member call = codes "\"call\":" ++ decimal (call.call + 1)

-- the member of a call's process
abbrev pub proc_member : Scripts → CallAt → List ℕ
proc_member scripts call = codes ",\"proc\":" ++ quoted (name_of scripts call.proc.number)

-- the member of what a call is called
abbrev pub verb_member : Scripts → CallAt → List ℕ
verb_member scripts call = codes ",\"verb\":" ++ quoted (verb_text_in (call_at scripts.processes call.proc.number call.call))

-- the member of which half of a fence is meant, none where all of a call is
abbrev pub half_member : Half → List ℕ
half_member Whole = []
half_member Arrive = codes ",\"half\":\"arrive\""
half_member Leave = codes ",\"half\":\"leave\""

-- a step of a chain
abbrev pub json_step : Scripts → ChainStep → List ℕ
json_step scripts step =
    codes "{" ++ call_member step.call ++ half_member step.half ++ proc_member scripts step.call ++ verb_member scripts step.call ++ codes "}"

-- a call by its process and number alone
abbrev pub json_place : Scripts → CallAt → List ℕ
json_place scripts call = codes "{" ++ call_member call ++ proc_member scripts call ++ codes "}"

-- which of two calls comes before the other
abbrev pub which_word : Bool → List ℕ
which_word true = codes "first"
which_word false = codes "second"

-- the first call is before the second, or the second before the first, and the steps of the chain that orders them
abbrev pub json_chain : Bool → Scripts → List ChainStep → List ℕ
json_chain first scripts steps =
    codes "{\"before\":\"" ++ which_word first ++ codes "\",\"chain\":" ++ bracketed (map (json_step scripts) steps) ++ codes "}\n"

-- no chain orders the calls, and these of them are dead
abbrev pub json_unordered : Scripts → List CallAt → List ℕ
json_unordered scripts dead = codes "{\"before\":null,\"dead\":" ++ bracketed (map (json_place scripts) dead) ++ codes "}\n"

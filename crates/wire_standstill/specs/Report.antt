-- The report of a plan with the ranks that wait for ever, as JSON.
use Rattle.std.specs.Prelude.{ℕ, List, [], ◌∷◌, ◌++◌, drop, Option, Some, None, codes}
use Rattle.wire_types.specs.declared.CallAt.{CallAt}
use Rattle.wire_types.specs.Outcome.{Ends}
use Rattle.wire_runs.specs.State.{State}
use Rattle.wire_scripts.specs.Scripts.{Scripts}
use Rattle.wire_json.specs.Json.{quoted, bracketed, json_report}
use Rattle.wire_json.specs.Chains.{call_member, proc_member, verb_member}
use Rattle.wire_explain.specs.Stops.{standing}

-- a rank that stands at a call, with what it waits for there, without the space before it
abbrev pub rank_json : Scripts → CallAt × List ℕ → List ℕ
rank_json scripts it =
    codes "{" ++ call_member it.0 ++ proc_member scripts it.0 ++ verb_member scripts it.0 ++ codes ",\"waits_for\":" ++ quoted (drop 1 it.1) ++ codes "}"

abbrev pub ranks_at : Scripts → Option (CallAt × List ℕ) → List (List ℕ)
ranks_at scripts None = []
ranks_at scripts (Some it) = rank_json scripts it ∷ []

-- these ranks, but those at their end
abbrev pub ranks_json : Scripts → State → List ℕ → List (List ℕ)
ranks_json scripts s [] = []
ranks_json scripts s (p ∷ ps) = ranks_at scripts (standing scripts s p) ++ ranks_json scripts s ps

-- the ranks of a deadlock, each behind the one that waits for it, and those that wait for no rank
abbrev pub standstill_members : Scripts → State → List ℕ → List ℕ → List ℕ
standstill_members scripts s circle never =
    codes "{\"deadlock\":" ++ bracketed (ranks_json scripts s circle) ++ codes ",\"never\":" ++ bracketed (ranks_json scripts s never) ++ codes ","

-- these, and the report from behind the brace that opens it
abbrev pub standstill_json : Scripts → State → Ends → List ℕ → List ℕ → List ℕ
standstill_json scripts s ends circle never = standstill_members scripts s circle never ++ drop 1 (json_report scripts ends)

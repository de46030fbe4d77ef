-- Where a rank stands that can't take its next step, and what it waits for, in words.
use Rattle.std.specs.Prelude.{ℕ, Bool, zero, suc, ◌-◌, ◌==◌, List, [], ◌∷◌, ◌++◌, not, nat_le, filter, take, length}
use Rattle.std.specs.Prelude.{Option, Some, None, codes, decimal}
use Rattle.std.specs.Prelude.{slice_get, if◌then◌else◌}
use Rattle.wire_runs.specs.Plan.{Plan, Kind, Get, Leave, LookupWait}
use Rattle.wire_runs.specs.Fences.{arrivals}
use Rattle.wire_runs.specs.State.{State, next_event, next_kind}
use Rattle.wire_runs.specs.Ends.{call_of}
use Rattle.wire_types.specs.declared.CallAt.{CallAt}
use Rattle.wire_scripts.specs.Scripts.{Scripts, text_at, call_at}
use Rattle.wire_scripts.specs.Planned.{plan_of}
use Rattle.wire_reader.specs.Statements.{Statement, statements}
use Rattle.wire_words.specs.Words.{name_of, call_text, verb_text_in}
use Rattle.wire_explain.specs.Quote.{quoted, labelled}

-- whether a member hasn't arrived at the j-th fence over these members, in a cut; and those who haven't
abbrev pub is_missing : Plan → (ℕ → ℕ) → List ℕ → ℕ → ℕ → Bool
is_missing plan cut members j m = not (nat_le j (arrivals plan m members (cut m)))

abbrev pub missing : Plan → (ℕ → ℕ) → List ℕ → ℕ → List ℕ
missing plan cut members j = filter (is_missing plan cut members j) members

-- those for whom p waits that has arrived at a fence over these members, and stands at its end
abbrev pub missing_for : Plan → State → ℕ → List ℕ → List ℕ
missing_for plan s p members = missing plan s.done members (arrivals plan p members (s.done p))

-- a space and the text of each of these ranks
abbrev pub rank_list_text : Scripts → List ℕ → List ℕ
rank_list_text scripts [] = []
rank_list_text scripts (p ∷ ps) = codes " " ++ name_of scripts p ++ rank_list_text scripts ps

-- that there are so many more
abbrev pub more_text : ℕ → List ℕ
more_text zero = []
more_text (suc n) = codes " and " ++ decimal (suc n) ++ codes " more"

-- the first eight of these, and how many more there are
abbrev pub ranks_text : Scripts → List ℕ → List ℕ
ranks_text scripts ps = rank_list_text scripts (take 8 ps) ++ more_text (length ps - 8)

-- a key of its own for which a rank waits
abbrev pub own_key_text : Scripts → ℕ → List ℕ
own_key_text scripts key = codes " its own key " ++ text_at scripts.keys key ++ codes ", which it hasn't put"

-- what p waits for at a get of the owner's key: a commit, or where the key is its own a put before the get
abbrev pub key_text : Scripts → ℕ → ℕ → ℕ → List ℕ
key_text scripts p owner key =
    if owner == p then own_key_text scripts key
    else codes " " ++ name_of scripts owner ++ codes " to commit the key " ++ text_at scripts.keys key

-- the name for which a lookup-wait waits
abbrev pub published_text : Scripts → ℕ → List ℕ
published_text scripts name = codes " the name " ++ text_at scripts.names name ++ codes " to be published"

-- what p waits for, whose next event is of this kind: at the end of a fence for those of its members that haven't
-- arrived
abbrev pub wait_text : Scripts → State → ℕ → Kind → List ℕ
wait_text scripts s p (Get owner key) = key_text scripts p owner key
wait_text scripts s p (Leave members) = ranks_text scripts (missing_for (plan_of scripts) s p members) ++ codes " to arrive"
wait_text scripts s p (LookupWait name) = published_text scripts name
wait_text scripts s p _ = codes " nothing"

-- a call, and its verb
abbrev pub said_call : Scripts → CallAt → List ℕ
said_call scripts x = call_text scripts x ++ codes " " ++ verb_text_in (call_at scripts.processes x.proc.number x.call)

-- where p stands, whose next event is of this kind: its call, and in words what it waits for there
abbrev pub standing_with : Scripts → State → ℕ → Option Kind → Option (CallAt × List ℕ)
standing_with scripts s p None = None
standing_with scripts s p (Some kind) = Some (call_of (plan_of scripts) (next_event s p), wait_text scripts s p kind)

-- the same of p; nowhere, where it is at its end
abbrev pub standing : Scripts → State → ℕ → Option (CallAt × List ℕ)
standing scripts s p = standing_with scripts s p (next_kind (plan_of scripts) s p)

-- in two lines
abbrev pub standing_text : Scripts → Option (CallAt × List ℕ) → List ℕ
standing_text scripts None = codes "  stands at: its end, with no call left\n"
standing_text scripts (Some it) = labelled (codes "  stands at: ") (said_call scripts it.0) ++ labelled (codes "  waits for:") it.1

-- the number of a line, 0 where there is none
abbrev pub number_in : Option Statement → ℕ
number_in None = 0
number_in (Some line) = line.0

-- the number of the line of a step, which is counted from 0: the lines that are skipped are no steps
abbrev pub line_of_step : List ℕ → ℕ → ℕ
line_of_step bytes n = number_in (slice_get (statements bytes) n)

-- of a step of an order that its rank p can't take: the line of the order, where p stands, and what it waits for
abbrev pub stop_explanation : List ℕ → Scripts → State → ℕ → ℕ → List ℕ
stop_explanation order_bytes scripts s n p = quoted order_bytes (line_of_step order_bytes n) ++ standing_text scripts (standing scripts s p)

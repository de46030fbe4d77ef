-- Patterns: scripts by roles, and their instances. An instance is told by the role of each process, by which turns the
-- optional loops take, and by the nodes.
use Rattle.std.specs.Prelude.{◌≡◌, ℕ, suc, List, [], ◌∷◌, ◌++◌, map, Bool, true, false, not, ◌&&◌, ◌||◌, Option}
use Rattle.std.specs.Prelude.{Some, get_or, ◌==◌, nat_lt, filter, if◌then◌else◌}
use Rattle.wire_types.specs.declared.Scope.{Scope}
use Rattle.wire_types.specs.declared.Reply.{Reply}
use Rattle.wire_runs.specs.Plan.{Plan, Process, Call, CallPut, CallCommit, CallFence, CallGet, CallGetNow}
use Rattle.wire_runs.specs.Plan.{CallPublish, CallLookup, CallLookupWait, CallUnpublish, CallUnpublishAll, CallFixed}
use Rattle.wire_runs.specs.Fences.{is_member}

-- a process that a line names: the only one of a role, the caller, or the one that a loop's turn is for
pub data Who : Type 0 where
  Only : (role : ℕ) → Who
  Self : Who
  Each : Who

-- an item of a set: all processes of a role, or one process
pub data Item : Type 0 where
  Every : (role : ℕ) → Item
  One : Who → Item

-- a key or a name: a base, indexed by processes
pub record Word : Type 0 where
  pub base : ℕ
  pub indices : List Who

pub data Line : Type 0 where
  LinePut : Word → Scope → Line
  LineCommit : Line
  LineFence : List Item → (collect : Bool) → Line
  LineGet : Who → Word → Line
  LineGetNow : Who → Word → Line
  LinePublish : Word → Line
  LineLookup : Word → Line
  LineLookupWait : Word → Line
  LineUnpublish : Word → Line
  LineUnpublishAll : Line
  LineFixed : Reply → Line

-- the turns of a loop over a group: all its other processes in rank order; for a caller of the group those behind it,
-- then those before it; or those that are chosen, in rank order
pub data Turns : Type 0 where
  InOrder : Turns
  Round : Turns
  Chosen : Turns

pub data Step : Type 0 where
  Once : Line → Step
  Loop : (group : ℕ) → Turns → List Line → Step

-- single: whether a role is one process alone
pub record Pattern : Type 0 where
  pub single : ℕ → Bool
  pub script : ℕ → List Step
  pub keep : Bool

-- numbers for keys and names, each of one base and one list of processes
pub record Coding : Type 0 where
  pub code : ℕ → List ℕ → ℕ
  pub decode : ℕ → Option (ℕ × List ℕ)
  pub decodes : (base : ℕ) (indices : List ℕ) → decode (code base indices) ≡ Some (base, indices)
  pub encodes : (n base : ℕ) (indices : List ℕ) → decode n ≡ Some (base, indices) → code base indices ≡ n

-- roles: of each process its role. chosen p i e: whether the loop that is step number i of p's script takes e
pub record Cast : Type 0 where
  pub roles : List ℕ
  pub chosen : ℕ → ℕ → ℕ → Bool
  pub nodes : ℕ → ℕ

-- the processes of a role
abbrev pub group : ℕ → List ℕ → List ℕ
group role [] = []
group role (r ∷ roles) = (if r == role then 0 ∷ [] else []) ++ map suc (group role roles)

abbrev pub who : Cast → ℕ → ℕ → Who → ℕ
who cast v e (Only role) = get_or (group role cast.roles) 0 0
who cast v e Self = v
who cast v e Each = e

abbrev pub item_members : Cast → ℕ → ℕ → Item → List ℕ
item_members cast v e (Every role) = group role cast.roles
item_members cast v e (One w) = who cast v e w ∷ []

abbrev pub members_in : Cast → ℕ → ℕ → List Item → List ℕ
members_in cast v e [] = []
members_in cast v e (item ∷ items) = item_members cast v e item ++ members_in cast v e items

abbrev pub word_code : Coding → Cast → ℕ → ℕ → Word → ℕ
word_code coding cast v e word = coding.code word.base (map (who cast v e) word.indices)

-- the call that a line is for the caller v, in the turn for e
abbrev pub call_in : Coding → Cast → ℕ → ℕ → Line → Call
call_in coding cast v e (LinePut key scope) = CallPut (word_code coding cast v e key) scope
call_in coding cast v e LineCommit = CallCommit
call_in coding cast v e (LineFence items collect) = CallFence (members_in cast v e items) collect
call_in coding cast v e (LineGet owner key) = CallGet (who cast v e owner) (word_code coding cast v e key)
call_in coding cast v e (LineGetNow owner key) = CallGetNow (who cast v e owner) (word_code coding cast v e key)
call_in coding cast v e (LinePublish name) = CallPublish (word_code coding cast v e name)
call_in coding cast v e (LineLookup name) = CallLookup (word_code coding cast v e name)
call_in coding cast v e (LineLookupWait name) = CallLookupWait (word_code coding cast v e name)
call_in coding cast v e (LineUnpublish name) = CallUnpublish (word_code coding cast v e name)
call_in coding cast v e LineUnpublishAll = CallUnpublishAll
call_in coding cast v e (LineFixed reply) = CallFixed reply

-- the processes for which a loop takes a turn, in order
abbrev pub turns : Cast → ℕ → ℕ → ℕ → Turns → List ℕ
turns cast v i role InOrder = filter (λ e. not (e == v)) (group role cast.roles)
turns cast v i role Round =
    if is_member (group role cast.roles) v then filter (λ e. nat_lt v e) (group role cast.roles) ++ filter (λ e. nat_lt e v) (group role cast.roles)
    else filter (λ e. not (e == v)) (group role cast.roles)
turns cast v i role Chosen = filter (λ e. not (e == v) && cast.chosen v i e) (group role cast.roles)

abbrev pub loop_calls : Coding → Cast → ℕ → List Line → List ℕ → List Call
loop_calls coding cast v lines [] = []
loop_calls coding cast v lines (e ∷ es) = map (call_in coding cast v e) lines ++ loop_calls coding cast v lines es

abbrev pub step_calls : Coding → Cast → ℕ → ℕ → Step → List Call
step_calls coding cast v i (Once line) = call_in coding cast v v line ∷ []
step_calls coding cast v i (Loop role mode lines) = loop_calls coding cast v lines (turns cast v i role mode)

-- the calls of v, from step number i on
abbrev pub calls_from : Coding → Cast → ℕ → ℕ → List Step → List Call
calls_from coding cast v i [] = []
calls_from coding cast v i (step ∷ steps) = step_calls coding cast v i step ++ calls_from coding cast v (suc i) steps

abbrev pub processes_from : Pattern → Coding → Cast → ℕ → List ℕ → List Process
processes_from pattern coding cast p [] = []
processes_from pattern coding cast p (role ∷ roles) =
    record { node = cast.nodes p; calls = calls_from coding cast p 0 (pattern.script role) } ∷ processes_from pattern coding cast (suc p) roles

abbrev pub instance_of : Pattern → Coding → Cast → Plan
instance_of pattern coding cast = record { processes = processes_from pattern coding cast 0 cast.roles; keep = pattern.keep }

-- what lines may be

abbrev pub names_each : List Who → Bool
names_each [] = false
names_each (Each ∷ ws) = true
names_each (w ∷ ws) = names_each ws

abbrev pub has_each : List Item → Bool
has_each [] = false
has_each (One Each ∷ items) = true
has_each (item ∷ items) = has_each items

abbrev pub has_every : ℕ → List Item → Bool
has_every role [] = false
has_every role (Every r ∷ items) = (r == role) || has_every role items
has_every role (item ∷ items) = has_every role items

-- in a loop over the role: a put, a get, a publish, an unpublish and a fence name the process of the turn, no fence has
-- the whole role, and no call takes all names away
abbrev pub IsLoopLine : ℕ → Line → Type 0
IsLoopLine role (LinePut key scope) = names_each key.indices ≡ true
IsLoopLine role (LinePublish name) = names_each name.indices ≡ true
IsLoopLine role (LineFence items collect) = (has_each items ≡ true) × (has_every role items ≡ false)
IsLoopLine role (LineGet owner key) = names_each (owner ∷ key.indices) ≡ true
IsLoopLine role (LineGetNow owner key) = names_each (owner ∷ key.indices) ≡ true
IsLoopLine role (LineUnpublish name) = names_each name.indices ≡ true
IsLoopLine role LineUnpublishAll = ⊥
IsLoopLine role _ = Unit {0}

-- in an optional loop: no fences, and nothing that writes names
abbrev pub IsOptional : Line → Type 0
IsOptional (LineFence items collect) = ⊥
IsOptional (LinePublish name) = ⊥
IsOptional (LineUnpublish name) = ⊥
IsOptional LineUnpublishAll = ⊥
IsOptional _ = Unit {0}

abbrev pub waits_line : Bool → Line → Bool
waits_line waits (LinePut key scope) = true
waits_line waits LineCommit = false
waits_line waits _ = waits

abbrev pub waits_lines : Bool → List Line → Bool
waits_lines waits [] = waits
waits_lines waits (line ∷ lines) = waits_lines (waits_line waits line) lines

abbrev pub has_commit : List Line → Bool
has_commit [] = false
has_commit (LineCommit ∷ lines) = true
has_commit (line ∷ lines) = has_commit lines

-- a line names only roles of one process by themselves
abbrev pub KnowsWho : (ℕ → Bool) → Who → Type 0
KnowsWho single (Only role) = single role ≡ true
KnowsWho single _ = Unit {0}

abbrev pub KnowsAll : (ℕ → Bool) → List Who → Type 0
KnowsAll single [] = Unit {0}
KnowsAll single (w ∷ ws) = KnowsWho single w × KnowsAll single ws

abbrev pub KnowsItem : (ℕ → Bool) → Item → Type 0
KnowsItem single (Every role) = Unit {0}
KnowsItem single (One w) = KnowsWho single w

abbrev pub KnowsItems : (ℕ → Bool) → List Item → Type 0
KnowsItems single [] = Unit {0}
KnowsItems single (item ∷ items) = KnowsItem single item × KnowsItems single items

abbrev pub KnowsLine : (ℕ → Bool) → Line → Type 0
KnowsLine single (LinePut key scope) = KnowsAll single key.indices
KnowsLine single LineCommit = Unit {0}
KnowsLine single (LineFence items collect) = KnowsItems single items
KnowsLine single (LineGet owner key) = KnowsWho single owner × KnowsAll single key.indices
KnowsLine single (LineGetNow owner key) = KnowsWho single owner × KnowsAll single key.indices
KnowsLine single (LinePublish name) = KnowsAll single name.indices
KnowsLine single (LineLookup name) = KnowsAll single name.indices
KnowsLine single (LineLookupWait name) = KnowsAll single name.indices
KnowsLine single (LineUnpublish name) = KnowsAll single name.indices
KnowsLine single LineUnpublishAll = Unit {0}
KnowsLine single (LineFixed reply) = Unit {0}

abbrev pub IsTurnLine : Turns → Line → Type 0
IsTurnLine Chosen line = IsOptional line
IsTurnLine _ line = Unit {0}

abbrev pub AreLoopLines : (ℕ → Bool) → ℕ → Turns → List Line → Type 0
AreLoopLines single role mode [] = Unit {0}
AreLoopLines single role mode (line ∷ lines) =
    (KnowsLine single line × (IsLoopLine role line × IsTurnLine mode line)) × AreLoopLines single role mode lines

-- a loop with a commit begins, and ends each turn, where no put waits
abbrev pub IsLawfulStep : (ℕ → Bool) → Bool → Step → Type 0
IsLawfulStep single waits (Once line) = KnowsLine single line
IsLawfulStep single waits (Loop role mode lines) =
    AreLoopLines single role mode lines × (has_commit lines ≡ true → (waits ≡ false) × (waits_lines false lines ≡ false))

-- whether a put may wait after the step
abbrev pub waits_step : Bool → Step → Bool
waits_step waits (Once line) = waits_line waits line
waits_step waits (Loop role mode lines) = waits || waits_lines waits lines

abbrev pub AreSteps : (ℕ → Bool) → Bool → List Step → Type 0
AreSteps single waits [] = Unit {0}
AreSteps single waits (step ∷ steps) = IsLawfulStep single waits step × AreSteps single (waits_step waits step) steps

pub record IsLawful (pattern : Pattern) : Type 0 where
  pub steps : (role : ℕ) → AreSteps pattern.single false (pattern.script role)

-- a role of one process has one
pub record IsCastOf (pattern : Pattern) (cast : Cast) : Type 0 where
  pub only : (role : ℕ) → pattern.single role ≡ true → (p : ℕ) × (group role cast.roles ≡ p ∷ [])

-- The first fault of a pattern with numbers for its names: that of the second pass over all lines, else that of the
-- third.
use Rattle.std.specs.Prelude.{ℕ, ◌+◌, ◌==◌, ◌&&◌, ◌||◌, Bool, true, false, not, nat_lt, List, [], ◌∷◌, length}
use Rattle.std.specs.Prelude.{Option, Some, None, if◌then◌else◌}
use Rattle.std.specs.List.{list_all, list_any}
use Rattle.wire_types.specs.declared.Fault.{Fault}
use Rattle.wire_types.specs.declared.Fault.TheVariants.{BadLine, UnknownName, NotMember}
use Rattle.wire_runs.specs.Patterns.{Who, Only, Self, Each, Turns}
use Rattle.wire_reader.specs.Reads.{first_of}
use Rattle.wire_pattern.specs.Pattern.{Item, One, Group, Job, Call, Line, Step, Once, Loop, Role, Pattern}
use Rattle.wire_pattern.specs.Lawful.{whos_in, items_in, names_known, is_member_call, has_role, is_turn_call, is_commit}
use Rattle.wire_pattern.specs.Lawful.{waits_after_all, waits_after_step}

-- the first fault of a list of parts
abbrev pub first_fault : {A : Type 0} → (A → Option Fault) → List A → Option Fault
first_fault fault [] = None
first_fault fault (x ∷ xs) = first_of (fault x) (first_fault fault xs)

-- whether what a call names is declared, where there are so many roles, and so many jobs
abbrev pub is_declared_who : ℕ → Who → Bool
is_declared_who roles (Only role) = nat_lt role roles
is_declared_who roles Self = true
is_declared_who roles Each = true

abbrev pub is_declared_item : ℕ → ℕ → Item → Bool
is_declared_item jobs roles (One w) = is_declared_who roles w
is_declared_item jobs roles (Group role) = nat_lt role roles
is_declared_item jobs roles (Job job) = nat_lt job jobs

abbrev pub is_declared : ℕ → ℕ → Call → Bool
is_declared jobs roles call =
    list_all (is_declared_who roles) (whos_in call) && list_all (is_declared_item jobs roles) (items_in call)

-- whether a call may stand in a loop over this role: its set has no item with the whole role, and in a loop of
-- `for some` it reads, puts or commits
abbrev pub fits_loop : List Role → ℕ → Turns → Call → Bool
fits_loop roles role turns call = not (list_any (has_role roles role) (items_in call)) && is_turn_call turns call

-- the fault of a line of the script of the role `caller`, where there are so many jobs, and `fits` says whether the
-- line may stand where it stands: a name isn't declared; a group stands for a process, or the line doesn't fit; the
-- caller isn't in its set
abbrev pub line_fault : ℕ → List Role → ℕ → Bool → Line → Option Fault
line_fault jobs roles caller fits line =
    if not (is_declared jobs (length roles) line.call) then Some (UnknownName line.number)
    else if not (names_known jobs roles line.call && fits) then Some (BadLine line.number)
    else if not (is_member_call roles caller line.call) then Some (NotMember line.number)
    else None

-- the fault of the first line of a loop: its role isn't declared
abbrev pub role_fault : List Role → ℕ → ℕ → Option Fault
role_fault roles number role = if nat_lt role (length roles) then None else Some (UnknownName number)

-- the role of this step, where it is a loop that the line of this number begins
abbrev pub role_listed : ℕ → Step → Option ℕ
role_listed number (Once line) = None
role_listed number (Loop own role turns lines) = if own == number then Some role else None

-- the first fault of this role and of the rest of its list; none where the list has ended
abbrev pub listed_fault : List Role → ℕ → Option ℕ → Option Fault → Option Fault
listed_fault roles number None rest = None
listed_fault roles number (Some role) rest = first_of (role_fault roles number role) rest

-- a line that lists several roles begins a loop over each, one behind the other: the fault of this line, of which the
-- first of these steps are loops
abbrev pub list_fault : List Role → ℕ → List Step → Option Fault
list_fault roles number [] = None
list_fault roles number (step ∷ steps) = listed_fault roles number (role_listed number step) (list_fault roles number steps)

-- the fault of the roles that the line of a step lists behind its first: those of the steps that follow it
abbrev pub names_fault : List Role → Step → List Step → Option Fault
names_fault roles (Once line) steps = None
names_fault roles (Loop number role turns lines) steps = list_fault roles number steps

-- the fault of a line in a loop over this role
abbrev pub turn_fault : ℕ → List Role → ℕ → ℕ → Turns → Line → Option Fault
turn_fault jobs roles caller role turns line = line_fault jobs roles caller (fits_loop roles role turns line.call) line

abbrev pub step_fault : ℕ → List Role → ℕ → Step → Option Fault
step_fault jobs roles caller (Once line) = line_fault jobs roles caller true line
step_fault jobs roles caller (Loop number role turns lines) =
    first_of (role_fault roles number role) (first_fault (turn_fault jobs roles caller role turns) lines)

-- the first fault of these steps: all roles that a line lists are judged before the lines of its loop
abbrev pub steps_fault : ℕ → List Role → ℕ → List Step → Option Fault
steps_fault jobs roles caller [] = None
steps_fault jobs roles caller (step ∷ steps) =
    first_of (names_fault roles step steps) (first_of (step_fault jobs roles caller step) (steps_fault jobs roles caller steps))

-- the first fault of the scripts of these roles, the first of them with the number n
abbrev pub scripts_fault : ℕ → List Role → ℕ → List Role → Option Fault
scripts_fault jobs roles n [] = None
scripts_fault jobs roles n (role ∷ others) =
    first_of (steps_fault jobs roles n role.steps) (scripts_fault jobs roles (n + 1) others)

abbrev pub second_fault : ℕ → List Role → Option Fault
second_fault jobs roles = scripts_fault jobs roles 0 roles

-- the number of the first line with a commit
abbrev pub commit_line : List Line → Option ℕ
commit_line [] = None
commit_line (line ∷ lines) = if is_commit line.call then Some line.number else commit_line lines

abbrev pub bad_if : Bool → Option ℕ → Option Fault
bad_if bad None = None
bad_if bad (Some number) = if bad then Some (BadLine number) else None

-- the fault of a loop that commits: a put waits for the commit when the loop begins, or when a turn ends
abbrev pub commit_fault : Bool → Step → Option Fault
commit_fault waits (Once line) = None
commit_fault waits (Loop number role turns lines) = bad_if (waits || waits_after_all false lines) (commit_line lines)

-- the first fault of these steps, where a put waits before them or doesn't
abbrev pub commits_fault : Bool → List Step → Option Fault
commits_fault waits [] = None
commits_fault waits (step ∷ steps) = first_of (commit_fault waits step) (commits_fault (waits_after_step waits step) steps)

abbrev pub third_fault : List Role → Option Fault
third_fault roles = first_fault (λ role. commits_fault false role.steps) roles

abbrev pub roles_fault : ℕ → List Role → Option Fault
roles_fault jobs roles = first_of (second_fault jobs roles) (third_fault roles)

abbrev pub pattern_fault : Pattern → Option Fault
pattern_fault p = roles_fault (length p.jobs) p.roles

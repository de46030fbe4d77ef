-- Which patterns are sound: names and words are of their kinds, and the lines keep the restrictions under which few
-- processes of each role show what any number of them can.
use Rattle.std.specs.Prelude.{◌≡◌, ◌^◌, ℕ, ◌<◌, ◌≤◌, ◌==◌, ◌&&◌, ◌||◌, Bool, true, false, not, nat_lt, nat_le, List, [], ◌∷◌}
use Rattle.std.specs.Prelude.{map, flat_map, length, Some, slice_get}
use Rattle.std.specs.List.{list_all, list_any}
use Rattle.wire_types.specs.Said.{is_name, is_key, is_word}
use Rattle.wire_scripts.specs.Apart.{AreDistinct}
use Rattle.wire_runs.specs.Patterns.{Who, Only, Self, Each, Turns, Chosen}
use Rattle.wire_pattern.specs.Pattern.{Indexed, Item, One, Group, Job, Call, Put, Commit, Fence, Get, GetNow, Publish}
use Rattle.wire_pattern.specs.Pattern.{Lookup, LookupWait, Unpublish, UnpublishAll, Line, Step, Once, Loop, Role, Pattern}
use Rattle.wire_pattern.specs.Planned.{single_in}
use Rattle.wire_pattern.specs.Instances.{job_in}

-- a byte that isn't a bracket
abbrev pub is_plain_byte : ℕ → Bool
is_plain_byte b = not (b == 91 || b == 93)

-- the name of a job or a role: that of a plan, without brackets, of at most 63 bytes
abbrev pub is_plain_name : List ℕ → Bool
is_plain_name name = is_name name && (list_all is_plain_byte name && nat_le (length name) 63)

-- the base of a key or a name: a key without brackets
abbrev pub is_base : List ℕ → Bool
is_base base = is_key base && list_all is_plain_byte base

-- the processes that a call names: the owner of its key, those in its set by themselves, those that index
abbrev pub whos_in_item : Item → List Who
whos_in_item (One w) = w ∷ []
whos_in_item (Group role) = []
whos_in_item (Job job) = []

abbrev pub whos_in : Call → List Who
whos_in (Put scope key value) = key.indices
whos_in Commit = []
whos_in (Fence items collect) = flat_map whos_in_item items
whos_in (Get owner key) = owner ∷ key.indices
whos_in (GetNow owner key) = owner ∷ key.indices
whos_in (Publish name value) = name.indices
whos_in (Lookup name) = name.indices
whos_in (LookupWait name) = name.indices
whos_in (Unpublish name) = name.indices
whos_in UnpublishAll = []

abbrev pub is_each : Who → Bool
is_each Each = true
is_each _ = false

-- whether a call names the process that the turn is for
abbrev pub names_each : Call → Bool
names_each call = list_any is_each (whos_in call)

-- a role that is named by itself is one process
abbrev pub is_known_who : List Role → Who → Bool
is_known_who roles (Only role) = single_in (slice_get roles role)
is_known_who roles _ = true

abbrev pub is_known_item : ℕ → List Role → Item → Bool
is_known_item jobs roles (One w) = is_known_who roles w
is_known_item jobs roles (Group role) = nat_lt role (length roles)
is_known_item jobs roles (Job job) = nat_lt job jobs

-- the items of a fence
abbrev pub items_in : Call → List Item
items_in (Fence items collect) = items
items_in _ = []

-- whether all that a call names is there, where there are so many jobs
abbrev pub names_known : ℕ → List Role → Call → Bool
names_known jobs roles call = list_all (is_known_who roles) (whos_in call) && list_all (is_known_item jobs roles) (items_in call)

-- whether an item has all processes of the role
abbrev pub has_role : List Role → ℕ → Item → Bool
has_role roles role (One w) = false
has_role roles role (Group group) = group == role
has_role roles role (Job job) = job_in (slice_get roles role) == job

-- whether an item has the caller, a process of this role
abbrev pub has_caller : List Role → ℕ → Item → Bool
has_caller roles caller (One Self) = true
has_caller roles caller (One Each) = false
has_caller roles caller (One (Only role)) = role == caller
has_caller roles caller (Group role) = role == caller
has_caller roles caller (Job job) = job_in (slice_get roles caller) == job

-- whether the caller is in the set of its fence
abbrev pub is_member_call : List Role → ℕ → Call → Bool
is_member_call roles caller (Fence items collect) = list_any (has_caller roles caller) items
is_member_call roles caller _ = true

-- what may stand in a loop of `for some`
abbrev pub is_optional : Call → Bool
is_optional (Fence items collect) = false
is_optional (Publish name value) = false
is_optional (Unpublish name) = false
is_optional UnpublishAll = false
is_optional _ = true

abbrev pub is_turn_call : Turns → Call → Bool
is_turn_call Chosen call = is_optional call
is_turn_call _ call = true

abbrev pub is_commit : Call → Bool
is_commit Commit = true
is_commit _ = false

-- in a loop each line but a commit names the process of the turn, and no fence has the loop's whole role
abbrev pub is_loop_call : List Role → ℕ → Turns → Call → Bool
is_loop_call roles group turns call =
    (is_commit call || names_each call) && (not (list_any (has_role roles group) (items_in call)) && is_turn_call turns call)

-- the words of a call
abbrev pub words_in : Call → List Indexed
words_in (Put scope key value) = key ∷ []
words_in Commit = []
words_in (Fence items collect) = []
words_in (Get owner key) = key ∷ []
words_in (GetNow owner key) = key ∷ []
words_in (Publish name value) = name ∷ []
words_in (Lookup name) = name ∷ []
words_in (LookupWait name) = name ∷ []
words_in (Unpublish name) = name ∷ []
words_in UnpublishAll = []

abbrev pub values_in : Call → List (List ℕ)
values_in (Put scope key value) = value ∷ []
values_in (Publish name value) = value ∷ []
values_in _ = []

abbrev pub has_words : Call → Bool
has_words call = list_all (λ w. is_base w.base) (words_in call) && list_all is_word (values_in call)

-- whether a put waits for a commit after a call, and after some
abbrev pub waits_after : Bool → Call → Bool
waits_after waits (Put scope key value) = true
waits_after waits Commit = false
waits_after waits _ = waits

abbrev pub waits_after_all : Bool → List Line → Bool
waits_after_all waits [] = waits
waits_after_all waits (line ∷ lines) = waits_after_all (waits_after waits line.call) lines

abbrev pub has_commit : List Line → Bool
has_commit lines = list_any (λ l. is_commit l.call) lines

abbrev pub waits_after_step : Bool → Step → Bool
waits_after_step waits (Once line) = waits_after waits line.call
waits_after_step waits (Loop number group turns lines) = waits || waits_after_all waits lines

-- a line of a script of this role, by itself
abbrev pub is_sound_call : ℕ → List Role → ℕ → Call → Bool
is_sound_call jobs roles caller call = has_words call && (names_known jobs roles call && is_member_call roles caller call)

-- outside loops no line names `each`; a loop is over a role that is there, and where it commits, no put waits where it
-- begins, nor where a turn ends
abbrev pub is_sound_step : ℕ → List Role → ℕ → Bool → Step → Bool
is_sound_step jobs roles caller waits (Once line) = is_sound_call jobs roles caller line.call && not (names_each line.call)
is_sound_step jobs roles caller waits (Loop number group turns lines) =
    nat_lt group (length roles)
    && (list_all (λ l. is_sound_call jobs roles caller l.call && is_loop_call roles group turns l.call) lines
    && (not (has_commit lines) || (not waits && not (waits_after_all false lines))))

-- the steps of a script, where a put waits or doesn't
abbrev pub are_sound_steps : ℕ → List Role → ℕ → Bool → List Step → Bool
are_sound_steps jobs roles caller waits [] = true
are_sound_steps jobs roles caller waits (step ∷ steps) =
    is_sound_step jobs roles caller waits step && are_sound_steps jobs roles caller (waits_after_step waits step) steps

-- the least number of a single role is 1, that of a group at most 9
abbrev pub HasLawfulLeast : Role → Type 0
HasLawfulLeast role = (role.single ≡ true → role.least ≡ 1) × (role.least ≤ 9)

pub record IsSoundPattern (p : Pattern) : Type 0 where
  pub job_names : list_all (λ j. is_plain_name j.name) p.jobs ≡ true
  pub jobs_apart : AreDistinct (map (λ j. j.name) p.jobs)
  pub role_names : list_all (λ r. is_plain_name r.name) p.roles ≡ true
  pub roles_apart : AreDistinct (map (λ r. r.name) p.roles)
  pub in_jobs : list_all (λ r. nat_lt r.job (length p.jobs)) p.roles ≡ true
  pub together : (r s : ℕ) → r ≤ s → s < length p.roles → job_in (slice_get p.roles r) ≤ job_in (slice_get p.roles s)
  pub least : (r : ℕ) (role : Role) → slice_get p.roles r ≡ Some role → HasLawfulLeast role
  pub steps : (r : ℕ) (role : Role) → slice_get p.roles r ≡ Some role
      → are_sound_steps (length p.jobs) p.roles r false role.steps ≡ true
  pub few_jobs : length p.jobs < 2 ^ 31
  pub few_roles : length p.roles < 2 ^ 31

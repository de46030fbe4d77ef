-- What a line of a pattern's file can say, and its spelling. Jobs and roles are told by their names here: which job or
-- role a name is, all lines tell together.
use Rattle.std.specs.Prelude.{◌≡◌, ℕ, ◌==◌, ◌||◌, ◌&&◌, Bool, true, false, not, nat_le, List, [], ◌∷◌, ◌++◌}
use Rattle.std.specs.Prelude.{map, codes, decimal, if◌then◌else◌}
use Rattle.std.specs.List.{list_all, list_any, join_with_byte}
use Rattle.std.specs.Str.{bytes_eq}
use Rattle.wire_types.specs.declared.call.Scope.{Scope}
use Rattle.wire_types.specs.declared.verb.Verb.{Verb}
use Rattle.wire_types.specs.declared.verb.Verb.TheVariants as verb
use Rattle.wire_types.specs.Verbs.{text_of_verb}
use Rattle.wire_types.specs.Said.{is_name, is_word, spelled_scope, collect_words}
use Rattle.wire_runs.specs.Patterns.{Turns, InOrder, Round, Chosen}
use Rattle.wire_pattern.specs.Lawful.{is_plain_byte, is_base}
use Rattle.wire_pattern.specs.Instances.{indexed_text}

-- a name of a plan without brackets
abbrev pub is_bare_name : List ℕ → Bool
is_bare_name word = is_name word && list_all is_plain_byte word

-- the words that name no role
abbrev pub is_kept_word : List ℕ → Bool
is_kept_word word =
    bytes_eq word (codes "self") || (bytes_eq word (codes "each") || (bytes_eq word (codes "all")
    || (bytes_eq word (codes "some") || bytes_eq word (codes "cyclic"))))

abbrev pub is_role_name : List ℕ → Bool
is_role_name word = is_bare_name word && not (is_kept_word word)

-- a process: the caller, the one that the turn of a loop is for, or the one of a role
pub data Proc : Type 0 where
  Caller : Proc
  Each : Proc
  Named : (role : List ℕ) → Proc

abbrev pub spelled_proc : Proc → List ℕ
spelled_proc Caller = codes "self"
spelled_proc Each = codes "each"
spelled_proc (Named role) = role

abbrev pub is_lawful_proc : Proc → Bool
is_lawful_proc Caller = true
is_lawful_proc Each = true
is_lawful_proc (Named role) = is_role_name role

-- a key or a name: a base, and the processes that index it
pub record Key : Type 0 where
  pub base : List ℕ
  pub indices : List Proc

-- the base, and in brackets what indexes it, if something does
abbrev pub spelled_key : Key → List ℕ
spelled_key key = indexed_text key.base (map spelled_proc key.indices)

abbrev pub is_lawful_key : Key → Bool
is_lawful_key key = is_base key.base && list_all is_lawful_proc key.indices

-- an item of a fence's set: a process or all of a role, or all of a job
pub data Item : Type 0 where
  One : Proc → Item
  Every : (job : List ℕ) → Item

abbrev pub spelled_item : Item → List ℕ
spelled_item (One proc) = spelled_proc proc
spelled_item (Every job) = job ++ codes ":*"

abbrev pub is_lawful_item : Item → Bool
is_lawful_item (One proc) = is_lawful_proc proc
is_lawful_item (Every job) = is_bare_name job

-- the processes that a fence names: those of the caller's job, or those of the items
pub data Set : Type 0 where
  Own : Set
  Listed : List Item → Set

-- `all`, or the items with commas between them
abbrev pub spelled_set : Set → List ℕ
spelled_set Own = codes "all"
spelled_set (Listed items) = join_with_byte 44 (map spelled_item items)

abbrev pub is_lawful_set : Set → Bool
is_lawful_set Own = true
is_lawful_set (Listed []) = false
is_lawful_set (Listed (item ∷ items)) = list_all is_lawful_item (item ∷ items)

-- a call, as its line says it
pub data Call : Type 0 where
  Put : Scope → Key → (value : List ℕ) → Call
  Commit : Call
  Fence : Set → (collect : Bool) → Call
  Get : (owner : Proc) → Key → Call
  GetNow : (owner : Proc) → Key → Call
  Publish : (name : Key) → (value : List ℕ) → Call
  Lookup : (name : Key) → Call
  LookupWait : (name : Key) → Call
  Unpublish : (name : Key) → Call
  UnpublishAll : Call

-- keep: what a get brings to a node stays there. Single, Many: a role of one process, and of any number, at least so
-- many. Begin: a loop over roles, which `end` ends
pub data Said : Type 0 where
  Header : Said
  Keep : Said
  Job : (name : List ℕ) → Said
  Single : (name : List ℕ) → Said
  Many : (name : List ℕ) → (least : ℕ) → Said
  Begin : Turns → (roles : List (List ℕ)) → Said
  End : Said
  Calls : Call → Said

-- the verb of a call
abbrev pub verb_in : Call → Verb
verb_in (Put scope key value) = verb.Put
verb_in Commit = verb.Commit
verb_in (Fence set collect) = verb.Fence
verb_in (Get owner key) = verb.Get
verb_in (GetNow owner key) = verb.GetNow
verb_in (Publish name value) = verb.Publish
verb_in (Lookup name) = verb.Lookup
verb_in (LookupWait name) = verb.LookupWait
verb_in (Unpublish name) = verb.Unpublish
verb_in UnpublishAll = verb.Unpublish

-- the first word of a line
abbrev pub first_of_call : Call → List ℕ
first_of_call call = text_of_verb (verb_in call)

abbrev pub first_word : Said → List ℕ
first_word Header = codes "pattern"
first_word Keep = codes "keep"
first_word (Job name) = codes "job"
first_word (Single name) = codes "one"
first_word (Many name least) = codes "many"
first_word (Begin turns roles) = codes "for"
first_word End = codes "end"
first_word (Calls call) = first_of_call call

-- how many processes a group has at least, where that is said
abbrev pub min_words : ℕ → List (List ℕ)
min_words least = if least == 0 then [] else codes "min" ∷ decimal least ∷ []

-- the words of a loop: its turns, and its roles with commas between them
abbrev pub turn_words : Turns → List (List ℕ) → List (List ℕ)
turn_words InOrder roles = join_with_byte 44 roles ∷ []
turn_words Round roles = join_with_byte 44 roles ∷ codes "cyclic" ∷ []
turn_words Chosen roles = codes "some" ∷ join_with_byte 44 roles ∷ []

-- the names of one role or more
abbrev pub are_role_names : List (List ℕ) → Bool
are_role_names [] = false
are_role_names (role ∷ roles) = list_all is_role_name (role ∷ roles)

-- a loop that goes round is over one role, another over one or more
abbrev pub are_loop_roles : Turns → List (List ℕ) → Bool
are_loop_roles Round (role ∷ []) = is_role_name role
are_loop_roles Round roles = false
are_loop_roles InOrder roles = are_role_names roles
are_loop_roles Chosen roles = are_role_names roles

-- the words after the first
abbrev pub others_of_call : Call → List (List ℕ)
others_of_call (Put scope key value) = spelled_scope scope ∷ spelled_key key ∷ value ∷ []
others_of_call Commit = []
others_of_call (Fence set collect) = spelled_set set ∷ collect_words collect
others_of_call (Get owner key) = spelled_proc owner ∷ spelled_key key ∷ []
others_of_call (GetNow owner key) = spelled_proc owner ∷ spelled_key key ∷ []
others_of_call (Publish name value) = spelled_key name ∷ value ∷ []
others_of_call (Lookup name) = spelled_key name ∷ []
others_of_call (LookupWait name) = spelled_key name ∷ []
others_of_call (Unpublish name) = spelled_key name ∷ []
others_of_call UnpublishAll = codes "*" ∷ []

abbrev pub other_words : Said → List (List ℕ)
other_words Header = codes "1" ∷ []
other_words Keep = []
other_words (Job name) = name ∷ []
other_words (Single name) = name ∷ []
other_words (Many name least) = name ∷ min_words least
other_words (Begin turns roles) = turn_words turns roles
other_words End = []
other_words (Calls call) = others_of_call call

-- what may be said: each part is of its kind
abbrev pub is_lawful_call : Call → Bool
is_lawful_call (Put scope key value) = is_lawful_key key && is_word value
is_lawful_call Commit = true
is_lawful_call (Fence set collect) = is_lawful_set set
is_lawful_call (Get owner key) = is_lawful_proc owner && is_lawful_key key
is_lawful_call (GetNow owner key) = is_lawful_proc owner && is_lawful_key key
is_lawful_call (Publish name value) = is_lawful_key name && is_word value
is_lawful_call (Lookup name) = is_lawful_key name
is_lawful_call (LookupWait name) = is_lawful_key name
is_lawful_call (Unpublish name) = is_lawful_key name
is_lawful_call UnpublishAll = true

abbrev pub is_lawful : Said → Bool
is_lawful Header = true
is_lawful Keep = true
is_lawful (Job name) = is_bare_name name
is_lawful (Single name) = is_role_name name
is_lawful (Many name least) = is_role_name name && nat_le least 9
is_lawful (Begin turns roles) = are_loop_roles turns roles
is_lawful End = true
is_lawful (Calls call) = is_lawful_call call

-- the words say it
abbrev pub Says : List (List ℕ) → Said → Type 0
Says words said = (words ≡ first_word said ∷ other_words said) × (is_lawful said ≡ true)

abbrev pub is_each : Proc → Bool
is_each Caller = false
is_each Each = true
is_each (Named role) = false

abbrev pub is_each_item : Item → Bool
is_each_item (One proc) = is_each proc
is_each_item (Every job) = false

abbrev pub is_each_in : Set → Bool
is_each_in Own = false
is_each_in (Listed items) = list_any is_each_item items

abbrev pub has_each : Key → Bool
has_each key = list_any is_each key.indices

-- whether a call names the process that the turn of a loop is for: as owner of its key, as item of its set, or as index
abbrev pub names_each : Call → Bool
names_each (Put scope key value) = has_each key
names_each Commit = false
names_each (Fence set collect) = is_each_in set
names_each (Get owner key) = is_each owner || has_each key
names_each (GetNow owner key) = is_each owner || has_each key
names_each (Publish name value) = has_each name
names_each (Lookup name) = has_each name
names_each (LookupWait name) = has_each name
names_each (Unpublish name) = has_each name
names_each UnpublishAll = false

abbrev pub is_commit : Call → Bool
is_commit Commit = true
is_commit _ = false

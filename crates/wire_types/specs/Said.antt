-- What a line of the file can say, and its spelling.
use Rattle.std.specs.Prelude.{◌≡◌, ℕ, ◌^◌, ◌<◌, ◌==◌, ◌||◌, ◌&&◌, Bool, true, false, IsTrue, not, nat_le, List, [], ◌∷◌}
use Rattle.std.specs.Prelude.{◌++◌, length, take, map, codes}
use Rattle.std.specs.Prelude.{decimal, ⊤}
use Rattle.std.specs.List.{list_all, join_with_byte}
use Rattle.std.specs.Str.{bytes_eq}
use Rattle.wire_types.specs.declared.call.Scope.{Scope}
use Rattle.wire_types.specs.declared.call.Scope.TheVariants.{Local, Remote, Global}
use Rattle.wire_types.specs.declared.verb.Verb.{Verb}
use Rattle.wire_types.specs.declared.verb.Verb.TheVariants as verb
use Rattle.wire_types.specs.declared.version.Version.{Version}
use Rattle.wire_types.specs.declared.version.Version.TheVariants as version
use Rattle.wire_types.specs.Verbs.{text_of_verb}

-- a byte of a word
abbrev pub is_word_byte : ℕ → Bool
is_word_byte b = nat_le 33 b && nat_le b 126

-- a byte of the name of a node or a job: none of `:` `,` `#` `*`
abbrev pub is_name_byte : ℕ → Bool
is_name_byte b = is_word_byte b && not (b == 58 || b == 44 || b == 35 || b == 42)

abbrev pub is_word : List ℕ → Bool
is_word word = not (length word == 0) && list_all is_word_byte word

abbrev pub is_name : List ℕ → Bool
is_name word = not (length word == 0) && list_all is_name_byte word

-- any word but the single star
abbrev pub is_key : List ℕ → Bool
is_key word = is_word word && not (bytes_eq word (codes "*"))

-- whether a word begins with these bytes
abbrev pub begins_with : List ℕ → List ℕ → Bool
begins_with front word = bytes_eq front (take (length front) word)

-- a key that the standard keeps for itself
unfoldable pub is_reserved : List ℕ → Bool
is_reserved word = begins_with (codes "pmix") word || begins_with (codes "PMIX_") word

abbrev pub spelled_version : Version → List ℕ
spelled_version version.One = codes "1"
spelled_version version.Two = codes "2"

abbrev pub spelled_scope : Scope → List ℕ
spelled_scope Local = codes "local"
spelled_scope Remote = codes "remote"
spelled_scope Global = codes "global"

-- a name, a colon and a rank in decimal; a lawful rank has at most nine digits
abbrev pub spelled_proc : List ℕ → ℕ → List ℕ
spelled_proc job rank = job ++ 58 ∷ decimal rank

-- what an item of a fence's set names: a process, or all of a job
pub data Item : Type 0 where
  One : (job : List ℕ) → (rank : ℕ) → Item
  Every : (job : List ℕ) → Item

-- the processes that a fence names: those of the caller's job, or those of the items
pub data Set : Type 0 where
  Own : Set
  Listed : List Item → Set

abbrev pub spelled_item : Item → List ℕ
spelled_item (One job rank) = spelled_proc job rank
spelled_item (Every job) = job ++ 58 ∷ codes "*"

-- `all`, or the items with commas between them
abbrev pub spelled_set : Set → List ℕ
spelled_set Own = codes "all"
spelled_set (Listed items) = join_with_byte 44 (map spelled_item items)

-- a call, as its line says it. UnpublishAll is spelled with a star, which is no name
pub data Call : Type 0 where
  Put : Scope → (key value : List ℕ) → Call
  Commit : Call
  Fence : Set → (collect : Bool) → Call
  Get : (job : List ℕ) → (rank : ℕ) → (key : List ℕ) → Call
  GetNow : (job : List ℕ) → (rank : ℕ) → (key : List ℕ) → Call
  Publish : (name value : List ℕ) → Call
  Lookup : (name : List ℕ) → Call
  LookupWait : (name : List ℕ) → Call
  Unpublish : (name : List ℕ) → Call
  UnpublishAll : Call

-- keep: what a get brings to a node stays there
pub data Said : Type 0 where
  Header : Version → Said
  Keep : Said
  Node : (name : List ℕ) → Said
  Job : (name : List ℕ) → Said
  Rank : (node : List ℕ) → Said
  Calls : Call → Said

-- the verb of a call
abbrev pub verb_in : Call → Verb
verb_in (Put scope key value) = verb.Put
verb_in Commit = verb.Commit
verb_in (Fence set collect) = verb.Fence
verb_in (Get job rank key) = verb.Get
verb_in (GetNow job rank key) = verb.GetNow
verb_in (Publish name value) = verb.Publish
verb_in (Lookup name) = verb.Lookup
verb_in (LookupWait name) = verb.LookupWait
verb_in (Unpublish name) = verb.Unpublish
verb_in UnpublishAll = verb.Unpublish

-- the first word of a line
abbrev pub first_of_call : Call → List ℕ
first_of_call call = text_of_verb (verb_in call)

abbrev pub first_word : Said → List ℕ
first_word (Header version) = codes "rehearsal"
first_word Keep = codes "keep"
first_word (Node name) = codes "node"
first_word (Job name) = codes "job"
first_word (Rank node) = codes "rank"
first_word (Calls call) = first_of_call call

-- the word by which a fence collects, or none
abbrev pub collect_words : Bool → List (List ℕ)
collect_words true = codes "collect" ∷ []
collect_words false = []

-- the words after the first
abbrev pub others_of_call : Call → List (List ℕ)
others_of_call (Put scope key value) = spelled_scope scope ∷ key ∷ value ∷ []
others_of_call Commit = []
others_of_call (Fence set collect) = spelled_set set ∷ collect_words collect
others_of_call (Get job rank key) = spelled_proc job rank ∷ key ∷ []
others_of_call (GetNow job rank key) = spelled_proc job rank ∷ key ∷ []
others_of_call (Publish name value) = name ∷ value ∷ []
others_of_call (Lookup name) = name ∷ []
others_of_call (LookupWait name) = name ∷ []
others_of_call (Unpublish name) = name ∷ []
others_of_call UnpublishAll = codes "*" ∷ []

abbrev pub other_words : Said → List (List ℕ)
other_words (Header version) = spelled_version version ∷ []
other_words Keep = []
other_words (Node name) = name ∷ []
other_words (Job name) = name ∷ []
other_words (Rank node) = node ∷ []
other_words (Calls call) = others_of_call call

abbrev pub IsLawfulItem : Item → Type 0
IsLawfulItem (One job rank) = IsTrue (is_name job) × (rank < 10 ^ 9)
IsLawfulItem (Every job) = IsTrue (is_name job)

abbrev pub AreLawful : List Item → Type 0
AreLawful [] = ⊤
AreLawful (i ∷ is) = IsLawfulItem i × AreLawful is

abbrev pub IsLawfulSet : Set → Type 0
IsLawfulSet Own = ⊤
IsLawfulSet (Listed items) = (0 < length items) × AreLawful items

-- what may be said: each part is of its kind
abbrev pub IsLawfulCall : Call → Type 0
IsLawfulCall (Put scope key value) = IsTrue (is_key key) × IsTrue (is_word value)
IsLawfulCall Commit = ⊤
IsLawfulCall (Fence set collect) = IsLawfulSet set
IsLawfulCall (Get job rank key) = IsTrue (is_name job) × (rank < 10 ^ 9) × IsTrue (is_key key)
IsLawfulCall (GetNow job rank key) = IsTrue (is_name job) × (rank < 10 ^ 9) × IsTrue (is_key key)
IsLawfulCall (Publish name value) = IsTrue (is_key name) × IsTrue (is_word value)
IsLawfulCall (Lookup name) = IsTrue (is_key name)
IsLawfulCall (LookupWait name) = IsTrue (is_key name)
IsLawfulCall (Unpublish name) = IsTrue (is_key name)
IsLawfulCall UnpublishAll = ⊤

abbrev pub IsLawfulLine : Said → Type 0
IsLawfulLine (Header version) = ⊤
IsLawfulLine Keep = ⊤
IsLawfulLine (Node name) = IsTrue (is_name name)
IsLawfulLine (Job name) = IsTrue (is_name name)
IsLawfulLine (Rank node) = IsTrue (is_name node)
IsLawfulLine (Calls call) = IsLawfulCall call

-- the words say it
abbrev pub Says : List (List ℕ) → Said → Type 0
Says words said = (words ≡ first_word said ∷ other_words said) × IsLawfulLine said

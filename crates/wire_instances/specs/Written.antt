-- Parts of the text of an instance: for private contracts alone.
use Rattle.std.specs.Prelude.{◌≡◌, take, ℕ, zero, suc, List, [], ◌∷◌, ◌++◌, map, flat_map, codes, slice_get}
use Rattle.wire_types.specs.Said as said
use Rattle.wire_types.specs.Said.{spelled_scope, spelled_set, spelled_proc, collect_words}
use Rattle.wire_scripts.specs.Canonical.{line_text}
use Rattle.wire_pattern.specs.Pattern.{Pattern, Call, Put, Commit, Fence, Get, GetNow, Publish}
use Rattle.wire_pattern.specs.Pattern.{Lookup, LookupWait, Unpublish, UnpublishAll}
use Rattle.wire_pattern.specs.Instances.{Cast, process_said, number_in, steps_lines}
use Rattle.wire_pattern.specs.Planned.{steps_in}

-- two texts have the same first bytes, so many
abbrev pub AgreeOn : ℕ → List ℕ → List ℕ → Type 0
AgreeOn wanted written text = take wanted written ≡ take wanted text

-- words, each behind a byte, and a last byte
abbrev pub ended_text : ℕ → ℕ → List (List ℕ) → List ℕ
ended_text between last [] = last ∷ []
ended_text between last (word ∷ words) = between ∷ (word ++ ended_text between last words)

-- what comes behind the first word of a line
abbrev pub rest_text : List (List ℕ) → List ℕ
rest_text words = ended_text 32 10 words

-- the lines of calls
abbrev pub calls_text : List said.Call → List ℕ
calls_text calls = flat_map line_text (map said.Calls calls)

-- so many processes of a role, the first of them the number v
abbrev pub role_said : Pattern → Cast → ℕ → ℕ → ℕ → List said.Said
role_said p cast role v zero = []
role_said p cast role v (suc n) = process_said p cast v role ++ role_said p cast role (suc v) n

-- the line of a call in two parts: in the first all that is known without the caller, in the second the rest
abbrev pub front_words : Call → List ℕ
front_words (Put scope key value) = codes "put" ++ 32 ∷ spelled_scope scope
front_words Commit = codes "commit\n"
front_words (Fence items collect) = codes "fence"
front_words (Get owner key) = codes "get"
front_words (GetNow owner key) = codes "get-now"
front_words (Publish name value) = codes "publish"
front_words (Lookup name) = codes "lookup"
front_words (LookupWait name) = codes "lookup-wait"
front_words (Unpublish name) = codes "unpublish"
front_words UnpublishAll = codes "unpublish *\n"

abbrev pub operands_text : said.Call → List ℕ
operands_text (said.Put scope key value) = rest_text (key ∷ value ∷ [])
operands_text said.Commit = []
operands_text (said.Fence set collect) = rest_text (spelled_set set ∷ collect_words collect)
operands_text (said.Get job rank key) = rest_text (spelled_proc job rank ∷ key ∷ [])
operands_text (said.GetNow job rank key) = rest_text (spelled_proc job rank ∷ key ∷ [])
operands_text (said.Publish name value) = rest_text (name ∷ value ∷ [])
operands_text (said.Lookup name) = rest_text (name ∷ [])
operands_text (said.LookupWait name) = rest_text (name ∷ [])
operands_text (said.Unpublish name) = rest_text (name ∷ [])
operands_text said.UnpublishAll = []

-- the numbers of the lines of so many processes of a role, the first of them the number v
abbrev pub role_lines : Pattern → Cast → ℕ → ℕ → ℕ → List ℕ
role_lines p cast role v zero = []
role_lines p cast role v (suc n) =
    (number_in (slice_get p.roles role) ∷ steps_lines cast v 0 (steps_in (slice_get p.roles role)))
    ++ role_lines p cast role (suc v) n

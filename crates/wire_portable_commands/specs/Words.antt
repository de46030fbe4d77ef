-- The words of what is told of libraries: the rules by which calls are blamed, and the names of libraries.
use Rattle.std.specs.Prelude.{ℕ, Bool, true, false, not, List, [], ◌∷◌, ◌++◌, codes, if◌then◌else◌}
use Rattle.std.specs.List.{join_with_byte}
use Rattle.wire_portable.specs.Libraries.{is_empty, none, either}
use Rattle.wire_portable.specs.declared.libraries.Libraries.{Libraries}
use Rattle.wire_portable.specs.declared.listed.Rule.{Rule}
use Rattle.wire_portable.specs.declared.listed.Rule.TheVariants.{FarGet, FarLocal, FenceCollect, FenceJobs, FenceRepeats, FenceSpelling, GetNow}
use Rattle.wire_portable.specs.declared.listed.Rule.TheVariants.{Mates, NearGet, NearRemote, Published, Reserved, Rewrite, UnpublishAll, Unpublished}
use Rattle.wire_portable.specs.declared.listed.Unportable.{Unportable}

-- the word of a rule
abbrev pub rule_word : Rule → List ℕ
rule_word FarGet = codes "far-get"
rule_word FarLocal = codes "far-local"
rule_word FenceCollect = codes "fence-collect"
rule_word FenceJobs = codes "fence-jobs"
rule_word FenceRepeats = codes "fence-repeats"
rule_word FenceSpelling = codes "fence-spelling"
rule_word GetNow = codes "get-now"
rule_word Mates = codes "mates"
rule_word NearGet = codes "near-get"
rule_word NearRemote = codes "near-remote"
rule_word Published = codes "published"
rule_word Reserved = codes "reserved"
rule_word Rewrite = codes "rewrite"
rule_word UnpublishAll = codes "unpublish-all"
rule_word Unpublished = codes "unpublished"

-- the name of a library, where it is of a set
abbrev pub named : Bool → List ℕ → List (List ℕ)
named false name = []
named true name = name ∷ []

-- the names of the libraries of a set, in the order of their versions
abbrev pub names_of : Libraries → List (List ℕ)
names_of set = named set.v4 (codes "4.2") ++ named set.v5 (codes "5.0") ++ named set.v7 (codes "7.0")

-- with commas between them
abbrev pub names_text : Libraries → List ℕ
names_text set = join_with_byte 44 (names_of set)

-- and where the set is empty a word that says so
abbrev pub names_or_none : Libraries → List ℕ
names_or_none set = if is_empty set then codes "none" else names_text set

-- the libraries that some line has
abbrev pub blamed_in : List Unportable → Libraries
blamed_in [] = none
blamed_in (line ∷ lines) = either line.libraries (blamed_in lines)

-- all that aren't of a set
abbrev pub others : Libraries → Libraries
others set = record { v4 = not set.v4; v5 = not set.v5; v7 = not set.v7 }

-- the libraries that no line has
abbrev pub portable_in : List Unportable → Libraries
portable_in lines = others (blamed_in lines)

-- The lines of `check --portable` behind those of the findings: one for each call and rule, or with places one for each
-- rule, and last the libraries for which no line stands.
use Rattle.std.specs.Prelude.{ℕ, ◌==◌, Bool, List, [], ◌∷◌, ◌++◌, codes, decimal, filter, length}
use Rattle.std.specs.List.{flat_map}
use Rattle.wire_types.specs.declared.CallAt.{CallAt}
use Rattle.wire_scripts.specs.Scripts.{Scripts}
use Rattle.wire_report.specs.GroupedText.{said_call}
use Rattle.wire_report.specs.Place.{place_text}
use Rattle.wire_portable.specs.Listed.{rule_number}
use Rattle.wire_portable.specs.declared.listed.Rule.{Rule}
use Rattle.wire_portable.specs.declared.listed.Rule.TheVariants.{FarGet, FarLocal, FenceCollect, FenceJobs, FenceRepeats, FenceSpelling, GetNow}
use Rattle.wire_portable.specs.declared.listed.Rule.TheVariants.{Mates, NearGet, NearRemote, Published, Reserved, Rewrite, UnpublishAll, Unpublished}
use Rattle.wire_portable.specs.declared.listed.Unportable.{Unportable}
use Rattle.wire_portable_commands.specs.Words.{blamed_in, names_or_none, names_text, portable_in, rule_word}

-- a call, the rule by which it is blamed, and the libraries: `unportable app:2 2 get mates 4.2,5.0,7.0`
abbrev pub unportable_call : Scripts → Unportable → List ℕ
unportable_call s line = codes "unportable " ++ said_call s line.call

abbrev pub blame_of : Unportable → List ℕ
blame_of line = codes " " ++ rule_word line.rule ++ codes " " ++ names_text line.libraries ++ codes "\n"

abbrev pub unportable_line : Scripts → Unportable → List ℕ
unportable_line s line = unportable_call s line ++ blame_of line

-- the last line: `portable 5.0,7.0`
abbrev pub portable_line : List Unportable → List ℕ
portable_line lines = codes "portable " ++ names_or_none (portable_in lines) ++ codes "\n"

abbrev pub plain_lines : Scripts → List Unportable → List ℕ
plain_lines s lines = flat_map (unportable_line s) lines ++ portable_line lines

-- the rules, in the order of their words
abbrev pub all_rules : List Rule
all_rules =
    FarGet ∷ FarLocal ∷ FenceCollect ∷ FenceJobs ∷ FenceRepeats ∷ FenceSpelling ∷ GetNow ∷ Mates ∷ NearGet ∷ NearRemote ∷ Published ∷ Reserved ∷ Rewrite
    ∷ UnpublishAll ∷ Unpublished ∷ []

-- the calls that are blamed by a rule
abbrev pub is_by : Rule → Unportable → Bool
is_by rule line = rule_number line.rule == rule_number rule

abbrev pub lines_by : Rule → List Unportable → List Unportable
lines_by rule lines = filter (is_by rule) lines

-- how many calls a rule has, and the libraries of all of them: `2 unportable by near-get in 4.2: `
abbrev pub counted_by : Rule → List Unportable → List ℕ
counted_by rule lines = decimal (length lines) ++ codes " unportable by " ++ rule_word rule

abbrev pub in_libraries : List Unportable → List ℕ
in_libraries lines = codes " in " ++ names_text (blamed_in lines) ++ codes ": "

abbrev pub counted : Rule → List Unportable → List ℕ
counted rule lines = counted_by rule lines ++ in_libraries lines

abbrev pub counted_call : Scripts → Rule → List Unportable → CallAt → List ℕ
counted_call s rule lines call = counted rule lines ++ said_call s call ++ codes "\n"

-- the line of a rule's calls, none where it has none: where the first of them stands, how many there are, and the first
abbrev pub group_line : List ℕ → List (List ℕ) → Scripts → Rule → List Unportable → List ℕ
group_line name rows s rule [] = []
group_line name rows s rule (line ∷ lines) = place_text name rows line.call ++ counted_call s rule (line ∷ lines) line.call

abbrev pub group_of_rule : List ℕ → List (List ℕ) → Scripts → List Unportable → Rule → List ℕ
group_of_rule name rows s lines rule = group_line name rows s rule (lines_by rule lines)

abbrev pub grouped_lines : List ℕ → List (List ℕ) → Scripts → List Unportable → List ℕ
grouped_lines name rows s lines = flat_map (group_of_rule name rows s lines) all_rules ++ portable_line lines

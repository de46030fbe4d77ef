-- What `check --pattern` says of instances that are larger than those that are judged, where no call waits in these.
use Rattle.std.specs.Prelude.{◌≡◌, ◌≢◌, ◌==◌, ◌&&◌, ◌||◌, ℕ, Bool, true, false, not, min, List, [], ◌∷◌, ◌++◌}
use Rattle.std.specs.Prelude.{Option, Some, None, codes, decimal, if◌then◌else◌}
use Rattle.std.specs.List.{list_all, list_any}
use Rattle.wire_pattern.specs.Pattern.{Role, Pattern}
use Rattle.wire_cutoff_laws.specs.Sizes.{most_of}
use Rattle.wire_reply_laws.specs.Promised.{IsAnsweredForAll, AreTextsAnswered}
use Rattle.wire_pattern_waits.specs.declared.lines.CallLine.{CallLine}
use Rattle.wire_pattern_waits.specs.Waits.{AllReplied}
use Rattle.wire_pattern_later.specs.Later.{AreLater, IsNoneLater, later_text}
use Rattle.wire_pattern_commands.specs.declared.beyond.Beyond.{Beyond}
use Rattle.wire_pattern_commands.specs.declared.beyond.Beyond.TheVariants.{Unsaid, Never, First, Unknown}

-- the smallest of this number, unless it is 0, and of how many processes of each of these groups are judged at most
abbrev pub smallest : ℕ → List Role → ℕ
smallest n [] = n
smallest n (role ∷ roles) = smallest (if role.single then n else if n == 0 then most_of role else min n (most_of role)) roles

abbrev pub is_group : Role → Bool
is_group role = not role.single

abbrev pub has_groups : List Role → Bool
has_groups roles = list_any is_group roles

-- a single role, or a group of which so many processes are judged at most
abbrev pub has_most : ℕ → Role → Bool
has_most n role = role.single || most_of role == n

-- up to how many processes of a group are judged, and whether it is the first group; nothing of a single role
abbrev pub most_words : (first : Bool) → Role → List ℕ
most_words first role =
    if role.single then []
    else (if first then codes "up to " else codes ", up to ") ++ (decimal (most_of role) ++ (codes " ranks of " ++ role.name))

-- so for each of these roles
abbrev pub each_most : (first : Bool) → List Role → List ℕ
each_most first [] = []
each_most first (role ∷ roles) = most_words first role ++ each_most (first && role.single) roles

-- all instances with up to so many processes of each group are judged, with all turns of loops that only read. Where no
-- role is a group, all have one number of processes
abbrev pub judged_words : List Role → List ℕ
judged_words roles =
    if not (has_groups roles) then codes "the instances that are judged"
    else if list_all (has_most (smallest 0 roles)) roles then codes "up to " ++ (decimal (smallest 0 roles) ++ codes " ranks of each group")
    else each_most true roles

-- whether it is known that every call is answered with each number of ranks that there can be
abbrev pub is_known_answered : Beyond → Bool
is_known_answered Never = true
is_known_answered _ = false

-- with how many processes of each group something waits first, where that is known
abbrev pub first_ranks : Beyond → Option ℕ
first_ranks (First later) = Some later.ranks
first_ranks _ = None

-- what is so: some call waits in the instances that are judged; or none does, and one of three: none waits in any instance;
-- with so many processes of each group some call waits first; or none waits as far as it looks
abbrev pub IsBeyond : Pattern → List CallLine → Beyond → Type 0
IsBeyond p lines Unsaid = lines ≢ []
IsBeyond p lines Never = (lines ≡ []) × (IsAnsweredForAll p × AreTextsAnswered p)
IsBeyond p lines (First later) = (lines ≡ []) × AreLater p later.ranks later.lines.items
IsBeyond p lines Unknown = (lines ≡ []) × (AllReplied p × IsNoneLater p)

-- the lines that tell where something waits first
abbrev pub first_text : Pattern → Beyond → List ℕ
first_text p (First later) = later_text p later.ranks later.lines.items
first_text p _ = []

-- of which instances every call is known to be answered
abbrev pub answered_words : Pattern → Beyond → List ℕ
answered_words p Never = codes "every number of ranks"
answered_words p Unknown = judged_words p.roles
answered_words p _ = []

-- that it isn't known of other instances: of more processes, where there can be more
abbrev pub line_end : Pattern → Beyond → List ℕ
line_end p Unknown = if has_groups p.roles then codes ", not known for more\n" else codes ", not known for others\n"
line_end p _ = codes "\n"

-- the line that says it
abbrev pub said_line : Pattern → Beyond → List ℕ
said_line p beyond = codes "every call is answered for " ++ (answered_words p beyond ++ line_end p beyond)

-- the lines about larger instances
abbrev pub beyond_text : Pattern → Beyond → List ℕ
beyond_text p Unsaid = []
beyond_text p (First later) = first_text p (First later)
beyond_text p beyond = said_line p beyond

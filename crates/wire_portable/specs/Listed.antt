-- How lines stand in their list, and which tell of spellings.
use Rattle.std.specs.Prelude.{ℕ, Bool, true, false}
use Rattle.std.specs.Ordering.{ordering_then, nat_cmp}
use Rattle.std.specs.declared.cmp.Ordering.{Ordering}
use Rattle.wire_types.specs.declared.CallAt.{CallAt}
use Rattle.wire_portable.specs.declared.listed.Rule.{Rule}
use Rattle.wire_portable.specs.declared.listed.Rule.TheVariants.{FarGet, FarLocal, FenceCollect, FenceJobs, FenceRepeats, FenceSpelling, GetNow}
use Rattle.wire_portable.specs.declared.listed.Rule.TheVariants.{Mates, NearGet, NearRemote, Published, Reserved, Rewrite, UnpublishAll, Unpublished}
use Rattle.wire_portable.specs.declared.listed.Unportable.{Unportable}

-- the place of a rule in the order of the words that name rules
abbrev pub rule_number : Rule → ℕ
rule_number FarGet = 0
rule_number FarLocal = 1
rule_number FenceCollect = 2
rule_number FenceJobs = 3
rule_number FenceRepeats = 4
rule_number FenceSpelling = 5
rule_number GetNow = 6
rule_number Mates = 7
rule_number NearGet = 8
rule_number NearRemote = 9
rule_number Published = 10
rule_number Reserved = 11
rule_number Rewrite = 12
rule_number UnpublishAll = 13
rule_number Unpublished = 14

-- by processes, calls and rules
abbrev pub call_cmp : CallAt → CallAt → Ordering
call_cmp v w = ordering_then (nat_cmp v.proc.number w.proc.number) (nat_cmp v.call w.call)

abbrev pub line_cmp : Unportable → Unportable → Ordering
line_cmp x y = ordering_then (call_cmp x.call y.call) (nat_cmp (rule_number x.rule) (rule_number y.rule))

-- a call doesn't spell its set as another one does
abbrev pub is_of_spelling : Rule → Bool
is_of_spelling FenceSpelling = true
is_of_spelling _ = false

abbrev pub is_spelling : Unportable → Bool
is_spelling line = is_of_spelling line.rule

-- The usages of the lines of a pattern.
use Rattle.std.proofs.Common.{refl}
use Rattle.wire_pattern_lines.specs.Said.{Header, Keep, Job, Single, Many, Begin, End, Calls, Put, Commit, Fence, Get, GetNow, Publish, Lookup, LookupWait, Unpublish, UnpublishAll}
use Rattle.wire_explain.specs.Format.{PatternLinesHaveUsages}

pub lines_have_usages : PatternLinesHaveUsages
lines_have_usages Header = refl
lines_have_usages Keep = refl
lines_have_usages (Job name) = refl
lines_have_usages (Single name) = refl
lines_have_usages (Many name least) = refl
lines_have_usages (Begin turns roles) = refl
lines_have_usages End = refl
lines_have_usages (Calls (Put scope key value)) = refl
lines_have_usages (Calls Commit) = refl
lines_have_usages (Calls (Fence set collect)) = refl
lines_have_usages (Calls (Get owner key)) = refl
lines_have_usages (Calls (GetNow owner key)) = refl
lines_have_usages (Calls (Publish name value)) = refl
lines_have_usages (Calls (Lookup name)) = refl
lines_have_usages (Calls (LookupWait name)) = refl
lines_have_usages (Calls (Unpublish name)) = refl
lines_have_usages (Calls UnpublishAll) = refl

-- The usages of the lines of the format.
use Rattle.std.proofs.Common.{refl}
use Rattle.wire_lines.specs.Said.{Header, Keep, Node, Job, Rank, Calls, Put, Commit, Fence, Get, GetNow, Publish, Lookup, LookupWait, Unpublish, UnpublishAll}
use Rattle.wire_explain.specs.Format.{LinesHaveUsages}

pub lines_have_usages : LinesHaveUsages
lines_have_usages (Header version) = refl
lines_have_usages Keep = refl
lines_have_usages (Node name) = refl
lines_have_usages (Job name) = refl
lines_have_usages (Rank node) = refl
lines_have_usages (Calls (Put scope key value)) = refl
lines_have_usages (Calls Commit) = refl
lines_have_usages (Calls (Fence set collect)) = refl
lines_have_usages (Calls (Get job rank key)) = refl
lines_have_usages (Calls (GetNow job rank key)) = refl
lines_have_usages (Calls (Publish name value)) = refl
lines_have_usages (Calls (Lookup name)) = refl
lines_have_usages (Calls (LookupWait name)) = refl
lines_have_usages (Calls (Unpublish name)) = refl
lines_have_usages (Calls UnpublishAll) = refl

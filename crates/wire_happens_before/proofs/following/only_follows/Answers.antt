use Rattle.std.proofs.Common.{[], sym}
use Rattle.std.proofs.lemmas.Bool.{true≢false}
use Rattle.wire_happens_before.proofs.Unfollowing.{as_kind, get_waits, leave_waits, lookup_wait_waits, publish_changes, unpublish_changes, unpublish_all_changes}
use Rattle.wire_happens_before.proofs.following.only_follows.Goals as goal

pub returns-in-Leave : goal.returns-in-Leave
returns-in-Leave c = (λ no. absurd (true≢false (sym no)), λ follows. absurd (leave_waits _ (as_kind _ _ c.in-Leave.is follows)))

pub returns-in-Get : goal.returns-in-Get
returns-in-Get c = (λ no. absurd (true≢false (sym no)), λ follows. absurd (get_waits _ _ (as_kind _ _ c.in-Get.is follows [])))

pub returns-in-Publish : goal.returns-in-Publish
returns-in-Publish c = (λ no. absurd (true≢false (sym no)), λ follows. absurd (publish_changes _ (as_kind _ _ c.in-Publish.is follows [])))

pub returns-in-LookupWait : goal.returns-in-LookupWait
returns-in-LookupWait c = (λ no. absurd (true≢false (sym no)), λ follows. absurd (lookup_wait_waits _ (as_kind _ _ c.in-LookupWait.is follows [])))

pub returns-in-Unpublish : goal.returns-in-Unpublish
returns-in-Unpublish c = (λ no. absurd (true≢false (sym no)), λ follows. absurd (unpublish_changes _ (as_kind _ _ c.in-Unpublish.is follows [])))

pub returns-in-UnpublishAll : goal.returns-in-UnpublishAll
returns-in-UnpublishAll c = (λ no. absurd (true≢false (sym no)), λ follows. absurd (unpublish_all_changes (as_kind _ _ c.in-UnpublishAll.is follows [])))

use Rattle.std.proofs.Common.{◌∙◌, sym, subst}
use Rattle.wire_portable.specs.Unportable.{IsUnblamed}
use Rattle.wire_portable.proofs.Lined.{all_blamed}
use Rattle.wire_portable.proofs.listed.UnportableList.blames_all.Goals as goal

pub returns-then-line-3 : goal.returns-then-line-3
returns-then-line-3 c = λ t library u. all_blamed c.deref-line-items.result.now c.loop-line.line-index _ c.loop-line-test.true c.if-line.true c.if-line-2.true c.if-line-3.true library
    (subst (IsUnblamed library) (sym (c.deref-line-items.ensures.value ∙ c.self.view_is)) u)

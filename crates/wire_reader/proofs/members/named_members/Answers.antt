use Rattle.std.proofs.Common.{◌≡◌, ◌∙◌, ap, subst}
use Rattle.std.specs.Prelude.{IfOk}
use Rattle.wire_scripts.specs.Scripts.{numbers_of}
use Rattle.wire_reader.specs.Drafted.{declared_of}
use Rattle.wire_reader.specs.Targets.{named_in}
use Rattle.wire_reader.proofs.Targets.{same_members}
use Rattle.wire_reader.proofs.members.named_members.Goals as goal

pub returns : goal.returns
returns c =
    let d = declared_of c.args.draft.now in
    subst (λ ms. IfOk c.procs_of.result (λ v. numbers_of v.items ≡ ms))
    (c.deref.ensures.value ∙ c.in_ok-numbers.ensures ∙ ap (named_in d) c.as_slice.ensures.keys ∙ same_members d _ _ c.in_ok-kept.ensures)
    c.procs_of.ensures

use Rattle.std.proofs.Common.{◌≡◌, ◌∙◌, None, Some, length}
use Rattle.std.specs.Prelude.{position}
use Rattle.std.specs.Str.{bytes_eq}
use Rattle.wire_pattern_script.specs.FirstPass.{RoleLines}
use Rattle.wire_pattern_script.specs.Drafted.{role_of}
use Rattle.wire_pattern_script.proofs.Mapped.{number_found, number_none}
use Rattle.wire_pattern_script.proofs.numbers.role_number.Goals as goal

pub returns-in-Some : goal.returns-in-Some
returns-in-Some c =
    let at : Some c.in-Some.number ≡ position (λ x. bytes_eq c.args.name.now x.name.now) c.args.draft.now.roles.items = rw c.deref.ensures.value at c.in-Some.ensures in
    number_found role_of (λ (y : RoleLines). y.name) (bytes_eq c.args.name.now) c.args.draft.now.roles.items c.in-Some.number at

pub returns-in-None : goal.returns-in-None
returns-in-None c =
    let at : None ≡ position (λ x. bytes_eq c.args.name.now x.name.now) c.args.draft.now.roles.items = rw c.deref.ensures.value at c.in-None.ensures in
    (let n : c.len.result ≡ length c.args.draft.now.roles.items = cc in n) ∙ number_none role_of (λ (y : RoleLines). y.name) (bytes_eq c.args.name.now) c.args.draft.now.roles.items at

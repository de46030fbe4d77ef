use Rattle.std.proofs.Common.{rules, ◌≡◌, ◌∙◌, count_by}
use Rattle.std.specs.Prelude.{not}
use Rattle.wire_pattern_script.specs.FirstPass.{RoleLines}
use Rattle.wire_pattern_script.specs.Drafted.{role_of}
use Rattle.wire_pattern_script.proofs.Mapped.{count_of}
use Rattle.wire_pattern_script.proofs.first_pass.group_count.Goals as goal

pub returns : goal.returns
returns c =
    let direct : c.count.result ≡ count_by (λ r. not r.single) c.args.draft.now.roles.items = search rules in
    direct ∙ count_of role_of (λ (r : RoleLines). not r.single) c.args.draft.now.roles.items

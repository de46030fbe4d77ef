use Rattle.std.proofs.Common.{◌∙◌, ◌&&◌, [], ap, sym}
use Rattle.wire_scripts.specs.Placed.{placed}
use Rattle.wire_pattern_stages.specs.Succeeding.{all_succeed}
use Rattle.wire_pattern_commands.proofs.succeeding.instance_succeeds.Goals as goal

pub returns-clause-ok : goal.returns-clause-ok
returns-clause-ok c =
    let s = c.in_ok-text.scripts in
    record {
      scripts = s;
      reads = c.in_ok-text.ensures.reads;
      is = c.in_ok-succeed.ensures.ok ∙ sym (ap (λ b. b && all_succeed (placed s [])) (c.requires.apart s c.in_ok-text.ensures.reads));
    }

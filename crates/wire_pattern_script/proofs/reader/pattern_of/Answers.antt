use Rattle.std.proofs.Common.{ap, length}
use Rattle.wire_pattern_script.specs.Drafted.{declared_of}
use Rattle.wire_pattern_script.proofs.Sound.{numbered_sound}
use Rattle.wire_pattern_script.proofs.reader.pattern_of.Goals as goal

pub new-requires : goal.new-requires
new-requires c =
    numbered_sound (declared_of c.args.draft) c.in_ok-jobs.jobs.items c.in_ok-jobs.roles.items (length c.deref.result.now) c.requires c.in_ok-jobs.ensures.jobs c.in_ok-jobs.ensures.roles
    (ap length c.deref.ensures.value) (rw c.deref-2.ensures.value at c.in-None.ensures)

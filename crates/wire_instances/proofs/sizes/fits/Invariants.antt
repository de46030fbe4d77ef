use Rattle.std.proofs.Common.{◌≡◌, map, drop}
use Rattle.wire_pattern.specs.Views.{role_by}
use Rattle.wire_instances.specs.Asked as spec
use Rattle.wire_instances.specs.Asked.{asked_by}
use Rattle.wire_instances.proofs.sizes.fits.Given as goal

abbrev pub invariant-loop-role : goal.invariant-loop-role
invariant-loop-role l = spec.fits (map role_by (drop l.role-index l.roles)) (asked_by l.asked) ≡ spec.fits (map role_by l.roles) (asked_by l.asked)

use Rattle.std.proofs.Common.{Ok, subst}
use Rattle.wire_reader.specs.declared.Size.TheVariants.{OfVersion}
use Rattle.wire_reader.specs.Reads.{Reads}
use Rattle.wire_pattern.specs.Instances.{instance_text}
use Rattle.wire_cutoff.specs.Views.{selection_by}
use Rattle.wire_pattern_waits.proofs.Told.{cast_is}
use Rattle.wire_pattern_commands.specs.Succeeding.{IsCastTold}
use Rattle.wire_pattern_commands.proofs.succeeding.selection_succeeds.Goals as goal

pub instance_succeeds-requires-clause-apart : goal.instance_succeeds-requires-clause-apart
instance_succeeds-requires-clause-apart c = λ s reads.
    c.requires.apart s (subst (λ cast. Reads OfVersion (instance_text c.args.pattern.now cast) (Ok s))
    (cast_is c.args.pattern.now (selection_by c.args.selection.now) c.in_ok-cast.cast c.in_ok-cast.ensures.few c.in_ok-cast.ensures.of c.in_ok-cast.ensures.alone) reads)

pub returns-clause-ok : goal.returns-clause-ok
returns-clause-ok c =
    subst (λ cast. IsCastTold c.args.pattern.now cast c.in_ok-succeeds.succeeds)
    (cast_is c.args.pattern.now (selection_by c.args.selection.now) c.in_ok-cast.cast c.in_ok-cast.ensures.few c.in_ok-cast.ensures.of c.in_ok-cast.ensures.alone)
    c.in_ok-succeeds.ensures.ok

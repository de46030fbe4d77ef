-- The instance of a selection keeps stages, as its text reads.
use Rattle.std.specs.Prelude.{Ok}
use Rattle.wire_scripts.specs.Scripts.{Scripts}
use Rattle.wire_scripts.specs.Planned.{plan_of}
use Rattle.wire_reader.specs.declared.Size.TheVariants.{OfVersion}
use Rattle.wire_reader.specs.Reads.{Reads}
use Rattle.wire_pattern.specs.Pattern.{Pattern}
use Rattle.wire_pattern.specs.Planned.{pattern_of}
use Rattle.wire_pattern.specs.Instances.{cast_of, instance_text}
use Rattle.wire_size_laws.specs.Stages.{Stages}
use Rattle.wire_cutoff.specs.Selections.{Selection}
use Rattle.wire_pattern_waits.specs.Waits.{alone}
use Rattle.wire_reply_laws.specs.Kept.{KeepsStages}

abbrev pub SelectionKeeps : Pattern → Stages → Selection → Type 0
SelectionKeeps p stages selection = (scripts : Scripts) → Reads OfVersion (instance_text p (alone p selection)) (Ok scripts)
    → KeepsStages stages (pattern_of p) (cast_of (alone p selection)) (plan_of scripts)

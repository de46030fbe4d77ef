-- A sound pattern keeps the restrictions that the laws of wire_runs want.
use Rattle.wire_runs.specs.Patterns.{IsLawful}
use Rattle.wire_pattern.specs.Pattern.{Pattern}
use Rattle.wire_pattern.specs.Planned.{pattern_of}
use Rattle.wire_pattern.specs.Lawful.{IsSoundPattern}

abbrev pub SoundIsLawful : Type 0
SoundIsLawful = (p : Pattern) → IsSoundPattern p → IsLawful (pattern_of p)

-- What is found of larger instances: for private contracts alone.
use Rattle.std.specs.Prelude.{◌≡◌, ◌≢◌, List, []}
use Rattle.wire_pattern.specs.Pattern.{Pattern}
use Rattle.wire_size_laws.specs.Stages.{Stages}
use Rattle.wire_reply_laws.specs.Promised.{AllStaged}
use Rattle.wire_pattern_waits.specs.declared.lines.CallLine.{CallLine}
use Rattle.wire_pattern_later.specs.Later.{AreLater, IsNoneLater}
use Rattle.wire_pattern_commands.specs.declared.beyond.Beyond.{Beyond}
use Rattle.wire_pattern_commands.specs.declared.beyond.Beyond.TheVariants.{Unsaid, Never, First, Unknown}

-- some call waits in the instances that are judged; or none does, and one of three: these keep stages; with so many processes
-- of each group some call waits first; or none waits as far as it looks
abbrev pub IsFoundBeyond : Pattern → List CallLine → Beyond → Type 0
IsFoundBeyond p lines Unsaid = lines ≢ []
IsFoundBeyond p lines Never = (lines ≡ []) × ((stages : Stages) × AllStaged p stages)
IsFoundBeyond p lines (First later) = (lines ≡ []) × AreLater p later.ranks later.lines.items
IsFoundBeyond p lines Unknown = (lines ≡ []) × IsNoneLater p

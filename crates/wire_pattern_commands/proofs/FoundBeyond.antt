-- From what is found of larger instances to what is so.
use Rattle.std.proofs.Common.{◌≡◌, ◌<◌, ◌^◌, List, []}
use Rattle.wire_pattern.specs.Pattern.{Pattern}
use Rattle.wire_pattern.specs.Lawful.{IsSoundPattern}
use Rattle.wire_cutoff_laws.specs.Sizes.{total_of}
use Rattle.wire_cutoff_laws.specs.Promised.{IsSettledForAll}
use Rattle.wire_cutoff.specs.Selections.{most_sizes}
use Rattle.wire_reply_laws.specs.Promised.{KeepsPromise, AllAnswered, TextsAnswered}
use Rattle.wire_pattern_waits.specs.declared.lines.CallLine.{CallLine}
use Rattle.wire_pattern_waits.specs.Waits.{AllReadAsPlans, AllReplied}
use Rattle.wire_pattern_commands.specs.declared.beyond.Beyond.{Beyond}
use Rattle.wire_pattern_commands.specs.declared.beyond.Beyond.TheVariants.{Unsaid, Never, First, Unknown}
use Rattle.wire_pattern_commands.specs.Beyond.{IsBeyond}
use Rattle.wire_pattern_commands.specs.Found.{IsFoundBeyond}

pub is_beyond : (p : Pattern) (lines : List CallLine) (beyond : Beyond) → IsSoundPattern p → IsSettledForAll p → total_of (most_sizes p.roles) < 2 ^ 31 → AllReadAsPlans p
    → (lines ≡ [] → AllReplied p) → AllAnswered → TextsAnswered → IsFoundBeyond p lines beyond → IsBeyond p lines beyond
is_beyond p lines Unsaid sound settled few read replied answered texts found = found
is_beyond p lines Never sound settled few read replied answered texts found =
    let judged : KeepsPromise p found.1.0 =
    record { sound = sound; settled = settled; few = few; read = read; replied = replied found.0; staged = found.1.1 } in
    (found.0, (answered p found.1.0 judged, texts p found.1.0 judged))
is_beyond p lines (First later) sound settled few read replied answered texts found = found
is_beyond p lines Unknown sound settled few read replied answered texts found = (found.0, (replied found.0, found.1))

-- What is noted of one instance more are the lines at which its processes wait.
use Rattle.std.proofs.Common.{◌≡◌, ℕ, ◌||◌, List, Bool, Result, Ok, Err}
use Rattle.std.specs.Prelude.{OnOk}
use Rattle.wire_types.specs.declared.CallEnd.{CallEnd}
use Rattle.wire_pattern.specs.Pattern.{Pattern}
use Rattle.wire_pattern.specs.Instances.{Cast, cast_of}
use Rattle.wire_pattern_waits.specs.declared.stops.Stop.{Stop}
use Rattle.wire_pattern_waits.specs.LineSets.{has_line}
use Rattle.wire_pattern_waits.specs.Stops.{is_noted, stops_from, StuckAt}
use Rattle.wire_pattern_waits.specs.Noting.{AreNotedToo}
use Rattle.wire_pattern_waits.proofs.Noted.{stops_told}
use Rattle.wire_pattern_waits.proofs.Judged.{told_more}

pub noted_too : {U E : Type 0} (p : Pattern) (cast : Cast) (r : Result U E) (stops : List Stop) (rows : List (List CallEnd)) (old new : List (List Bool))
    → stops ≡ stops_from p cast 0 (cast_of cast).roles rows
    → OnOk r ((role line : ℕ) → has_line new role line ≡ (has_line old role line || is_noted stops role line)) → OnOk r (AreNotedToo p cast rows old new)
noted_too p cast (Ok u) stops rows old new are more = λ scripts by role line.
    told_more (has_line old role line) (is_noted stops role line) (has_line new role line) (StuckAt p cast scripts role line) (more role line)
    (stops_told p cast scripts stops rows are by role line)
noted_too p cast (Err e) stops rows old new are more = tt

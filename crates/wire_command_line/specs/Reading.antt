-- What reading the command of a command line gives.
use Rattle.std.specs.Prelude.{◌≡◌, false, List, Option, None, Result, Ok, Err, codes}
use Rattle.clap.specs.Words.{Row, Text}
use Rattle.wire_command_line.specs.CommandLine.{workers_word}
use Rattle.wire_command_line.specs.Requests.{IsBeside, IsCommand, IsMisfit, IsRequest, IsRequestBy, LacksAnywhere, LacksFit}
use Rattle.wire_command_line.specs.Requests.{LacksPattern, LacksPortable, LacksSpread, LacksWorkers, SameIsAlone}
use Rattle.wire_command_line.specs.Requests.{is_command, is_fitting, has_all_words}
use Rattle.wire_command_line.specs.Spreads.{spread_said}
use Rattle.wire_command_line.specs.Workers.{workers_said}
use Rattle.wire_command_line.specs.declared.reading.Lack.{Lack}
use Rattle.wire_command_line.specs.declared.reading.Lack.TheVariants.{Word, Workers, Anywhere, Pattern, Portable, Spread, Fit}
use Rattle.wire_command_line.specs.declared.request.Command.{Command}
use Rattle.wire_command_line.specs.declared.request.Request.{Request}

-- of the command of this name with these words: which it is, or what it lacks
abbrev pub IsReadAs : Text → List Row → Result Command Lack → Type 0
IsReadAs name rows (Ok command) = IsCommand name rows command
IsReadAs name rows (Err Word) = has_all_words name rows ≡ false
IsReadAs name rows (Err Workers) = (name ≡ codes "replay") × (workers_said (workers_word rows) ≡ None)
IsReadAs name rows (Err Anywhere) = (name ≡ codes "check") × SameIsAlone rows
IsReadAs name rows (Err Pattern) = (name ≡ codes "check") × IsMisfit rows
IsReadAs name rows (Err Portable) = (name ≡ codes "check") × IsBeside rows
IsReadAs name rows (Err Spread) = (name ≡ codes "expand") × (spread_said rows ≡ None)
IsReadAs name rows (Err Fit) = (name ≡ codes "witness") × (is_fitting rows ≡ false)

-- what it requests, or what it lacks
abbrev pub IsReadIn : Text → List Row → Result Request Lack → Type 0
IsReadIn name rows (Ok request) = IsRequest name rows request
IsReadIn name rows (Err lack) = IsReadAs name rows (Err lack)

-- of the command that the words name
abbrev pub IsReadBy : Option (Text × List Row) → Result Request Lack → Type 0
IsReadBy command (Ok request) = IsRequestBy command request
IsReadBy command (Err Word) = is_command command ≡ false
IsReadBy command (Err Workers) = LacksWorkers command
IsReadBy command (Err Anywhere) = LacksAnywhere command
IsReadBy command (Err Pattern) = LacksPattern command
IsReadBy command (Err Portable) = LacksPortable command
IsReadBy command (Err Spread) = LacksSpread command
IsReadBy command (Err Fit) = LacksFit command

-- What a command line requests: a command with all that it needs.
use Rattle.std.specs.Prelude.{◌≡◌, ◌⊎◌, ◌&&◌, ◌||◌, Bool, true, false, not, if◌then◌else◌, List, [], ◌∷◌, Option, Some}
use Rattle.std.specs.Prelude.{None, is_some, codes}
use Rattle.std.specs.Option.{option_map_or}
use Rattle.std.specs.List.{list_any}
use Rattle.std.specs.Str.{bytes_eq}
use Rattle.clap.specs.Words.{Row, Text, HasKind, kind_of, fault_of, first_of, subcommand_of}
use Rattle.wire_types.specs.declared.OutputFormat.{OutputFormat}
use Rattle.wire_types.specs.declared.OutputFormat.TheVariants.{Lines, Places, Json, PlacedJson}
use Rattle.wire_types.specs.declared.Orders.{Orders}
use Rattle.wire_types.specs.declared.Orders.TheVariants.{Both, OfFirst, OfSecond}
use Rattle.wire_reader.specs.declared.Size.{Size}
use Rattle.wire_reader.specs.declared.Size.TheVariants.{Large, OfVersion}
use Rattle.clap.specs.declared.error.kind.ErrorKind.TheVariants.{MissingRequiredArgument}
use Rattle.wire_command_line.specs.CommandLine.{program_line, has_needed, is_set, most_word, text_of, workers_word}
use Rattle.wire_command_line.specs.Spreads.{spread_by, spread_said}
use Rattle.wire_command_line.specs.Workers.{most_said, workers_said}
use Rattle.wire_command_line.specs.declared.request.CallPair.{CallPair}
use Rattle.wire_command_line.specs.declared.request.CallWords.{CallWords}
use Rattle.wire_command_line.specs.declared.request.Command.{Command}
use Rattle.wire_command_line.specs.declared.request.Command.TheVariants.{Check, Replay, Follow, Why, Migrate, Place, Expand}
use Rattle.wire_command_line.specs.declared.request.Command.TheVariants.{Witness, Witnesses}
use Rattle.wire_command_line.specs.declared.request.CheckScope.{CheckScope}
use Rattle.wire_command_line.specs.declared.request.CheckScope.TheVariants.{Written, Anywhere, Same, Portable, PortableAnywhere, Pattern}
use Rattle.wire_command_line.specs.declared.request.PatternOptions.{PatternOptions}
use Rattle.wire_command_line.specs.declared.request.Request.{Request}
use Rattle.wire_command_line.specs.declared.request.Refusal.{Refusal}
use Rattle.wire_command_line.specs.declared.request.Refusal.TheVariants.{Usage, Workers, Same as SameAlone}
use Rattle.wire_command_line.specs.declared.request.Refusal.TheVariants.{Pattern as PatternMisfit, Portable as PortableMisfit}
use Rattle.wire_command_line.specs.declared.request.Refusal.TheVariants.{Spread as NoSpread}
use Rattle.wire_command_line.specs.declared.request.Refusal.TheVariants.{Witness as Misfit}

-- the words of these two names, which are those of a call
pub record NamesCall (proc number : Text) (rows : List Row) (call : CallWords) : Type 0 where
  pub of_proc : Some call.proc.now ≡ first_of proc rows
  pub of_number : Some call.number.now ≡ first_of number rows

-- both are given
abbrev pub has_both : Text → Text → List Row → Bool
has_both one other rows = is_some (first_of one rows) && is_some (first_of other rows)

-- the form that two flags ask for, with lines of the file and as JSON
abbrev pub form_of : (lines json : Bool) → OutputFormat
form_of false false = Lines
form_of true false = Places
form_of false true = Json
form_of true true = PlacedJson

abbrev pub form_said : List Row → OutputFormat
form_said rows = form_of (is_set (codes "lines") rows) (is_set (codes "json") rows)

-- the placements that two flags ask for, nothing where the second is given alone
abbrev pub judged_of : (anywhere same : Bool) → Option CheckScope
judged_of false false = Some Written
judged_of true false = Some Anywhere
judged_of true true = Some Same
judged_of false true = None

-- whether one of these flags is given: then an order is not written alone
abbrev pub has_form : List Row → Bool
has_form rows = is_set (codes "lines") rows || is_set (codes "json") rows

-- whether a flag is given that doesn't go with `--pattern`
abbrev pub has_other : List Row → Bool
has_other rows = is_set (codes "anywhere") rows || is_set (codes "same") rows || is_set (codes "lines") rows || is_set (codes "large") rows

-- whether a flag is given that needs `--pattern`
abbrev pub needs_pattern : List Row → Bool
needs_pattern rows = is_set (codes "answers") rows || is_set (codes "complete") rows

-- whether the flags go with `--pattern`, or without it
abbrev pub fits_pattern : List Row → Bool
fits_pattern rows = if is_set (codes "pattern") rows then not (has_other rows) else not (needs_pattern rows)

-- what `check` is to tell of a pattern besides its verdict
abbrev pub told_said : List Row → PatternOptions
told_said rows = record { answers = is_set (codes "answers") rows; complete = is_set (codes "complete") rows }

-- whether a flag is given that doesn't go with `--portable`
abbrev pub has_beside : List Row → Bool
has_beside rows = is_set (codes "same") rows || is_set (codes "pattern") rows || needs_pattern rows

-- the placements on which libraries are judged, by whether all are asked for
abbrev pub portable_of : (anywhere : Bool) → CheckScope
portable_of false = Portable
portable_of true = PortableAnywhere

-- what `check` is to judge without `--portable`: a pattern, or a plan on the placements that two flags ask for; nothing
-- where flags don't go together
abbrev pub judged_alone : List Row → Option CheckScope
judged_alone rows =
    if not (fits_pattern rows) then None
    else (if is_set (codes "pattern") rows then Some (Pattern (told_said rows))
    else judged_of (is_set (codes "anywhere") rows) (is_set (codes "same") rows))

-- what `check` is to judge; nothing where flags don't go together
abbrev pub judged_said : List Row → Option CheckScope
judged_said rows =
    if not (is_set (codes "portable") rows) then judged_alone rows
    else (if has_beside rows then None else Some (portable_of (is_set (codes "anywhere") rows)))

-- the limits that a flag asks for
abbrev pub size_of : Bool → Size
size_of large = if large then Large else OfVersion

-- which orders two flags ask for, nothing where both are given, or where one is given and the answer is to have a form
abbrev pub orders_of : Bool → Bool → Bool → Option Orders
orders_of _ false false = Some Both
orders_of formed true false = if formed then None else Some OfFirst
orders_of formed false true = if formed then None else Some OfSecond
orders_of _ true true = None

abbrev pub orders_said : List Row → Option Orders
orders_said rows = orders_of (has_form rows) (is_set (codes "first") rows) (is_set (codes "second") rows)

-- the words that name two calls
pub record NamesCalls (rows : List Row) (calls : CallPair) : Type 0 where
  pub first : NamesCall (codes "P") (codes "N") rows calls.first
  pub second : NamesCall (codes "Q") (codes "M") rows calls.second

-- all four are given
abbrev pub has_calls : List Row → Bool
has_calls rows = has_both (codes "P") (codes "N") rows && has_both (codes "Q") (codes "M") rows

-- this is the command of this name, with the words that its matches have: each word is the one that was given by its
-- name
abbrev pub IsCommand : Text → List Row → Command → Type 0
IsCommand name rows (Check judged) = (name ≡ codes "check") × (Some judged ≡ judged_said rows)
IsCommand name rows (Replay asked) =
    (name ≡ codes "replay") × (Some asked.workers ≡ workers_said (workers_word rows))
    × (asked.anyway ≡ is_set (codes "anyway") rows) × (asked.complete ≡ is_set (codes "complete") rows)
IsCommand name rows (Follow order) = (name ≡ codes "follow") × (Some order.now ≡ first_of (codes "ORDER") rows)
IsCommand name rows (Why calls) = (name ≡ codes "why") × NamesCalls rows calls
IsCommand name rows Migrate = name ≡ codes "migrate"
IsCommand name rows (Place ranks) = (name ≡ codes "place") × (Some ranks.now ≡ first_of (codes "RANKS") rows)
IsCommand name rows (Expand asked) =
    (name ≡ codes "expand") × (text_of asked.ranks ≡ first_of (codes "ranks") rows) × (Some (spread_by asked.spread) ≡ spread_said rows)
IsCommand name rows (Witness asked) =
    (name ≡ codes "witness") × NamesCalls rows asked.calls × (Some asked.orders ≡ orders_said rows) × (first_of (codes "most") rows ≡ None)
IsCommand name rows (Witnesses most) =
    (name ≡ codes "witness") × (first_of (codes "N") rows ≡ None) × (orders_said rows ≡ Some Both) × (Some most ≡ most_said (most_word rows))

-- the word that names the plan of a command: of `witness` without calls it is the first
abbrev pub plan_said : Command → List Row → Option Text
plan_said (Witnesses most) rows = first_of (codes "P") rows
plan_said _ rows = first_of (codes "FILE") rows

-- the command of this name requests this
pub record IsRequest (name : Text) (rows : List Row) (request : Request) : Type 0 where
  pub command : IsCommand name rows request.command
  pub plan : text_of request.plan ≡ plan_said request.command rows
  pub form : request.form ≡ form_said rows
  pub size : request.size ≡ size_of (is_set (codes "large") rows)
  pub explain : request.explain ≡ is_set (codes "explain") rows

-- the command that the words name requests this
pub record IsRequestBy (command : Option (Text × List Row)) (request : Request) : Type 0 where
  pub name : Text
  pub rows : List Row
  pub named : command ≡ Some (name, rows)
  pub says : IsRequest name rows request

-- the name is that of one of the program's commands, and the words that it needs are given
abbrev pub has_all_words : Text → List Row → Bool
has_all_words name rows =
    list_any (bytes_eq name)
    (codes "check" ∷ codes "replay" ∷ codes "follow" ∷ codes "why" ∷ codes "migrate" ∷ codes "place" ∷ codes "witness" ∷ codes "expand" ∷ [])
    && has_needed name rows

-- the words of `witness` are those of two calls; one order alone has no form, and no `--most` goes with them
abbrev pub is_of_pair : List Row → Bool
is_of_pair rows =
    has_calls rows && is_some (orders_said rows) && not (is_some (first_of (codes "most") rows))

-- the words of `witness` name no call: no order is asked for, and `--most` says a number
abbrev pub is_of_all : List Row → Bool
is_of_all rows = not (is_set (codes "first") rows) && not (is_set (codes "second") rows) && is_some (most_said (most_word rows))

-- the words of `witness` go together: those of two calls, or of none
abbrev pub is_fitting : List Row → Bool
is_fitting rows = if is_some (first_of (codes "N") rows) then is_of_pair rows else is_of_all rows

-- the words name a command with all that it needs
abbrev pub is_command : Option (Text × List Row) → Bool
is_command command = option_map_or (λ c. has_all_words c.0 c.1) command false

-- it is `replay`, and the word of `--workers` is no number
pub record LacksWorkers (command : Option (Text × List Row)) : Type 0 where
  pub rows : List Row
  pub named : command ≡ Some (codes "replay", rows)
  pub none : workers_said (workers_word rows) ≡ None

-- `--same` is given, and none of `--portable`, `--anywhere` and `--pattern`, nor a flag that needs the last
abbrev pub SameIsAlone : List Row → Type 0
SameIsAlone rows =
    (is_set (codes "portable") rows ≡ false) × (is_set (codes "same") rows ≡ true) × (is_set (codes "anywhere") rows ≡ false) × (is_set (codes "pattern") rows ≡ false)
    × (needs_pattern rows ≡ false)

-- it is `check`, with `--same` and without `--anywhere`
pub record LacksAnywhere (command : Option (Text × List Row)) : Type 0 where
  pub rows : List Row
  pub named : command ≡ Some (codes "check", rows)
  pub none : SameIsAlone rows

-- the flags don't go with `--pattern`, or not without it, and `--portable` isn't given
abbrev pub IsMisfit : List Row → Type 0
IsMisfit rows = (is_set (codes "portable") rows ≡ false) × (fits_pattern rows ≡ false)

-- it is `check`, and its flags don't go with `--pattern`, or not without it
pub record LacksPattern (command : Option (Text × List Row)) : Type 0 where
  pub rows : List Row
  pub named : command ≡ Some (codes "check", rows)
  pub none : IsMisfit rows

-- `--portable` is given, and a flag that doesn't go with it
abbrev pub IsBeside : List Row → Type 0
IsBeside rows = (is_set (codes "portable") rows ≡ true) × (has_beside rows ≡ true)

-- it is `check`, and its flags don't go with `--portable`
pub record LacksPortable (command : Option (Text × List Row)) : Type 0 where
  pub rows : List Row
  pub named : command ≡ Some (codes "check", rows)
  pub beside : IsBeside rows

-- it is `expand`, and its options don't say how ranks are put on nodes
pub record LacksSpread (command : Option (Text × List Row)) : Type 0 where
  pub rows : List Row
  pub named : command ≡ Some (codes "expand", rows)
  pub none : spread_said rows ≡ None

-- it is `witness`, and its words and options don't go together
pub record LacksFit (command : Option (Text × List Row)) : Type 0 where
  pub rows : List Row
  pub named : command ≡ Some (codes "witness", rows)
  pub none : is_fitting rows ≡ false

-- what the words of a command line request: `clap` finds no fault in them, and the command that they name requests it
abbrev pub IsRequestOf : List Text → Request → Type 0
IsRequestOf words request = (fault_of program_line words ≡ []) × IsRequestBy (subcommand_of program_line words) request

-- why they request nothing: for a fault that `clap` finds, for want of memory or of a word, for the word of
-- `--workers`, for `--same` alone, for flags that don't go with `--portable`, or that don't go with `--pattern` or need
-- it, for options that don't say how ranks are put on nodes, or for what doesn't go together
abbrev pub IsRefusalOf : List Text → Refusal → Type 0
IsRefusalOf words (Usage e) =
    HasKind (fault_of program_line words) e
    ⊎ ((fault_of program_line words ≡ []) × (kind_of e ≡ MissingRequiredArgument) × (is_command (subcommand_of program_line words) ≡ false))
IsRefusalOf words Workers = (fault_of program_line words ≡ []) × LacksWorkers (subcommand_of program_line words)
IsRefusalOf words SameAlone = (fault_of program_line words ≡ []) × LacksAnywhere (subcommand_of program_line words)
IsRefusalOf words PatternMisfit = (fault_of program_line words ≡ []) × LacksPattern (subcommand_of program_line words)
IsRefusalOf words PortableMisfit = (fault_of program_line words ≡ []) × LacksPortable (subcommand_of program_line words)
IsRefusalOf words NoSpread = (fault_of program_line words ≡ []) × LacksSpread (subcommand_of program_line words)
IsRefusalOf words Misfit = (fault_of program_line words ≡ []) × LacksFit (subcommand_of program_line words)

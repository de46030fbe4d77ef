-- The command line of `wire_up` as `clap` reads it, and what the words of one ask for.
use Rattle.std.specs.Prelude.{◌≡◌, ◌⊎◌, Bool, true, false, List, [], ◌∷◌, map, flat_map, option_to_list, unwrap_or}
use Rattle.std.specs.Prelude.{Option, Some, is_some, option_map, codes, if◌then◌else◌}
use Rattle.std.specs.Borrow.{Bor}
use Rattle.std.specs.List.{list_all}
use Rattle.std.specs.Option.{option_map_or}
use Rattle.std.specs.Str.{bytes_eq}
use Rattle.clap.specs.Words.{App, Rule, Row, Text, HasKind, app_of, kind_of, fault_of, first_of, new_app, new_rule}
use Rattle.clap.specs.Words.{with_rule, with_subcommand, subcommand_of}
use Rattle.clap.specs.declared.builder.command.Command.{Command}
use Rattle.clap.specs.declared.builder.command.Command.TheViews.{out-Command as fields_of}
use Rattle.clap.specs.declared.builder.action.ArgAction.TheVariants.{SetTrue}
use Rattle.clap.specs.declared.error.Error.{Error}
use Rattle.clap.specs.declared.error.kind.ErrorKind.TheVariants.{MissingRequiredArgument}
use Rattle.wire_command_line.specs.declared.wanted.Asked.{Asked}

-- the text of a word that may be left out
abbrev pub text_of : Option (Bor Text) → Option Text
text_of word = option_map (λ w. w.now) word

-- a word of a command's own, which may be left out or not
abbrev pub optional_word : Text → Rule
optional_word name = new_rule name

abbrev pub needed_word : Text → Rule
needed_word name = record (new_rule name) { required = true }

-- an option with a word of its own, and one without
abbrev pub option_with_word : Text → Rule
option_with_word name = record (new_rule name) { long = Some name; value_names = 1 }

abbrev pub flag : Text → Rule
flag name = record (new_rule name) { long = Some name; action = Some SetTrue }

-- the command is this one, and no argument of it is global
pub record IsLine (app : App) (command : Command) : Type 0 where
  pub is : app_of command ≡ app
  pub local : (fields_of command).has_globals ≡ false

-- the last words of each command: whether a fault is explained, and the plan
abbrev pub with_plan : App → App
with_plan line = with_rule (with_rule line (flag (codes "explain"))) (optional_word (codes "FILE"))

-- the forms of an answer
abbrev pub with_forms : App → App
with_forms line = with_rule (with_rule line (flag (codes "lines"))) (flag (codes "json"))

-- a large plan, and the last words
abbrev pub with_large : App → App
with_large line = with_plan (with_rule line (flag (codes "large")))

-- the commands
abbrev pub check_line : App
check_line =
    with_large (with_forms (with_rule (with_rule (with_rule (with_rule (with_rule (with_rule (new_app (codes "check"))
    (flag (codes "anywhere"))) (flag (codes "same"))) (flag (codes "portable"))) (flag (codes "pattern"))) (flag (codes "answers")))
    (flag (codes "complete"))))

abbrev pub replay_line : App
replay_line =
    with_large (with_rule (with_rule (with_rule (with_rule (new_app (codes "replay"))
    (option_with_word (codes "workers"))) (flag (codes "json"))) (flag (codes "anyway"))) (flag (codes "complete")))

abbrev pub follow_line : App
follow_line = with_large (with_rule (with_rule (new_app (codes "follow")) (needed_word (codes "ORDER"))) (flag (codes "json")))

abbrev pub why_line : App
why_line =
    with_large (with_forms (with_rule (with_rule (with_rule (with_rule (new_app (codes "why"))
    (needed_word (codes "P"))) (needed_word (codes "N"))) (needed_word (codes "Q"))) (needed_word (codes "M"))))

abbrev pub migrate_line : App
migrate_line = with_large (new_app (codes "migrate"))

abbrev pub place_line : App
place_line = with_large (with_rule (new_app (codes "place")) (needed_word (codes "RANKS")))

abbrev pub witness_line : App
witness_line =
    with_plan (with_rule (with_rule (with_rule (with_rule (with_forms (with_rule (with_rule (with_rule (new_app (codes "witness"))
    (flag (codes "first"))) (flag (codes "second"))) (option_with_word (codes "most"))))
    (optional_word (codes "P"))) (optional_word (codes "N"))) (optional_word (codes "Q"))) (optional_word (codes "M")))

-- it reads a pattern
abbrev pub expand_line : App
expand_line =
    with_large (with_rule (with_rule (with_rule (with_rule (new_app (codes "expand"))
    (option_with_word (codes "ranks"))) (option_with_word (codes "per-node"))) (option_with_word (codes "by")))
    (option_with_word (codes "nodes")))

-- the program: it needs one of the eight, and has a version
abbrev pub program_alone : App
program_alone = record (new_app (codes "wire_up")) {
  top = record (new_app (codes "wire_up")).top { has_version = true; subcommand_required = true };
}

abbrev pub program_line : App
program_line =
    with_subcommand (with_subcommand (with_subcommand (with_subcommand (with_subcommand (with_subcommand (with_subcommand
    (with_subcommand program_alone check_line.top) replay_line.top) follow_line.top) why_line.top) migrate_line.top) place_line.top)
    witness_line.top) expand_line.top

-- the words of a command's own that were given, in the order in which they stand
abbrev pub words_given : List Row → List Text
words_given rows = flat_map (λ name. option_to_list (first_of name rows))
    (codes "ORDER" ∷ codes "RANKS" ∷ codes "P" ∷ codes "N" ∷ codes "Q" ∷ codes "M" ∷ codes "FILE" ∷ [])

-- the words without which a command can't be
abbrev pub needed_by : Text → List Text
needed_by command =
    if bytes_eq command (codes "follow") then codes "ORDER" ∷ []
    else if bytes_eq command (codes "place") then codes "RANKS" ∷ []
    else (if bytes_eq command (codes "why") then codes "P" ∷ codes "N" ∷ codes "Q" ∷ codes "M" ∷ [] else [])

-- they are all given
abbrev pub has_needed : Text → List Row → Bool
has_needed command rows = list_all (λ name. is_some (first_of name rows)) (needed_by command)

-- a flag was given
abbrev pub is_set : Text → List Row → Bool
is_set name rows = option_map_or (λ word. bytes_eq word (codes "true")) (first_of name rows) false

-- the word of `--workers`, `1` where none was given
abbrev pub workers_word : List Row → Text
workers_word rows = unwrap_or (first_of (codes "workers") rows) (codes "1")

-- the word of `--most`, `1000` where none was given
abbrev pub most_word : List Row → Text
most_word rows = unwrap_or (first_of (codes "most") rows) (codes "1000")

-- what the matches of a command say
pub record SaidBy (name : Text) (rows : List Row) (asked : Asked) : Type 0 where
  pub command : asked.command.now ≡ name
  pub words : map (λ w. w.now) asked.words.items ≡ words_given rows
  pub workers : asked.workers.now ≡ workers_word rows
  pub most : asked.most.now ≡ most_word rows
  pub ranks : text_of asked.ranks ≡ first_of (codes "ranks") rows
  pub per_node : text_of asked.per_node ≡ first_of (codes "per-node") rows
  pub by : text_of asked.by ≡ first_of (codes "by") rows
  pub nodes : text_of asked.nodes ≡ first_of (codes "nodes") rows
  pub anywhere : asked.anywhere ≡ is_set (codes "anywhere") rows
  pub same : asked.same ≡ is_set (codes "same") rows
  pub portable : asked.portable ≡ is_set (codes "portable") rows
  pub pattern : asked.pattern ≡ is_set (codes "pattern") rows
  pub answers : asked.answers ≡ is_set (codes "answers") rows
  pub lines : asked.lines ≡ is_set (codes "lines") rows
  pub json : asked.json ≡ is_set (codes "json") rows
  pub anyway : asked.anyway ≡ is_set (codes "anyway") rows
  pub complete : asked.complete ≡ is_set (codes "complete") rows
  pub first : asked.first ≡ is_set (codes "first") rows
  pub second : asked.second ≡ is_set (codes "second") rows
  pub large : asked.large ≡ is_set (codes "large") rows
  pub explain : asked.explain ≡ is_set (codes "explain") rows

-- what the words of a command line ask for: `clap` finds no fault in them, and it is what its matches for them say,
-- each needed word among them
pub record AsksFor (words : List Text) (asked : Asked) : Type 0 where
  pub lawful : fault_of program_line words ≡ []
  pub command : Text
  pub rows : List Row
  pub matches : subcommand_of program_line words ≡ Some (command, rows)
  pub needed : has_needed command rows ≡ true
  pub says : SaidBy command rows asked

-- they are those of a command with all that it needs
abbrev pub has_all_needed : Option (Text × List Row) → Bool
has_all_needed met = option_map_or (λ m. has_needed m.0 m.1) met false

-- why the words of a command line are refused: for a fault that `clap` finds, for want of memory, or for want of a word
abbrev pub RefusedFor : List Text → Error → Type 0
RefusedFor words e =
    HasKind (fault_of program_line words) e
    ⊎ ((fault_of program_line words ≡ []) × (kind_of e ≡ MissingRequiredArgument) × (has_all_needed (subcommand_of program_line words) ≡ false))

-- What `witness` writes of two calls: two runs that show their race, or that none is shown or reported.
use Rattle.std.specs.Prelude.{◌≡◌, ℕ, true, false, List, ◌++◌, Ok}
use Rattle.std.specs.List.{flat_map}
use Rattle.wire_types.specs.declared.CallAt.{CallAt}
use Rattle.wire_types.specs.declared.OutputFormat.{OutputFormat}
use Rattle.wire_types.specs.declared.OutputFormat.TheVariants.{Lines, Places, Json, PlacedJson}
use Rattle.wire_types.specs.declared.Orders.{Orders}
use Rattle.wire_types.specs.declared.Orders.TheVariants.{Both, OfFirst, OfSecond}
use Rattle.wire_types.specs.Forms.{is_json}
use Rattle.wire_scripts.specs.Scripts.{Scripts, numbers_of}
use Rattle.wire_json.specs.Witnesses as witnesses
use Rattle.wire_report.specs.GroupedText.{note_line}
use Rattle.wire_report.specs.Place.{place_text}
use Rattle.wire_report.specs.Views.{shown_line, both_ends, both_orders, unshown_form}
use Rattle.wire_report.specs.Unsettled.{step_line}
use Rattle.wire_witness.specs.declared.pair.PairSearch.{PairSearch}
use Rattle.wire_witness.specs.declared.pair.PairSearch.TheVariants.{NoRace, NotShown, Shown}
use Rattle.wire_witness.specs.declared.witness.Witness.{Witness}
use Rattle.wire_witness.specs.Searches.{IsPairSearch, shown_by_pair}
use Rattle.wire_command.specs.declared.ended.Ended.{Ended}
use Rattle.wire_commands.specs.CallsJson.{json_witness}
use Rattle.wire_command.specs.Ending.{ended_of}
use Rattle.wire_commands.specs.Why.{QuestionNames}

-- in lines: the call that ends differently, how it ends in each run, and the orders of both
abbrev pub lines_text : Scripts → Witness → List ℕ
lines_text scripts witness =
    shown_line scripts witness.call ++ both_ends scripts witness.first_end witness.second_end
    ++ both_orders scripts (numbers_of witness.first.items) (numbers_of witness.second.items)

-- the place and the line of the call that ends differently, and then of the other
abbrev pub call_lines : List ℕ → List (List ℕ) → Scripts → CallAt → CallAt → List ℕ
call_lines name rows scripts call other = place_text name rows call ++ shown_line scripts call ++ note_line name scripts rows other

-- in lines with places: both calls first
abbrev pub placed_lines : List ℕ → List (List ℕ) → Scripts → Witness → List ℕ
placed_lines name rows scripts witness =
    call_lines name rows scripts witness.call witness.other ++ both_ends scripts witness.first_end witness.second_end
    ++ both_orders scripts (numbers_of witness.first.items) (numbers_of witness.second.items)

-- as JSON
abbrev pub whole_json : Scripts → Witness → List ℕ
whole_json scripts witness =
    witnesses.json_witness scripts witness.call (witnesses.json_run scripts witness.first_end (numbers_of witness.first.items))
    (witnesses.json_run scripts witness.second_end (numbers_of witness.second.items))

-- the lines of these steps: an order that `follow` takes
abbrev pub steps_text : Scripts → List ℕ → List ℕ
steps_text scripts steps = flat_map (step_line scripts) steps

-- all of a witness in this form
abbrev pub whole_text : OutputFormat → List ℕ → List (List ℕ) → Scripts → Witness → List ℕ
whole_text Lines name rows scripts witness = lines_text scripts witness
whole_text Places name rows scripts witness = placed_lines name rows scripts witness
whole_text Json name rows scripts witness = whole_json scripts witness
whole_text PlacedJson name rows scripts witness = json_witness rows scripts witness

-- what is written of a witness: all of it, or one of its orders
abbrev pub witness_text : OutputFormat → List ℕ → List (List ℕ) → Orders → Scripts → Witness → List ℕ
witness_text form name rows Both scripts witness = whole_text form name rows scripts witness
witness_text form name rows OfFirst scripts witness = steps_text scripts (numbers_of witness.first.items)
witness_text form name rows OfSecond scripts witness = steps_text scripts (numbers_of witness.second.items)

-- what is written of a search: the witness that was found, or that there is no race, or that none was found
abbrev pub pair_text : OutputFormat → List ℕ → List (List ℕ) → Orders → Scripts → PairSearch → List ℕ
pair_text form name rows orders scripts NoRace = unshown_form (is_json form) false
pair_text form name rows orders scripts NotShown = unshown_form (is_json form) true
pair_text form name rows orders scripts (Shown witness) = witness_text form name rows orders scripts witness

-- the words name two calls of the scripts, and the text tells what a search for a witness of them found. It ends with
-- one finding exactly where that is a witness
pub record ShowsPair (form : OutputFormat) (name : List ℕ) (words : List (List ℕ)) (orders : Orders) (scripts : Scripts)
    (rows : List (List ℕ)) (text : List ℕ) (ended : Ended) : Type 0 where
  pub x : CallAt
  pub y : CallAt
  pub asks : QuestionNames scripts words (Ok (x, y))
  pub search : PairSearch
  pub searched : IsPairSearch scripts x y search
  pub tells : text ≡ pair_text form name rows orders scripts search
  pub ends : ended ≡ ended_of (shown_by_pair search)

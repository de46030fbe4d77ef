-- What `witness` writes of all races of a plan: each race that was tried, and how many there are.
use Rattle.std.specs.Prelude.{◌≡◌, ℕ, List, ◌++◌, map}
use Rattle.std.specs.List.{flat_map}
use Rattle.wire_types.specs.declared.OutputFormat.{OutputFormat}
use Rattle.wire_types.specs.declared.OutputFormat.TheVariants.{Lines, Places, Json, PlacedJson}
use Rattle.wire_scripts.specs.Scripts.{Scripts}
use Rattle.wire_json.specs.Witnesses as witnesses
use Rattle.wire_report.specs.Findings.{finding_words}
use Rattle.wire_report.specs.GroupedText.{second_line}
use Rattle.wire_report.specs.Label.{pair_of}
use Rattle.wire_report.specs.Place.{place_text}
use Rattle.wire_report.specs.Views.{tried_line, counts_line}
use Rattle.wire_witness.specs.declared.all.RaceSearch.{RaceSearch}
use Rattle.wire_witness.specs.declared.tried.TriedRace.{TriedRace}
use Rattle.wire_witness.specs.Searches.{IsRaceSearch, counts_of, shown_by_races}
use Rattle.wire_command.specs.declared.ended.Ended.{Ended}
use Rattle.wire_commands.specs.CallsJson.{json_races}
use Rattle.wire_command.specs.Ending.{ended_of}

-- the line of a race: whether it is shown, and what `check` writes of it
abbrev pub race_line : Scripts → TriedRace → List ℕ
race_line scripts tried = tried_line scripts tried.race tried.shown

-- a line for each race that was tried, and the last line
abbrev pub lines_text : Scripts → RaceSearch → List ℕ
lines_text scripts search = flat_map (race_line scripts) search.tried.items ++ counts_line (counts_of search)

-- that line of a race behind the place of its lower call, and the line of the higher one
abbrev pub placed_race : List ℕ → List (List ℕ) → Scripts → TriedRace → List ℕ
placed_race name rows scripts tried =
    place_text name rows (pair_of tried.race).lower ++ tried_line scripts tried.race tried.shown ++ second_line name scripts rows tried.race

-- the same for each race that was tried, and the last line
abbrev pub located_text : List ℕ → List (List ℕ) → Scripts → RaceSearch → List ℕ
located_text name rows scripts search = flat_map (placed_race name rows scripts) search.tried.items ++ counts_line (counts_of search)

-- the words of what `check` writes of these races
abbrev pub words_of : Scripts → List TriedRace → List (List ℕ)
words_of scripts tried = map (λ one. finding_words scripts one.race) tried

-- as JSON
abbrev pub plain_json : Scripts → RaceSearch → List ℕ
plain_json scripts search =
    witnesses.json_races scripts (words_of scripts search.tried.items) (map (λ one. one.shown) search.tried.items) (counts_of search)

-- what is written of a search in this form
abbrev pub races_form : OutputFormat → List ℕ → List (List ℕ) → Scripts → RaceSearch → List ℕ
races_form Lines name rows scripts search = lines_text scripts search
races_form Places name rows scripts search = located_text name rows scripts search
races_form Json name rows scripts search = plain_json scripts search
races_form PlacedJson name rows scripts search = json_races rows scripts search

-- the first races among the findings were tried, so many at most: each that the text calls shown has a witness, and it
-- ends with as many as are shown
pub record TriesRaces (form : OutputFormat) (name : List ℕ) (most : ℕ) (scripts : Scripts) (rows : List (List ℕ)) (text : List ℕ) (ended : Ended) : Type 0 where
  pub search : RaceSearch
  pub searched : IsRaceSearch scripts most search
  pub tells : text ≡ races_form form name rows scripts search
  pub ends : ended ≡ ended_of (shown_by_races search)

-- The JSON forms of what shows races, as bytes: how two runs differ, and which races were tried.
use Rattle.std.specs.Prelude.{ℕ, Bool, true, false, List, [], ◌∷◌, ◌++◌, Option, Some, None, map, codes, decimal}
use Rattle.wire_types.specs.declared.CallAt.{CallAt}
use Rattle.wire_types.specs.declared.CallEnd.{CallEnd}
use Rattle.wire_scripts.specs.Scripts.{Scripts}
use Rattle.wire_words.specs.Words.{end_word, replied_value, name_of}
use Rattle.wire_json.specs.declared.witnesses.RaceCounts.{RaceCounts}
use Rattle.wire_json.specs.declared.chains.Half.TheVariants.{Whole}
use Rattle.wire_json.specs.Json.{quoted, bracketed, value_member}
use Rattle.wire_json.specs.Chains.{json_step, json_place}

-- a run: the processes of its steps, and how a call ends in it
abbrev pub json_run : Scripts → CallEnd → List ℕ → List ℕ
json_run scripts end order =
    codes "{\"order\":" ++ bracketed (map (λ p. quoted (name_of scripts p)) order) ++ codes ",\"reply\":\"" ++ end_word end ++ codes "\""
    ++ value_member scripts (replied_value end) ++ codes "}"

-- two runs that show a race, and the call that ends differently in them
abbrev pub json_witness : Scripts → CallAt → (first second : List ℕ) → List ℕ
json_witness scripts call first second =
    codes "{\"first\":" ++ first ++ codes ",\"race\":true,\"second\":" ++ second ++ codes ",\"shown\":"
    ++ json_step scripts (record { call = call; half = Whole }) ++ codes "}\n"

-- nothing shows two calls, of which a race is reported or not
abbrev pub json_unshown : Bool → List ℕ
json_unshown true = codes "{\"race\":true,\"shown\":null}\n"
json_unshown false = codes "{\"race\":false,\"shown\":null}\n"

-- the call that shows a race, null where none was found
abbrev pub json_shown : Scripts → Option CallAt → List ℕ
json_shown scripts (Some call) = json_place scripts call
json_shown scripts None = codes "null"

-- a race that was tried, by the words of its finding
abbrev pub json_tried : Scripts → List ℕ → Option CallAt → List ℕ
json_tried scripts words shown = codes "{\"finding\":" ++ quoted words ++ codes ",\"shown\":" ++ json_shown scripts shown ++ codes "}"

-- races that were tried, as far as both lists go
abbrev pub json_all_tried : Scripts → List (List ℕ) → List (Option CallAt) → List (List ℕ)
json_all_tried scripts (words ∷ others) (shown ∷ more) = json_tried scripts words shown ∷ json_all_tried scripts others more
json_all_tried scripts _ _ = []

-- how many races there are in all, and how many of them are shown, not shown and not tried
abbrev pub json_counts : RaceCounts → List ℕ
json_counts counts =
    codes "{\"not_shown\":" ++ decimal counts.not_shown ++ codes ",\"not_tried\":" ++ decimal counts.not_tried ++ codes ",\"races\":" ++ decimal counts.races
    ++ codes ",\"shown\":" ++ decimal counts.shown ++ codes "}"

-- the races that were tried, and how many there are
abbrev pub json_races : Scripts → List (List ℕ) → List (Option CallAt) → RaceCounts → List ℕ
json_races scripts lines shown counts =
    codes "{\"counts\":" ++ json_counts counts ++ codes ",\"races\":" ++ bracketed (json_all_tried scripts lines shown) ++ codes "}\n"

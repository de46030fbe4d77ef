-- The trees of which the forms of what shows races are made: for the contracts of private functions.
use Rattle.std.specs.Prelude.{ℕ, Bool, true, List, [], ◌∷◌, Option, Some, None, map, codes}
use Rattle.serde_json.specs.Data.{Data, null, boolean, number, unsigned, string, object, member, no_members}
use Rattle.wire_types.specs.declared.CallAt.{CallAt}
use Rattle.wire_types.specs.declared.CallEnd.{CallEnd}
use Rattle.wire_types.specs.declared.Value.{Value}
use Rattle.wire_types.specs.declared.Value.TheVariants as value
use Rattle.wire_scripts.specs.Scripts.{Scripts}
use Rattle.wire_words.specs.Words.{end_word, replied_value, value_text, name_of}
use Rattle.wire_json.specs.declared.witnesses.RaceCounts.{RaceCounts}
use Rattle.wire_json.specs.Json.{printed}
use Rattle.wire_json.specs.Trees.{list_data, strings_data}
use Rattle.wire_json.specs.ChainTrees.{place_data}

-- the steps of a run, and an end that brings nothing
abbrev pub bare_run : List Data → List ℕ → Data
bare_run order reply = object (member (codes "order") (list_data order) (member (codes "reply") (string reply) no_members))

-- and one that brings something
abbrev pub valued_run : List Data → List ℕ → List ℕ → Data
valued_run order reply value =
    object (member (codes "order") (list_data order) (member (codes "reply") (string reply) (member (codes "value") (string value) no_members)))

-- and one that brings this
abbrev pub run_with : Scripts → Value → List Data → List ℕ → Data
run_with scripts value.Nothing order reply = bare_run order reply
run_with scripts value order reply = valued_run order reply (map printed (value_text scripts value))

abbrev pub run_data : Scripts → CallEnd → List ℕ → Data
run_data scripts end order = run_with scripts (replied_value end) (strings_data (map (name_of scripts) order)) (end_word end)

abbrev pub witness_data : (first second shown : Data) → Data
witness_data first second shown =
    object (member (codes "first") first (member (codes "race") (boolean true) (member (codes "second") second (member (codes "shown") shown no_members))))

-- nothing shows two calls
abbrev pub unshown_data : Bool → Data
unshown_data race = object (member (codes "race") (boolean race) (member (codes "shown") null no_members))

abbrev pub shown_data : Scripts → Option CallAt → Data
shown_data scripts (Some call) = place_data scripts call
shown_data scripts None = null

-- a race that was tried
abbrev pub tried_with : List ℕ → Data → Data
tried_with words shown = object (member (codes "finding") (string words) (member (codes "shown") shown no_members))

abbrev pub tried_data : Scripts → List (List ℕ) → List (Option CallAt) → List Data
tried_data scripts (words ∷ others) (shown ∷ more) = tried_with (map printed words) (shown_data scripts shown) ∷ tried_data scripts others more
tried_data scripts _ _ = []

abbrev pub counts_data : RaceCounts → Data
counts_data counts =
    object (member (codes "not_shown") (number (unsigned counts.not_shown)) (member (codes "not_tried") (number (unsigned counts.not_tried))
    (member (codes "races") (number (unsigned counts.races)) (member (codes "shown") (number (unsigned counts.shown)) no_members))))

abbrev pub races_data : Data → List Data → Data
races_data counts races = object (member (codes "counts") counts (member (codes "races") (list_data races) no_members))

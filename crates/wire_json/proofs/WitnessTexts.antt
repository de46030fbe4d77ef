-- The compact text of each tree of what shows races.
use Rattle.std.proofs.Common.{◌≡◌, ◌∙◌, refl, ap, ap₂, ℕ, Bool, List, [], ◌∷◌, ◌++◌, Option, Some, None, map, codes, append_assoc, true, false}
use Rattle.std.specs.Prelude.{◌||◌, decimal}
use Rattle.json.specs.Print.{escape}
use Rattle.serde_json.specs.Data.{Data}
use Rattle.serde_json.specs.View.{items_of}
use Rattle.serde_json.specs.Written.{compact_text, has_float, items_have_float}
use Rattle.serde_json.proofs.OnLiterals.{serde_json_on_literals}
use Rattle.wire_types.specs.declared.CallAt.{CallAt}
use Rattle.wire_types.specs.declared.CallEnd.{CallEnd}
use Rattle.wire_types.specs.declared.Value.{Value}
use Rattle.wire_types.specs.declared.Value.TheVariants as value
use Rattle.wire_scripts.specs.Scripts.{Scripts}
use Rattle.wire_words.specs.Words.{end_word, replied_value, value_text, name_of}
use Rattle.wire_json.specs.declared.chains.Half.TheVariants.{Whole}
use Rattle.wire_json.specs.declared.witnesses.RaceCounts.{RaceCounts}
use Rattle.wire_json.specs.Json.{quoted, bracketed, printed, value_member}
use Rattle.wire_json.specs.Trees.{strings_data, list_data}
use Rattle.wire_json.specs.Chains.{json_step}
use Rattle.wire_json.specs.ChainTrees.{step_data}
use Rattle.wire_json.specs.Witnesses as json
use Rattle.wire_json.specs.WitnessTrees.{bare_run, valued_run, run_with, run_data, witness_data, unshown_data, shown_data, tried_with, tried_data, counts_data, races_data}
use Rattle.wire_json.proofs.Escapes.{plain_end}
use Rattle.wire_json.proofs.Texts.{text_is, list_is, steps_are, strings_plain, of_rank}
use Rattle.wire_json.proofs.ChainTexts.{step_is, place_is}

-- the same bytes, put together in two orders
of_bare : (a t b r q e : List ℕ) → a ++ (t ++ (b ++ ((r ++ q) ++ e))) ≡ a ++ t ++ b ++ r ++ q ++ [] ++ e
of_bare a t b r q e = simp (append_assoc) refl

of_valued : (a t b r q k v e : List ℕ) → a ++ (t ++ (b ++ ((r ++ q) ++ (k ++ (v ++ e))))) ≡ a ++ t ++ b ++ r ++ q ++ (k ++ v) ++ e
of_valued a t b r q k v e = simp (append_assoc) refl

of_witness : (a x b y c z d e : List ℕ) → (a ++ (x ++ (b ++ (y ++ (c ++ (z ++ d)))))) ++ e ≡ a ++ x ++ b ++ y ++ c ++ z ++ (d ++ e)
of_witness a x b y c z d e = simp (append_assoc) refl

of_counts : (a x b y c z d w e : List ℕ) → a ++ (x ++ (b ++ (y ++ (c ++ (z ++ (d ++ (w ++ e))))))) ≡ a ++ x ++ b ++ y ++ c ++ z ++ d ++ w ++ e
of_counts a x b y c z d w e = simp (append_assoc) refl

of_races : (a x b y c d : List ℕ) → (a ++ (x ++ (b ++ (y ++ c)))) ++ d ≡ a ++ x ++ b ++ y ++ (c ++ d)
of_races a x b y c d = simp (append_assoc) refl

-- the steps of a run
steps_text : (s : Scripts) (order : List ℕ) → compact_text (list_data (strings_data (map (name_of s) order))) ≡ bracketed (map (λ p. quoted (name_of s p)) order)
steps_text s order = list_is (strings_data (map (name_of s) order)) ∙ ap bracketed (steps_are s order)

-- a run in which a call ends with nothing, or doesn't end
bare_is : (s : Scripts) (order reply : List ℕ) → escape reply ≡ reply → compact_text (bare_run (strings_data (map (name_of s) order)) reply)
    ≡ codes "{\"order\":" ++ bracketed (map (λ p. quoted (name_of s p)) order) ++ codes ",\"reply\":\"" ++ reply ++ codes "\"" ++ [] ++ codes "}"
unfolding serde_json_on_literals
bare_is s order reply r =
    (λ i. codes "{\"order\":" ++ (steps_text s order i ++ (codes ",\"reply\":\"" ++ ((r i ++ codes "\"") ++ codes "}"))))
    ∙ of_bare (codes "{\"order\":") (bracketed (map (λ p. quoted (name_of s p)) order)) (codes ",\"reply\":\"") reply (codes "\"") (codes "}")

-- a run in which a call ends with something
valued_is : (s : Scripts) (order reply text : List ℕ) → escape reply ≡ reply → compact_text (valued_run (strings_data (map (name_of s) order)) reply (map printed text))
    ≡ codes "{\"order\":" ++ bracketed (map (λ p. quoted (name_of s p)) order) ++ codes ",\"reply\":\"" ++ reply ++ codes "\"" ++ (codes ",\"value\":" ++ quoted text) ++ codes "}"
unfolding serde_json_on_literals
valued_is s order reply text r =
    (λ i. codes "{\"order\":" ++ (steps_text s order i ++ (codes ",\"reply\":\"" ++ ((r i ++ codes "\"") ++ (codes ",\"value\":" ++ (text_is text i ++ codes "}"))))))
    ∙ of_valued (codes "{\"order\":") (bracketed (map (λ p. quoted (name_of s p)) order)) (codes ",\"reply\":\"") reply (codes "\"") (codes ",\"value\":") (quoted text) (codes "}")

run_is : (s : Scripts) (end : CallEnd) (order : List ℕ) → compact_text (run_data s end order) ≡ json.json_run s end order
run_is s end order = go (replied_value end)
  where
    r : escape (end_word end) ≡ end_word end
    r = plain_end end

    go : (b : Value) → compact_text (run_with s b (strings_data (map (name_of s) order)) (end_word end))
        ≡ codes "{\"order\":" ++ bracketed (map (λ p. quoted (name_of s p)) order) ++ codes ",\"reply\":\"" ++ end_word end ++ codes "\"" ++ value_member s b ++ codes "}"
    go value.Nothing = bare_is s order (end_word end) r
    go (value.Put place) = valued_is s order (end_word end) (value_text s (value.Put place)) r
    go (value.Published place) = valued_is s order (end_word end) (value_text s (value.Published place)) r
    go (value.Number n) = valued_is s order (end_word end) (value_text s (value.Number n)) r
    go (value.NodeName n) = valued_is s order (end_word end) (value_text s (value.NodeName n)) r

witness_is : (s : Scripts) (call : CallAt) (first second : Data) (one two : List ℕ) → compact_text first ≡ one → compact_text second ≡ two
    → compact_text (witness_data first second (step_data s (record { call = call; half = Whole }))) ++ codes "\n" ≡ json.json_witness s call one two
unfolding serde_json_on_literals
witness_is s call first second one two f g =
    let shown = step_is s (record { call = call; half = Whole }) in
    (λ i. (codes "{\"first\":" ++ (f i ++ (codes ",\"race\":true,\"second\":" ++ (g i ++ (codes ",\"shown\":" ++ (shown i ++ codes "}")))))) ++ codes "\n")
    ∙ of_witness (codes "{\"first\":") one (codes ",\"race\":true,\"second\":") two (codes ",\"shown\":") (json_step s (record { call = call; half = Whole })) (codes "}") (codes "\n")

unshown_is : (race : Bool) → compact_text (unshown_data race) ++ codes "\n" ≡ json.json_unshown race
unfolding serde_json_on_literals
unshown_is true = refl
unshown_is false = refl

shown_is : (s : Scripts) (shown : Option CallAt) → compact_text (shown_data s shown) ≡ json.json_shown s shown
unfolding serde_json_on_literals
shown_is s (Some call) = place_is s call
shown_is s None = refl

tried_is : (s : Scripts) (words : List ℕ) (shown : Option CallAt) → compact_text (tried_with (map printed words) (shown_data s shown)) ≡ json.json_tried s words shown
unfolding serde_json_on_literals
tried_is s words shown =
    (λ i. codes "{\"finding\":" ++ (text_is words i ++ (codes ",\"shown\":" ++ (shown_is s shown i ++ codes "}"))))
    ∙ of_rank (codes "{\"finding\":") (quoted words) (codes ",\"shown\":") (json.json_shown s shown) (codes "}")

all_are : (s : Scripts) (findings : List (List ℕ)) (shown : List (Option CallAt)) → map compact_text (tried_data s findings shown) ≡ json.json_all_tried s findings shown
all_are s (words ∷ others) (shown ∷ more) = ap₂ (λ x y. x ∷ y) (tried_is s words shown) (all_are s others more)
all_are s [] shown = refl
all_are s (words ∷ others) [] = refl

counts_is : (counts : RaceCounts) → compact_text (counts_data counts) ≡ json.json_counts counts
unfolding serde_json_on_literals
counts_is counts = of_counts (codes "{\"not_shown\":") (decimal counts.not_shown) (codes ",\"not_tried\":") (decimal counts.not_tried) (codes ",\"races\":") (decimal counts.races)
    (codes ",\"shown\":") (decimal counts.shown) (codes "}")

races_are : (s : Scripts) (findings : List (List ℕ)) (shown : List (Option CallAt)) (counts : RaceCounts)
    → compact_text (races_data (counts_data counts) (tried_data s findings shown)) ++ codes "\n" ≡ json.json_races s findings shown counts
unfolding serde_json_on_literals
races_are s findings shown counts =
    let all = list_is (tried_data s findings shown) ∙ ap bracketed (all_are s findings shown) in
    (λ i. (codes "{\"counts\":" ++ (counts_is counts i ++ (codes ",\"races\":" ++ (all i ++ codes "}")))) ++ codes "\n")
    ∙ of_races (codes "{\"counts\":") (json.json_counts counts) (codes ",\"races\":") (bracketed (json.json_all_tried s findings shown)) (codes "}") (codes "\n")

-- no tree has a float
run_plain : (s : Scripts) (b : Value) (names : List (List ℕ)) (reply : List ℕ) → has_float (run_with s b (strings_data names) reply) ≡ false
run_plain s value.Nothing names reply = ap (λ x. x || false) (strings_plain names)
run_plain s (value.Put place) names reply = ap (λ x. x || false) (strings_plain names)
run_plain s (value.Published place) names reply = ap (λ x. x || false) (strings_plain names)
run_plain s (value.Number n) names reply = ap (λ x. x || false) (strings_plain names)
run_plain s (value.NodeName n) names reply = ap (λ x. x || false) (strings_plain names)

tried_plain : (s : Scripts) (words : List ℕ) (shown : Option CallAt) → has_float (tried_with words (shown_data s shown)) ≡ false
tried_plain s words (Some call) = refl
tried_plain s words None = refl

all_plain : (s : Scripts) (findings : List (List ℕ)) (shown : List (Option CallAt)) → items_have_float (items_of (tried_data s findings shown)) ≡ false
all_plain s (words ∷ others) (shown ∷ more) = ap₂ (λ x y. x || y) (tried_plain s (map printed words) shown) (all_plain s others more)
all_plain s [] shown = refl
all_plain s (words ∷ others) [] = refl

-- the text of a tree that is known
module _ (tree : Data) (text : List ℕ) (told : has_float tree ≡ false → text ≡ compact_text tree ++ codes "\n") where
  pub witness_told : (s : Scripts) (call : CallAt) (e f : CallEnd) (order other : List ℕ) (first second shown : Data) → tree ≡ witness_data first second shown → first ≡ run_data s e order →
      second ≡ run_data s f other → shown ≡ step_data s (record { call = call; half = Whole }) → text ≡ json.json_witness s call (json.json_run s e order) (json.json_run s f other)
  witness_told s call e f order other first second shown is one two three =
      let last : Data = step_data s (record { call = call; half = Whole }) in
      let whole : tree ≡ witness_data (run_data s e order) (run_data s f other) last = is ∙ (λ i. witness_data (one i) (two i) (three i)) in
      let plain = ap₂ (λ x y. x || (false || (y || false))) (run_plain s (replied_value e) (map (name_of s) order) (end_word e)) (run_plain s (replied_value f) (map (name_of s) other) (end_word f)) in
      told (ap has_float whole ∙ plain) ∙ ap (λ t. compact_text t ++ codes "\n") whole
      ∙ witness_is s call (run_data s e order) (run_data s f other) (json.json_run s e order) (json.json_run s f other) (run_is s e order) (run_is s f other)

  pub unshown_told : (race : Bool) → tree ≡ unshown_data race → text ≡ json.json_unshown race
  unshown_told race is = told (ap has_float is) ∙ ap (λ t. compact_text t ++ codes "\n") is ∙ unshown_is race

  pub races_told : (s : Scripts) (findings : List (List ℕ)) (shown : List (Option CallAt)) (counts : RaceCounts) (numbers : Data) (races : List Data) → tree ≡ races_data numbers races →
      numbers ≡ counts_data counts → races ≡ tried_data s findings shown → text ≡ json.json_races s findings shown counts
  races_told s findings shown counts numbers races is counted are =
      let whole : tree ≡ races_data (counts_data counts) (tried_data s findings shown) = is ∙ (λ i. races_data (counted i) (are i)) in
      told (ap has_float whole ∙ ap (λ x. x || false) (all_plain s findings shown)) ∙ ap (λ t. compact_text t ++ codes "\n") whole ∙ races_are s findings shown counts

-- and of a part of one
module _ (tree : Data) (text : List ℕ) (told : has_float tree ≡ false → text ≡ compact_text tree) where
  pub run_told : (s : Scripts) (e : CallEnd) (order : List ℕ) → tree ≡ run_data s e order → text ≡ json.json_run s e order
  run_told s e order is =
      told (ap has_float is ∙ run_plain s (replied_value e) (map (name_of s) order) (end_word e)) ∙ ap compact_text is ∙ run_is s e order

  pub counts_told : (counts : RaceCounts) → tree ≡ counts_data counts → text ≡ json.json_counts counts
  counts_told counts is = told (ap has_float is) ∙ ap compact_text is ∙ counts_is counts

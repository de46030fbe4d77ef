-- The compact text of each tree.
use Rattle.std.proofs.Common.{◌≡◌, ◌∙◌, sym, refl, ap, ap₂, ℕ, List, [], ◌∷◌, ◌++◌, map, codes, append_assoc, true, false}
use Rattle.std.specs.Prelude.{◌||◌, decimal}
use Rattle.std.specs.List.{join_with_byte}
use Rattle.json.specs.Print.{escape}
use Rattle.serde_json.specs.Data.{Data}
use Rattle.serde_json.specs.View.{items_of}
use Rattle.serde_json.specs.Written.{compact_text, items_text, has_float, items_have_float}
use Rattle.serde_json.proofs.OnLiterals.{serde_json_on_literals}
use Rattle.wire_types.specs.declared.Call.{Call}
use Rattle.wire_types.specs.declared.CallEnd.{CallEnd}
use Rattle.wire_types.specs.declared.Value.{Value}
use Rattle.wire_types.specs.declared.Value.TheVariants as value
use Rattle.wire_types.specs.Outcome.{Ends}
use Rattle.wire_scripts.specs.Scripts.{Scripts, Process}
use Rattle.wire_scripts.specs.Canonical.{process_text}
use Rattle.wire_words.specs.Words.{end_word, replied_value, value_text, verb_text, name_of}
use Rattle.wire_json.specs.Json as json
use Rattle.wire_json.specs.Json.{quoted, bracketed, printed}
use Rattle.wire_json.specs.Trees.{text_data, strings_data, list_data, bare_data, valued_data, reply_data, call_data, calls_data, rank_data, ranks_data, report_data, findings_data, unsettled_data}
use Rattle.wire_json.proofs.Escapes.{same_escapes, plain_end, plain_verb}

pub text_is : (text : List ℕ) → compact_text (text_data text) ≡ quoted text
text_is text = ap (λ t. 34 ∷ (t ++ 34 ∷ [])) (same_escapes text)

pub strings_are : (texts : List (List ℕ)) → map compact_text (strings_data texts) ≡ map quoted texts
strings_are [] = refl
strings_are (t ∷ ts) = ap₂ (λ x y. x ∷ y) (text_is t) (strings_are ts)

-- the names of steps
pub steps_are : (s : Scripts) (order : List ℕ) → map compact_text (strings_data (map (name_of s) order)) ≡ map (λ p. quoted (name_of s p)) order
steps_are s [] = refl
steps_are s (p ∷ order) = ap₂ (λ x y. x ∷ y) (text_is (name_of s p)) (steps_are s order)

-- items with commas between them, and the bracket
items_are : (d : Data) (ds : List Data) → compact_text d ++ items_text true (items_of ds) ≡ join_with_byte 44 (compact_text d ∷ map compact_text ds) ++ 93 ∷ []
items_are d [] = refl
items_are d (e ∷ ds) = ap (λ t. compact_text d ++ 44 ∷ t) (items_are e ds) ∙ sym (append_assoc (compact_text d) (44 ∷ join_with_byte 44 (compact_text e ∷ map compact_text ds)) (93 ∷ []))

pub list_is : (ds : List Data) → compact_text (list_data ds) ≡ bracketed (map compact_text ds)
list_is [] = refl
list_is (d ∷ ds) = ap (λ t. 91 ∷ t) (items_are d ds)

-- the same bytes, put together in two orders
of_bare : (a r b c v d e : List ℕ) → a ++ ((r ++ b) ++ (c ++ ((v ++ d) ++ e))) ≡ a ++ r ++ b ++ [] ++ c ++ v ++ (d ++ e)
of_bare a r b c v d e = simp (append_assoc) refl

of_valued : (a r b k q c v d e : List ℕ) → a ++ ((r ++ b) ++ (k ++ (q ++ (c ++ ((v ++ d) ++ e))))) ≡ a ++ r ++ b ++ (k ++ q) ++ c ++ v ++ (d ++ e)
of_valued a r b k q c v d e = simp (append_assoc) refl

pub of_rank : (a t b n c : List ℕ) → a ++ (t ++ (b ++ (n ++ c))) ≡ a ++ t ++ b ++ n ++ c
of_rank a t b n c = simp (append_assoc) refl

of_report : (a k t b m w c d : List ℕ) → ((a ++ k) ++ (t ++ ((b ++ m) ++ (w ++ c)))) ++ d ≡ a ++ (k ++ t) ++ b ++ (m ++ w) ++ (c ++ d)
of_report a k t b m w c d = simp (append_assoc) refl

pub of_findings : (a t b c : List ℕ) → (a ++ (t ++ b)) ++ c ≡ a ++ t ++ (b ++ c)
of_findings a t b c = simp (append_assoc) refl

of_unsettled : (a o b k t e m w c d : List ℕ) → (a ++ (o ++ ((b ++ k) ++ (t ++ ((e ++ m) ++ (w ++ c)))))) ++ d ≡ a ++ o ++ b ++ (k ++ t) ++ e ++ (m ++ w) ++ (c ++ d)
of_unsettled a o b k t e m w c d = simp (append_assoc) refl

bare_is : (reply verb : List ℕ) → escape reply ≡ reply → escape verb ≡ verb
    → compact_text (bare_data reply verb) ≡ codes "{\"reply\":\"" ++ reply ++ codes "\"" ++ [] ++ codes ",\"verb\":\"" ++ verb ++ codes "\"}"
unfolding serde_json_on_literals
bare_is reply verb r v =
    (λ i. codes "{\"reply\":\"" ++ ((r i ++ codes "\"") ++ (codes ",\"verb\":\"" ++ ((v i ++ codes "\"") ++ codes "}"))))
    ∙ of_bare (codes "{\"reply\":\"") reply (codes "\"") (codes ",\"verb\":\"") verb (codes "\"") (codes "}")

valued_is : (reply text verb : List ℕ) → escape reply ≡ reply → escape verb ≡ verb
    → compact_text (valued_data reply (map printed text) verb) ≡ codes "{\"reply\":\"" ++ reply ++ codes "\"" ++ (codes ",\"value\":" ++ quoted text) ++ codes ",\"verb\":\"" ++ verb ++ codes "\"}"
unfolding serde_json_on_literals
valued_is reply text verb r v =
    (λ i. codes "{\"reply\":\"" ++ ((r i ++ codes "\"") ++ (codes ",\"value\":" ++ (text_is text i ++ (codes ",\"verb\":\"" ++ ((v i ++ codes "\"") ++ codes "}"))))))
    ∙ of_valued (codes "{\"reply\":\"") reply (codes "\"") (codes ",\"value\":") (quoted text) (codes ",\"verb\":\"") verb (codes "\"") (codes "}")

call_is : (s : Scripts) (call : Call) (end : CallEnd) → compact_text (call_data s call end) ≡ json.json_call s call end
call_is s call end = go (replied_value end)
  where
    r : escape (end_word end) ≡ end_word end
    r = plain_end end

    v : escape (verb_text call) ≡ verb_text call
    v = plain_verb call

    go : (b : Value) → compact_text (reply_data s b (end_word end) (verb_text call)) ≡ codes "{\"reply\":\"" ++ end_word end ++ codes "\"" ++ json.value_member s b
        ++ codes ",\"verb\":\"" ++ verb_text call ++ codes "\"}"
    go value.Nothing = bare_is (end_word end) (verb_text call) r v
    go (value.Put place) = valued_is (end_word end) (value_text s (value.Put place)) (verb_text call) r v
    go (value.Published place) = valued_is (end_word end) (value_text s (value.Published place)) (verb_text call) r v
    go (value.Number n) = valued_is (end_word end) (value_text s (value.Number n)) (verb_text call) r v
    go (value.NodeName n) = valued_is (end_word end) (value_text s (value.NodeName n)) (verb_text call) r v

calls_are : (s : Scripts) (calls : List Call) (ends : List CallEnd) → map compact_text (calls_data s calls ends) ≡ json.json_calls s calls ends
calls_are s (call ∷ calls) (end ∷ ends) = ap₂ (λ x y. x ∷ y) (call_is s call end) (calls_are s calls ends)
calls_are s [] ends = refl
calls_are s (call ∷ calls) [] = refl

rank_is : (s : Scripts) (process : Process) (ends : List CallEnd) → compact_text (rank_data s process ends) ≡ json.json_rank s process ends
unfolding serde_json_on_literals
rank_is s process ends =
    let calls = list_is (calls_data s process.calls ends) ∙ ap bracketed (calls_are s process.calls ends) in
    let name = text_is (process_text s process) in
    (λ i. codes "{\"calls\":" ++ (calls i ++ (codes ",\"proc\":" ++ (name i ++ codes "}"))))
    ∙ of_rank (codes "{\"calls\":") (bracketed (json.json_calls s process.calls ends)) (codes ",\"proc\":") (quoted (process_text s process)) (codes "}")

pub ranks_are : (s : Scripts) (processes : List Process) (rows : List (List CallEnd)) → map compact_text (ranks_data s processes rows) ≡ json.json_ranks s processes rows
ranks_are s (process ∷ processes) (row ∷ rows) = ap₂ (λ x y. x ∷ y) (rank_is s process row) (ranks_are s processes rows)
ranks_are s [] rows = refl
ranks_are s (process ∷ processes) [] = refl

report_is : (s : Scripts) (ends : Ends) → compact_text (report_data (ranks_data s s.processes ends.rows) ends.waiting) ++ codes "\n" ≡ json.json_report s ends
unfolding serde_json_on_literals
report_is s ends =
    let ranks = list_is (ranks_data s s.processes ends.rows) ∙ ap bracketed (ranks_are s s.processes ends.rows) in
    (λ i. (codes "{\"ranks\":" ++ (ranks i ++ (codes ",\"waiting\":" ++ (decimal ends.waiting ++ codes "}")))) ++ codes "\n")
    ∙ of_report (codes "{") (codes "\"ranks\":") (bracketed (json.json_ranks s s.processes ends.rows)) (codes ",") (codes "\"waiting\":") (decimal ends.waiting) (codes "}") (codes "\n")

findings_are : (lines : List (List ℕ)) → compact_text (findings_data (strings_data lines)) ++ codes "\n" ≡ json.json_findings lines
unfolding serde_json_on_literals
findings_are lines =
    let found = list_is (strings_data lines) ∙ ap bracketed (strings_are lines) in
    (λ i. (codes "{\"findings\":" ++ (found i ++ codes "}")) ++ codes "\n")
    ∙ of_findings (codes "{\"findings\":") (bracketed (map quoted lines)) (codes "}") (codes "\n")

unsettled_is : (s : Scripts) (ends : Ends) (order : List ℕ) → compact_text (unsettled_data (strings_data (map (name_of s) order)) (ranks_data s s.processes ends.rows) ends.waiting)
    ++ codes "\n" ≡ json.json_unsettled s ends order
unfolding serde_json_on_literals
unsettled_is s ends order =
    let steps = list_is (strings_data (map (name_of s) order)) ∙ ap bracketed (steps_are s order) in
    let ranks = list_is (ranks_data s s.processes ends.rows) ∙ ap bracketed (ranks_are s s.processes ends.rows) in
    (λ i. (codes "{\"order\":" ++ (steps i ++ (codes ",\"ranks\":" ++ (ranks i ++ (codes ",\"unsettled\":true,\"waiting\":" ++ (decimal ends.waiting ++ codes "}")))))) ++ codes "\n")
    ∙ of_unsettled (codes "{\"order\":") (bracketed (map (λ p. quoted (name_of s p)) order)) (codes ",") (codes "\"ranks\":") (bracketed (json.json_ranks s s.processes ends.rows))
    (codes ",\"unsettled\":true,") (codes "\"waiting\":") (decimal ends.waiting) (codes "}") (codes "\n")

-- no tree has a float
pub strings_plain : (texts : List (List ℕ)) → items_have_float (items_of (strings_data texts)) ≡ false
strings_plain [] = refl
strings_plain (t ∷ ts) = strings_plain ts

reply_plain : (s : Scripts) (b : Value) (reply verb : List ℕ) → has_float (reply_data s b reply verb) ≡ false
reply_plain s value.Nothing reply verb = refl
reply_plain s (value.Put place) reply verb = refl
reply_plain s (value.Published place) reply verb = refl
reply_plain s (value.Number n) reply verb = refl
reply_plain s (value.NodeName n) reply verb = refl

calls_plain : (s : Scripts) (calls : List Call) (ends : List CallEnd) → items_have_float (items_of (calls_data s calls ends)) ≡ false
calls_plain s (call ∷ calls) (end ∷ ends) = ap₂ (λ x y. x || y) (reply_plain s (replied_value end) (end_word end) (verb_text call)) (calls_plain s calls ends)
calls_plain s [] ends = refl
calls_plain s (call ∷ calls) [] = refl

ranks_plain : (s : Scripts) (processes : List Process) (rows : List (List CallEnd)) → items_have_float (items_of (ranks_data s processes rows)) ≡ false
ranks_plain s (process ∷ processes) (row ∷ rows) = ap₂ (λ x y. (x || false) || y) (calls_plain s process.calls row) (ranks_plain s processes rows)
ranks_plain s [] rows = refl
ranks_plain s (process ∷ processes) [] = refl

-- the text of a tree that is known
module _ (tree : Data) (text : List ℕ) (told : has_float tree ≡ false → text ≡ compact_text tree ++ codes "\n") where
  pub report_told : (s : Scripts) (ends : Ends) (ranks : List Data) → tree ≡ report_data ranks ends.waiting → ranks ≡ ranks_data s s.processes ends.rows → text ≡ json.json_report s ends
  report_told s ends ranks is are =
      let whole : tree ≡ report_data (ranks_data s s.processes ends.rows) ends.waiting = is ∙ ap (λ r. report_data r ends.waiting) are in
      told (ap has_float whole ∙ ap (λ x. x || false) (ranks_plain s s.processes ends.rows)) ∙ ap (λ t. compact_text t ++ codes "\n") whole ∙ report_is s ends

  pub findings_told : (lines : List (List ℕ)) (found : List Data) → tree ≡ findings_data found → found ≡ strings_data lines → text ≡ json.json_findings lines
  findings_told lines found is are =
      let whole : tree ≡ findings_data (strings_data lines) = is ∙ ap findings_data are in
      told (ap has_float whole ∙ ap (λ x. x || false) (strings_plain lines)) ∙ ap (λ t. compact_text t ++ codes "\n") whole ∙ findings_are lines

  pub unsettled_told : (s : Scripts) (ends : Ends) (order : List ℕ) (steps ranks : List Data) → tree ≡ unsettled_data steps ranks ends.waiting → steps ≡ strings_data (map (name_of s) order) →
      ranks ≡ ranks_data s s.processes ends.rows → text ≡ json.json_unsettled s ends order
  unsettled_told s ends order steps ranks is in_order are =
      let names : List (List ℕ) = map (name_of s) order in
      let whole : tree ≡ unsettled_data (strings_data names) (ranks_data s s.processes ends.rows) ends.waiting = is ∙ (λ i. unsettled_data (in_order i) (are i) ends.waiting) in
      told (ap has_float whole ∙ ap₂ (λ x y. x || (y || false)) (strings_plain names) (ranks_plain s s.processes ends.rows)) ∙ ap (λ t. compact_text t ++ codes "\n") whole ∙ unsettled_is s ends order

-- The compact text of each tree of an answer to a question.
use Rattle.std.proofs.Common.{◌≡◌, ◌∙◌, refl, ap, ap₂, ℕ, ◌+◌, Bool, List, [], ◌∷◌, ◌++◌, map, codes, append_assoc, true, false}
use Rattle.std.specs.Prelude.{◌||◌, decimal}
use Rattle.json.specs.Print.{escape, escape_byte}
use Rattle.serde_json.specs.Data.{Data}
use Rattle.serde_json.specs.View.{items_of}
use Rattle.serde_json.specs.Written.{compact_text, has_float, items_have_float}
use Rattle.serde_json.proofs.OnLiterals.{serde_json_on_literals}
use Rattle.wire_types.specs.declared.CallAt.{CallAt}
use Rattle.wire_scripts.specs.Scripts.{Scripts, call_at}
use Rattle.wire_words.specs.Words.{name_of, verb_text_in}
use Rattle.wire_json.specs.declared.chains.ChainStep.{ChainStep}
use Rattle.wire_json.specs.declared.chains.Half.{Half}
use Rattle.wire_json.specs.declared.chains.Half.TheVariants.{Whole, Arrive, Leave}
use Rattle.wire_json.specs.Json.{quoted, bracketed, printed}
use Rattle.wire_json.specs.Chains as json
use Rattle.wire_json.specs.ChainTrees.{part_data, step_data, place_data, chain_data, unordered_data}
use Rattle.wire_json.proofs.Texts.{text_is, list_is, of_findings}

-- the same bytes, put together in two orders
of_named : (a n b p c v d : List ℕ) → a ++ (n ++ (b ++ (p ++ (c ++ (v ++ d))))) ≡ a ++ n ++ [] ++ (b ++ p) ++ (c ++ v) ++ d
of_named a n b p c v d = simp (append_assoc) refl

of_half : (a n h b p c v d : List ℕ) → a ++ (n ++ (h ++ (b ++ (p ++ (c ++ (v ++ d)))))) ≡ a ++ n ++ h ++ (b ++ p) ++ (c ++ v) ++ d
of_half a n h b p c v d = simp (append_assoc) refl

of_place : (a n b p d : List ℕ) → a ++ (n ++ (b ++ (p ++ d))) ≡ a ++ n ++ (b ++ p) ++ d
of_place a n b p d = simp (append_assoc) refl

of_chain : (a w q b t c d : List ℕ) → (a ++ ((w ++ q) ++ (b ++ (t ++ c)))) ++ d ≡ a ++ w ++ (q ++ b) ++ t ++ (c ++ d)
of_chain a w q b t c d = simp (append_assoc) refl

-- a call with its verb, all of it or a half
part_is : (half : Half) (n : ℕ) (proc verb : List ℕ) → compact_text (part_data half n (map printed proc) (map printed verb))
    ≡ codes "{\"call\":" ++ decimal n ++ json.half_member half ++ (codes ",\"proc\":" ++ quoted proc) ++ (codes ",\"verb\":" ++ quoted verb) ++ codes "}"
unfolding serde_json_on_literals
part_is Whole n proc verb =
    (λ i. codes "{\"call\":" ++ (decimal n ++ (codes ",\"proc\":" ++ (text_is proc i ++ (codes ",\"verb\":" ++ (text_is verb i ++ codes "}"))))))
    ∙ of_named (codes "{\"call\":") (decimal n) (codes ",\"proc\":") (quoted proc) (codes ",\"verb\":") (quoted verb) (codes "}")
part_is Arrive n proc verb =
    (λ i. codes "{\"call\":" ++ (decimal n ++ (codes ",\"half\":\"arrive\"" ++ (codes ",\"proc\":" ++ (text_is proc i ++ (codes ",\"verb\":" ++ (text_is verb i ++ codes "}")))))))
    ∙ of_half (codes "{\"call\":") (decimal n) (codes ",\"half\":\"arrive\"") (codes ",\"proc\":") (quoted proc) (codes ",\"verb\":") (quoted verb) (codes "}")
part_is Leave n proc verb =
    (λ i. codes "{\"call\":" ++ (decimal n ++ (codes ",\"half\":\"leave\"" ++ (codes ",\"proc\":" ++ (text_is proc i ++ (codes ",\"verb\":" ++ (text_is verb i ++ codes "}")))))))
    ∙ of_half (codes "{\"call\":") (decimal n) (codes ",\"half\":\"leave\"") (codes ",\"proc\":") (quoted proc) (codes ",\"verb\":") (quoted verb) (codes "}")

pub step_is : (s : Scripts) (step : ChainStep) → compact_text (step_data s step) ≡ json.json_step s step
step_is s step = part_is step.half (step.call.call + 1) (name_of s step.call.proc.number) (verb_text_in (call_at s.processes step.call.proc.number step.call.call))

steps_are : (s : Scripts) (steps : List ChainStep) → map compact_text (map (step_data s) steps) ≡ map (json.json_step s) steps
steps_are s [] = refl
steps_are s (step ∷ steps) = ap₂ (λ x y. x ∷ y) (step_is s step) (steps_are s steps)

-- a call without it
pub place_is : (s : Scripts) (call : CallAt) → compact_text (place_data s call) ≡ json.json_place s call
unfolding serde_json_on_literals
place_is s call =
    let name = name_of s call.proc.number in
    (λ i. codes "{\"call\":" ++ (decimal (call.call + 1) ++ (codes ",\"proc\":" ++ (text_is name i ++ codes "}"))))
    ∙ of_place (codes "{\"call\":") (decimal (call.call + 1)) (codes ",\"proc\":") (quoted name) (codes "}")

places_are : (s : Scripts) (calls : List CallAt) → map compact_text (map (place_data s) calls) ≡ map (json.json_place s) calls
places_are s [] = refl
places_are s (call ∷ calls) = ap₂ (λ x y. x ∷ y) (place_is s call) (places_are s calls)

plain_which : (first : Bool) → escape (json.which_word first) ≡ json.which_word first
unfolding escape_byte
plain_which true = refl
plain_which false = refl

chain_is : (s : Scripts) (first : Bool) (steps : List ChainStep) → compact_text (chain_data (json.which_word first) (map (step_data s) steps)) ++ codes "\n" ≡ json.json_chain first s steps
unfolding serde_json_on_literals
chain_is s first steps =
    let all = list_is (map (step_data s) steps) ∙ ap bracketed (steps_are s steps) in
    (λ i. (codes "{\"before\":\"" ++ ((plain_which first i ++ codes "\"") ++ (codes ",\"chain\":" ++ (all i ++ codes "}")))) ++ codes "\n")
    ∙ of_chain (codes "{\"before\":\"") (json.which_word first) (codes "\"") (codes ",\"chain\":") (bracketed (map (json.json_step s) steps)) (codes "}") (codes "\n")

unordered_is : (s : Scripts) (dead : List CallAt) → compact_text (unordered_data (map (place_data s) dead)) ++ codes "\n" ≡ json.json_unordered s dead
unfolding serde_json_on_literals
unordered_is s dead =
    let all = list_is (map (place_data s) dead) ∙ ap bracketed (places_are s dead) in
    (λ i. (codes "{\"before\":null,\"dead\":" ++ (all i ++ codes "}")) ++ codes "\n")
    ∙ of_findings (codes "{\"before\":null,\"dead\":") (bracketed (map (json.json_place s) dead)) (codes "}") (codes "\n")

-- no tree has a float
pub part_plain : (half : Half) (n : ℕ) (proc verb : List ℕ) → has_float (part_data half n proc verb) ≡ false
part_plain Whole n proc verb = refl
part_plain Arrive n proc verb = refl
part_plain Leave n proc verb = refl

steps_plain : (s : Scripts) (steps : List ChainStep) → items_have_float (items_of (map (step_data s) steps)) ≡ false
steps_plain s [] = refl
steps_plain s (step ∷ steps) = ap₂ (λ x y. x || y) (part_plain step.half _ _ _) (steps_plain s steps)

places_plain : (s : Scripts) (calls : List CallAt) → items_have_float (items_of (map (place_data s) calls)) ≡ false
places_plain s [] = refl
places_plain s (call ∷ calls) = places_plain s calls

-- the text of a tree that is known
module _ (tree : Data) (text : List ℕ) (told : has_float tree ≡ false → text ≡ compact_text tree ++ codes "\n") where
  pub chain_told : (s : Scripts) (first : Bool) (word : List ℕ) (steps : List ChainStep) (chain : List Data) → tree ≡ chain_data word chain →
      word ≡ json.which_word first → chain ≡ map (step_data s) steps →
      text ≡ json.json_chain first s steps
  chain_told s first word steps chain is named are =
      let whole : tree ≡ chain_data (json.which_word first) (map (step_data s) steps) = is ∙ (λ i. chain_data (named i) (are i)) in
      told (ap has_float whole ∙ ap (λ x. x || false) (steps_plain s steps)) ∙ ap (λ t. compact_text t ++ codes "\n") whole ∙ chain_is s first steps

  pub unordered_told : (s : Scripts) (dead : List CallAt) (places : List Data) → tree ≡ unordered_data places → places ≡ map (place_data s) dead → text ≡ json.json_unordered s dead
  unordered_told s dead places is are =
      let whole : tree ≡ unordered_data (map (place_data s) dead) = is ∙ ap unordered_data are in
      told (ap has_float whole ∙ ap (λ x. x || false) (places_plain s dead)) ∙ ap (λ t. compact_text t ++ codes "\n") whole ∙ unordered_is s dead

use Rattle.std.proofs.Common.{◌≡◌, ◌∙◌, ap, sym, refl, ℕ, List, ◌++◌, map, true, false, true≢false}
use Rattle.std.proofs.lemmas.Result.{IfOk-weaker}
use Rattle.wire_types.specs.declared.Value.{Value}
use Rattle.wire_types.specs.declared.Value.TheVariants as value
use Rattle.wire_scripts.specs.Scripts.{Scripts}
use Rattle.wire_words.specs.Words.{value_text, verb_text, end_word}
use Rattle.wire_json.specs.Json.{printed}
use Rattle.wire_json.specs.Trees.{valued_data, reply_data}
use Rattle.wire_json.proofs.trees.call_tree.Goals as goal

-- a call whose reply brings something
valued_is : (s : Scripts) (v : Value) (reply verb : List ℕ) → (v ≡ value.Nothing → ⊥) → valued_data reply (map printed (value_text s v)) verb ≡ reply_data s v reply verb
valued_is s value.Nothing reply verb some = absurd (some refl)
valued_is s (value.Put place) reply verb some = refl
valued_is s (value.Published place) reply verb some = refl
valued_is s (value.Number n) reply verb some = refl
valued_is s (value.NodeName node) reply verb some = refl

pub returns : goal.returns
returns c =
    let s = c.args.scripts.now in
    let v = c.replied_value-value.result in
    let some = λ (e : c.replied_value-value.result ≡ value.Nothing). let same : true ≡ false = sym (rw e at c.if-eq.ensures) in true≢false same in
    let text = c.as_slice.ensures.value ∙ c.in_ok-push_value.ensures ∙ ap (λ t. t ++ value_text s v) c.new-text.ensures.items in
    let shown = c.as_str.ensures.value ∙ c.in_ok-text.ensures ∙ ap (map printed) text in
    IfOk-weaker c.valued_call.result _ _
    (λ tree e. e ∙ (λ i. valued_data (c.end_word-2.ensures i) (shown i) (c.verb-2.ensures i))
    ∙ valued_is s v (end_word c.args.end.now) (verb_text c.args.call.now) some
    ∙ ap (λ b. reply_data s b (end_word c.args.end.now) (verb_text c.args.call.now)) c.replied_value-value.ensures)
    c.valued_call.ensures

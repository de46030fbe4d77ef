use Rattle.std.proofs.Common.{◌≡◌, ◌∙◌, ap, sym, refl, ℕ, List, ◌++◌, map, true, false, true≢false}
use Rattle.std.proofs.lemmas.Result.{IfOk-weaker}
use Rattle.serde_json.specs.Data.{Data}
use Rattle.serde_json.specs.View.{view}
use Rattle.wire_types.specs.declared.Value.{Value}
use Rattle.wire_types.specs.declared.Value.TheVariants as value
use Rattle.wire_scripts.specs.Scripts.{Scripts}
use Rattle.wire_words.specs.Words.{value_text, end_word}
use Rattle.wire_json.specs.Json.{printed}
use Rattle.wire_json.specs.WitnessTrees.{valued_run, run_with}
use Rattle.wire_json.proofs.witnesses.end_tree.Goals as goal

-- a run in which a call ends with something
valued_is : (s : Scripts) (v : Value) (order : List Data) (reply : List ℕ) → (v ≡ value.Nothing → ⊥) → valued_run order reply (map printed (value_text s v)) ≡ run_with s v order reply
valued_is s value.Nothing order reply some = absurd (some refl)
valued_is s (value.Put place) order reply some = refl
valued_is s (value.Published place) order reply some = refl
valued_is s (value.Number n) order reply some = refl
valued_is s (value.NodeName node) order reply some = refl

pub returns : goal.returns
returns c =
    let s = c.args.scripts.now in
    let v = c.replied_value-value.result in
    let steps = map view c.args.steps.items in
    let some = λ (e : c.replied_value-value.result ≡ value.Nothing). let same : true ≡ false = sym (rw e at c.if-eq.ensures) in true≢false same in
    let text = c.as_slice.ensures.value ∙ c.in_ok-push_value.ensures ∙ ap (λ t. t ++ value_text s v) c.new-text.ensures.items in
    let shown = c.as_str.ensures.value ∙ c.in_ok-text.ensures ∙ ap (map printed) text in
    IfOk-weaker c.valued_run.result _ _
    (λ tree e. e ∙ (λ i. valued_run steps (c.end_word-2.ensures i) (shown i))
    ∙ valued_is s v steps (end_word c.args.end.now) some
    ∙ ap (λ b. run_with s b steps (end_word c.args.end.now)) c.replied_value-value.ensures)
    c.valued_run.ensures

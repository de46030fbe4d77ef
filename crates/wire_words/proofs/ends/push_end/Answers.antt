use Rattle.std.proofs.Common.{◌≡◌, ◌∙◌, ap, sym, refl, ℕ, List, ◌++◌, codes, append_assoc, true, false, true≢false}
use Rattle.std.proofs.lemmas.Result.{on_ok_weaker}
use Rattle.wire_types.specs.declared.Value.{Value}
use Rattle.wire_types.specs.declared.Value.TheVariants as value
use Rattle.wire_scripts.specs.Scripts.{Scripts}
use Rattle.wire_words.specs.Words.{value_text, value_part}
use Rattle.wire_words.proofs.ends.push_end.Goals as goal

-- what a reply brings stands after a space
part_is : (s : Scripts) (v : Value) → (v ≡ value.Nothing → ⊥) → value_part s v ≡ codes " " ++ value_text s v
part_is s value.Nothing some = absurd (some refl)
part_is s (value.Put place) some = refl
part_is s (value.Published place) some = refl
part_is s (value.Number n) some = refl
part_is s (value.NodeName node) some = refl

told : (s : Scripts) (v brought : Value) (old one two new said word : List ℕ) → v ≡ brought → (v ≡ value.Nothing → ⊥) → said ≡ word
    → one ≡ old ++ said → two ≡ one ++ codes " " → new ≡ two ++ value_text s v → new ≡ old ++ (word ++ value_part s brought)
told s v brought old one two new said word is some e first second third =
    third
    ∙ ap (λ t. t ++ value_text s v) (second ∙ ap (λ t. t ++ codes " ") (first ∙ ap (λ t. old ++ t) e))
    ∙ append_assoc (old ++ word) (codes " ") (value_text s v)
    ∙ append_assoc old word (codes " " ++ value_text s v)
    ∙ ap (λ t. old ++ (word ++ t)) (sym (part_is s v some))
    ∙ ap (λ b. old ++ (word ++ value_part s b)) is

pub returns : goal.returns
returns c =
    let some = λ (e : c.replied_value-value.result ≡ value.Nothing). let same : true ≡ false = sym (rw e at c.if-eq.ensures) in true≢false same in
    on_ok_weaker c.push_value.result
    (told c.args.scripts.now c.replied_value-value.result _ _ _ _ _ _ _ c.replied_value-value.ensures some (c.as_bytes.ensures.value ∙ c.end_word.ensures) c.in_ok-extend_from_slice.ensures.items
    c.in_ok-extend_from_slice-2.ensures.items)
    c.push_value.ensures

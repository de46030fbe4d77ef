-- Texts that are written in chunks, from one write to the next.
use Rattle.std.proofs.Common.{◌≡◌, ◌∙◌, ap, sym, ℕ, ◌+◌, ◌<◌, List, [], ◌++◌, take, length, Option, append-nil, length-append, arith, subst}
use Rattle.std.proofs.Math.Seq.{take-append-add}
use Rattle.std.specs.Io.KnownBytes.{Appends}
use Rattle.std.proofs.KnownBytes.{Appends-trans}
use Rattle.wire_words.specs.declared.chunks.Chunk.{Chunk}
use Rattle.wire_words.specs.Chunks.{StaysOnItsWay, IsCutOff}

-- what waited went out
pub went_out : (old new : Option (List ℕ)) (before after : Chunk) (shown : List ℕ) → shown ≡ before.waiting.items → Appends old new shown → after.waiting.items ≡ [] →
    after.gone ≡ before.gone + length before.waiting.items
    → StaysOnItsWay old new before after
went_out old new before after shown is out empty count start text way = record {
  front = way.front ++ before.waiting.items;
  went = Appends-trans start old new way.front before.waiting.items way.went (subst (λ t. Appends old new t) is out);
  counted = count ∙ ap (λ n. n + length before.waiting.items) way.counted ∙ sym (length-append way.front before.waiting.items);
  whole = way.whole ∙ sym (append-nil (way.front ++ before.waiting.items)) ∙ ap (λ t. (way.front ++ before.waiting.items) ++ t) (sym empty);
}

-- a front of what waited went out
pub cut_off : (old new : Option (List ℕ)) (before : Chunk) (shown : List ℕ) (n : ℕ) → shown ≡ before.waiting.items → n < length shown → Appends old new (take n shown) →
    IsCutOff old new before (before.gone + n)
cut_off old new before shown n is short out start text way =
    let appended : Appends old new (take n before.waiting.items) = subst (λ t. Appends old new (take n t)) is out in
    let cut : take (before.gone + n) text ≡ way.front ++ take n before.waiting.items =
    (λ i. take (way.counted i + n) (way.whole i)) ∙ take-append-add way.front before.waiting.items n in
    let less : before.gone + n < length text = omega (arith, way.counted, ap length is, ap length way.whole, length-append way.front before.waiting.items) in
    (less, subst (λ t. Appends start new t) (sym cut) (Appends-trans start old new way.front (take n before.waiting.items) way.went appended))

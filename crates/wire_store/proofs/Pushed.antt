-- A put keeps the index.
use Rattle.std.proofs.Common.{◌≡◌, ◌∙◌, ℕ, suc, ◌<◌, ◌≤◌, false, List, [], ◌∷◌, ◌++◌, length, cond, is_some, nat_eq, Option, Some, None, option_map, inl, inr, refl, sym, ap, subst, arith}
use Rattle.std.proofs.Common.{length-append}
use Rattle.std.proofs.lemmas.Bool.{le-ltb, true≢false}
use Rattle.std.proofs.lemmas.Option.{slice_get_within}
use Rattle.wire_runs.proofs.Lists.{slice_get-append_left, slice_get_push_last, slice_get_push_cases}
use Rattle.wire_store.specs.declared.chain.Slot.{Slot}
use Rattle.wire_store.specs.Slots.{last_slot_with, last_slot, IsNamed, IsSlotIndex}
use Rattle.wire_store.proofs.Linked.{last_slot_same}

-- an old slot of the chain
chained_old : (slots : List Slot) (slot : Slot) (i : ℕ) (x : Slot) → IsNamed slots i x → i < length slots →
    ((key n : ℕ) → n ≤ length slots → last_slot (slots ++ slot ∷ []) key n ≡ last_slot slots key n) → IsNamed (slots ++ slot ∷ []) i x
chained_old slots slot i x named within same =
    let below = named.below in
    record {
      among = named.among;
      below = named.below;
      names = named.names ∙ sym (same x.key named.among (omega (arith, below, within)));
      together = λ j other is high low. elim (slice_get_push_cases slots slot j other is) [
        | inl old ↦ named.together j other old high low
        | inr here ↦ let last = here.0 in absurd (omega (arith, last, low, within))
      ];
    }

not_stored : (o : Option ℕ) → is_some o ≡ false → o ≡ None
not_stored None h = refl
not_stored (Some commit) h = absurd (true≢false h)

-- and the new one
chained_new : (slots : List Slot) (slot : Slot) (committed i : ℕ) (x : Slot) {before : ℕ → Option ℕ} → IsSlotIndex slots committed before → slot.stored_by ≡ None →
    slot.stored_before ≡ last_slot slots slot.key committed → i ≡ length slots → slot ≡ x → last_slot (slots ++ slot ∷ []) slot.key committed ≡ last_slot slots slot.key committed →
    IsNamed (slots ++ slot ∷ []) i x
chained_new slots slot committed i x index none previous last same same_last =
    let within = index.within in
    record {
      among = committed;
      below = omega (arith, within, last);
      names = ap (λ s. s.stored_before) (sym same) ∙ previous ∙ sym same_last ∙ ap (λ k. last_slot (slots ++ slot ∷ []) k committed) (ap (λ s. s.key) same);
      together = λ j other is high low. elim (slice_get_push_cases slots slot j other is) [
        | inl old ↦ not_stored other.stored_by (index.stored j other old ∙ le-ltb j committed high) ∙ sym none ∙ ap (λ s. s.stored_by) same
        | inr here ↦ ap (λ s. s.stored_by) (sym here.1) ∙ ap (λ s. s.stored_by) same
      ];
    }

-- a slot more
pub indexed_push : (slots : List Slot) (committed : ℕ) (before after : ℕ → Option ℕ) (slot : Slot) → IsSlotIndex slots committed before → slot.stored_by ≡ None →
    slot.stored_before ≡ last_slot slots slot.key committed → ((key : ℕ) → after key ≡ cond (nat_eq slot.key key) (Some (length slots)) (before key)) → IsSlotIndex (slots ++ slot ∷ []) committed after
indexed_push slots committed before after slot index none previous puts =
    let low_same : (key n : ℕ) → n ≤ length slots → last_slot (slots ++ slot ∷ []) key n ≡ last_slot slots key n =
    λ key n le. last_slot_same (slots ++ slot ∷ []) slots key n (λ i low. ap (option_map (λ s. s.key)) (slice_get-append_left slots (slot ∷ []) i (omega (arith, low, le))))
    in
    let one_more : length (slots ++ slot ∷ []) ≡ suc (length slots) = omega (arith, length-append slots (slot ∷ [])) in
    record {
      within = let was = index.within in omega (arith, was, one_more);
      stored = λ i x is. elim (slice_get_push_cases slots slot i x is) [
        | inl old ↦ index.stored i x old
        | inr here ↦
            let within = index.within in
            let last = here.0 in
            ap (λ s. is_some s.stored_by) (sym here.1) ∙ ap is_some none ∙ sym (le-ltb i committed (omega (arith, within, last)))
      ];
      newest = λ key.
          puts key
          ∙ ap (cond (nat_eq slot.key key) (Some (length slots))) (index.newest key ∙ sym (low_same key (length slots) (omega arith)))
          ∙ sym (ap (last_slot_with key (length slots) (last_slot (slots ++ slot ∷ []) key (length slots))) (slice_get_push_last slots slot))
          ∙ ap (last_slot (slots ++ slot ∷ []) key) (sym one_more);
      linked = λ i x is high. elim (slice_get_push_cases slots slot i x is) [
        | inl old ↦ index.linked i x old high ∙ sym (low_same x.key committed index.within)
        | inr here ↦
            ap (λ s. s.stored_before) (sym here.1) ∙ previous
            ∙ sym (low_same slot.key committed index.within)
            ∙ ap (λ k. last_slot (slots ++ slot ∷ []) k committed) (ap (λ s. s.key) here.1)
      ];
      chained = λ i x is. elim (slice_get_push_cases slots slot i x is) [
        | inl old ↦ chained_old slots slot i x (index.chained i x old) (slice_get_within slots i x old) (λ key n le. low_same key n le)
        | inr here ↦ chained_new slots slot committed i x index none previous here.0 here.1 (low_same slot.key committed index.within)
      ];
    }

-- what `put` leaves
pub put_index : (slots new : List Slot) (committed n : ℕ) (before after : ℕ → Option ℕ) (slot : Slot) → new ≡ slots ++ slot ∷ [] → n ≡ length slots → IsSlotIndex slots committed before →
    slot.stored_by ≡ None → slot.stored_before ≡ last_slot slots slot.key committed → ((key : ℕ) → after key ≡ cond (nat_eq slot.key key) (Some n) (before key)) → IsSlotIndex new committed after
put_index slots new committed n before after slot new_is n_is index none previous puts =
    subst (λ xs. IsSlotIndex xs committed after) (sym new_is)
    (indexed_push slots committed before after slot index none previous (λ key. puts key ∙ ap (λ m. cond (nat_eq slot.key key) (Some m) (before key)) n_is))

-- A commit stores all puts and keeps the index.
use Rattle.std.proofs.Common.{◌≡◌, ◌∙◌, ℕ, zero, suc, ◌<◌, ◌≤◌, true, false, List, [], ◌∷◌, ◌++◌, map, take, drop, length, is_some, nat_lt, Option, Some, None, option_map, slice_get, inl, inr, refl}
use Rattle.std.proofs.Common.{sym, ap, subst, arith, length-drop, ◌-◌}
use Rattle.std.proofs.lemmas.Bool.{cases_lt, true≢false, le-ltb, lt-ltb}
use Rattle.std.proofs.lemmas.Option.{none-some, same_Some, slice_get-map, slice_get_within}
use Rattle.std.proofs.lemmas.List.{length-map, take_all, drop_all, append-nil, take-append-le}
use Rattle.wire_store.specs.declared.chain.Slot.{Slot}
use Rattle.wire_store.specs.Kept.{first_commit, store_by}
use Rattle.wire_store.specs.Slots.{put_in, store_slot, last_slot, IsStoredTo, IsNamed, IsSlotIndex}
use Rattle.wire_store.proofs.Elements.{slice_get_same}
use Rattle.wire_store.proofs.Linked.{last_slot_same}

-- a commit
abbrev pub stored_from : ℕ → ℕ → List Slot → List Slot
stored_from committed at slots = take committed slots ++ map (store_slot at) (drop committed slots)

stored_from_low : (slots : List Slot) (committed at i : ℕ) → i < committed → slice_get (stored_from committed at slots) i ≡ slice_get slots i
stored_from_low [] zero at i low = absurd (omega (arith, low))
stored_from_low [] (suc m) at i low = refl
stored_from_low (x ∷ xs) zero at i low = absurd (omega (arith, low))
stored_from_low (x ∷ xs) (suc m) at zero low = refl
stored_from_low (x ∷ xs) (suc m) at (suc i) low = stored_from_low xs m at i (omega (arith, low))

stored_from_high : (slots : List Slot) (committed at i : ℕ) → committed ≤ i → slice_get (stored_from committed at slots) i ≡ option_map (store_slot at) (slice_get slots i)
stored_from_high [] zero at i high = refl
stored_from_high [] (suc m) at i high = refl
stored_from_high (x ∷ xs) zero at i high = slice_get-map (store_slot at) (x ∷ xs) i
stored_from_high (x ∷ xs) (suc m) at zero high = absurd (omega (arith, high))
stored_from_high (x ∷ xs) (suc m) at (suc i) high = stored_from_high xs m at i (omega (arith, high))

pub length-stored_from : (slots : List Slot) (committed at : ℕ) → length (stored_from committed at slots) ≡ length slots
length-stored_from [] zero at = refl
length-stored_from [] (suc m) at = refl
length-stored_from (x ∷ xs) zero at = length-map (x ∷ xs) (store_slot at)
length-stored_from (x ∷ xs) (suc m) at = ap suc (length-stored_from xs m at)

first_commit_kept : (o : Option ℕ) (at : ℕ) → is_some o ≡ true → first_commit o at ≡ o
first_commit_kept None at h = absurd (true≢false (sym h))
first_commit_kept (Some earlier) at h = refl

first_commit_new : (o : Option ℕ) (at : ℕ) → is_some o ≡ false → first_commit o at ≡ Some at
first_commit_new None at h = refl
first_commit_new (Some earlier) at h = absurd (true≢false h)

-- what a slot of the new list comes from
record ComesFrom (slots : List Slot) (at i : ℕ) (now : Slot) : Type 0 where
  pub was : Slot
  pub there : slice_get slots i ≡ Some was
  pub put : put_in now ≡ store_by at (put_in was)
  pub key : now.key ≡ was.key
  pub stored : is_some now.stored_by ≡ true

comes_from : (slots : List Slot) (committed at i : ℕ) (now : Slot) → IsStoredTo slots committed → slice_get (stored_from committed at slots) i ≡ Some now → ComesFrom slots at i now
comes_from slots committed at i now stored is = elim (cases_lt i committed) [
  | inl low ↦
      let there = sym (stored_from_low slots committed at i low) ∙ is in
      let has : is_some now.stored_by ≡ true = stored i now there ∙ lt-ltb i committed low in
      record {
        was = now;
        there = there;
        put = ap (λ o. record (put_in now) { stored_by = o }) (sym (first_commit_kept now.stored_by at has));
        key = refl;
        stored = has;
      }
  | inr high ↦ go (slice_get slots i) refl high (sym (stored_from_high slots committed at i high) ∙ is)
]
  where
    go : (o : Option Slot) → slice_get slots i ≡ o → committed ≤ i → option_map (store_slot at) o ≡ Some now → ComesFrom slots at i now
    go None e high h = absurd (none-some now h)
    go (Some was) e high h =
        let made : store_slot at was ≡ now = same_Some (store_slot at was) now h in
        let new = first_commit_new was.stored_by at (stored i was e ∙ le-ltb i committed high) in
        record {
          was = was;
          there = e;
          put = ap put_in (sym made) ∙ ap (λ o. record (put_in was) { stored_by = o }) (sym new);
          key = ap (λ s. s.key) (sym made);
          stored = ap (λ s. is_some s.stored_by) (sym made);
        }

-- a commit changes no key
same_keys : (slots : List Slot) (committed at i : ℕ) → option_map (λ slot. slot.key) (slice_get (stored_from committed at slots) i) ≡ option_map (λ slot. slot.key) (slice_get slots i)
same_keys slots committed at i = elim (cases_lt i committed) [
  | inl low ↦ ap (option_map (λ slot. slot.key)) (stored_from_low slots committed at i low)
  | inr high ↦ ap (option_map (λ slot. slot.key)) (stored_from_high slots committed at i high) ∙ go (slice_get slots i)
]
  where
    go : (o : Option Slot) → option_map (λ slot. slot.key) (option_map (store_slot at) o) ≡ option_map (λ slot. slot.key) o
    go None = refl
    go (Some slot) = refl

-- what a slot was before
was_before : (slots : List Slot) (committed at i : ℕ) (now : Slot) → slice_get (stored_from committed at slots) i ≡ Some now → (was : Slot) × (slice_get slots i ≡ Some was) × (now.key ≡ was.key)
    × (now.stored_before ≡ was.stored_before) × (i < committed → now.stored_by ≡ was.stored_by) × (committed ≤ i → now.stored_by ≡ Some at)
was_before slots committed at i now is = elim (cases_lt i committed) [
  | inl low ↦ (now, sym (stored_from_low slots committed at i low) ∙ is, refl, refl, λ _. refl, λ high. absurd (omega (arith, low, high)))
  | inr high ↦ go (slice_get slots i) refl high (sym (stored_from_high slots committed at i high) ∙ is)
]
  where
    go : (o : Option Slot) → slice_get slots i ≡ o → committed ≤ i → option_map (store_slot at) o ≡ Some now → (was : Slot) × (slice_get slots i ≡ Some was) × (now.key ≡ was.key)
        × (now.stored_before ≡ was.stored_before) × (i < committed → now.stored_by ≡ was.stored_by) × (committed ≤ i → now.stored_by ≡ Some at)
    go None e high h = absurd (none-some now h)
    go (Some was) e high h =
        let made : store_slot at was ≡ now = same_Some (store_slot at was) now h in (
          was,
          e,
          ap (λ s. s.key) (sym made),
          ap (λ s. s.stored_before) (sym made),
          λ low. absurd (omega (arith, low, high)),
          λ _. ap (λ s. s.stored_by) (sym made),
        )

is_low : (o : Option ℕ) (i j committed : ℕ) → is_some o ≡ nat_lt i committed → is_some o ≡ nat_lt j committed → committed ≤ i → committed ≤ j
is_low o i j committed at_i at_j high = elim (cases_lt j committed) [
  | inl low ↦ absurd (true≢false (sym (at_j ∙ lt-ltb j committed low) ∙ at_i ∙ le-ltb i committed high))
  | inr le ↦ le
]

chained_commit : (slots : List Slot) (committed at i : ℕ) (now : Slot) {number_of : ℕ → Option ℕ} → IsSlotIndex slots committed number_of →
    ((key n : ℕ) → last_slot (stored_from committed at slots) key n ≡ last_slot slots key n) → slice_get (stored_from committed at slots) i ≡ Some now → IsNamed (stored_from committed at slots) i now
chained_commit slots committed at i now index same is =
    let was = was_before slots committed at i now is in
    let named = index.chained i was.0 was.1 in
    record {
      among = named.among;
      below = named.below;
      names = was.3 ∙ named.names ∙ ap (λ k. last_slot slots k named.among) (sym was.2) ∙ sym (same now.key named.among);
      together = λ j other there high low.
          let old = was_before slots committed at j other there in
          let alike : old.0.stored_by ≡ was.0.stored_by = named.together j old.0 old.1 high low in
          elim (cases_lt i committed) [
            | inl below ↦ old.4 (omega (arith, below, low)) ∙ alike ∙ sym (was.4 below)
            | inr above ↦ old.5 (is_low was.0.stored_by i j committed (index.stored i was.0 was.1) (ap is_some (sym alike) ∙ index.stored j old.0 old.1) above) ∙ sym (was.5 above)
          ];
    }

pub indexed_commit : (slots : List Slot) (committed at : ℕ) (number_of : ℕ → Option ℕ) → IsSlotIndex slots committed number_of → IsSlotIndex (stored_from committed at slots) (length slots) number_of
indexed_commit slots committed at number_of index =
    let new = stored_from committed at slots in
    let same : (key n : ℕ) → last_slot new key n ≡ last_slot slots key n = λ key n. last_slot_same new slots key n (λ i low. same_keys slots committed at i) in
    let len = length-stored_from slots committed at in
    record {
      within = omega (arith, len);
      stored = λ i now is.
          let low = slice_get_within new i now is in
          (comes_from slots committed at i now index.stored is).stored ∙ sym (lt-ltb i (length slots) (omega (arith, low, len)));
      newest = λ key. index.newest key ∙ sym (same key (length slots)) ∙ ap (last_slot new key) (sym len);
      linked = λ i now is high. let low = slice_get_within new i now is in absurd (omega (arith, low, len, high));
      chained = λ i now is. chained_commit slots committed at i now index same is;
    }

pub puts_commit : (slots : List Slot) (committed at : ℕ) → IsStoredTo slots committed → map put_in (stored_from committed at slots) ≡ map (store_by at) (map put_in slots)
puts_commit slots committed at stored = slice_get_same (map put_in (stored_from committed at slots)) (map (store_by at) (map put_in slots)) (λ i.
    slice_get-map put_in (stored_from committed at slots) i
    ∙ at_each i
    ∙ sym (ap (option_map (store_by at)) (slice_get-map put_in slots i))
    ∙ sym (slice_get-map (store_by at) (map put_in slots) i))
  where
    at_each : (i : ℕ) → option_map put_in (slice_get (stored_from committed at slots) i) ≡ option_map (store_by at) (option_map put_in (slice_get slots i))
    at_each i = go (slice_get (stored_from committed at slots) i) refl
      where
        missing : (o : Option Slot) → option_map (λ slot. slot.key) o ≡ None → o ≡ None
        missing None h = refl
        missing (Some slot) h = absurd (none-some slot.key (sym h))

        go : (o : Option Slot) → slice_get (stored_from committed at slots) i ≡ o → option_map put_in o ≡ option_map (store_by at) (option_map put_in (slice_get slots i))
        go None e =
            let none : slice_get slots i ≡ None = missing (slice_get slots i) (sym (same_keys slots committed at i) ∙ ap (option_map (λ slot. slot.key)) e) in
            sym (ap (λ o. option_map (store_by at) (option_map put_in o)) none)
        go (Some now) e =
            let from = comes_from slots committed at i now stored e in
            ap Some from.put ∙ sym (ap (λ o. option_map (store_by at) (option_map put_in o)) from.there)

-- what `commit` writes back is what a commit stores
module _ (at : ℕ) (slots part new rest : List Slot) (committed n : ℕ) (here : part ≡ slots) (n_is : n ≡ length slots) (within : committed ≤ length slots)
    (new_is : new ≡ map (store_slot at) (take (length part - committed) (drop committed part))) where
  written : take n ((take committed part ++ (new ++ drop (length part - committed) (drop committed part))) ++ rest) ≡ stored_from committed at slots
  written =
      let left = length part - committed in
      let all : take left (drop committed part) ≡ drop committed part = take_all left (drop committed part) (omega (arith, length-drop committed part)) in
      let none : drop left (drop committed part) ≡ [] = drop_all left (drop committed part) (omega (arith, length-drop committed part)) in
      let marked : new ≡ map (store_slot at) (drop committed slots) = new_is ∙ ap (map (store_slot at)) all ∙ ap (λ xs. map (store_slot at) (drop committed xs)) here in
      let len = length-stored_from slots committed at in
      let whole : take committed part ++ (new ++ drop left (drop committed part)) ≡ stored_from committed at slots =
      ap (λ xs. take committed part ++ (xs ++ drop left (drop committed part))) marked
      ∙ ap (λ xs. take committed part ++ (map (store_slot at) (drop committed slots) ++ xs)) none
      ∙ ap (λ xs. take committed part ++ xs) (append-nil (map (store_slot at) (drop committed slots)))
      ∙ ap (λ xs. take committed xs ++ map (store_slot at) (drop committed slots)) here
      in
      ap (λ xs. take n (xs ++ rest)) whole
      ∙ take-append-le n (stored_from committed at slots) rest (omega (arith, len, n_is))
      ∙ take_all n (stored_from committed at slots) (omega (arith, len, n_is))

  pub committed_index : (number_of : ℕ → Option ℕ) (len : ℕ) → IsSlotIndex slots committed number_of → len ≡ n →
      IsSlotIndex (take n ((take committed part ++ (new ++ drop (length part - committed) (drop committed part))) ++ rest)) len number_of
  committed_index number_of len index is =
      subst (λ xs. IsSlotIndex xs len number_of) (sym written)
      (subst (λ m. IsSlotIndex (stored_from committed at slots) m number_of) (sym (is ∙ n_is)) (indexed_commit slots committed at number_of index))

  pub committed_puts : IsStoredTo slots committed →
      map put_in (take n ((take committed part ++ (new ++ drop (length part - committed) (drop committed part))) ++ rest)) ≡ map (store_by at) (map put_in slots)
  committed_puts stored = ap (map put_in) written ∙ puts_commit slots committed at stored

-- What is found in the slots is the last put of the key.
use Rattle.std.proofs.Common.{◌≡◌, ◌∙◌, ℕ, zero, suc, ◌<◌, ◌≤◌, Bool, true, false, List, [], ◌∷◌, map, take, length, reverse, find, cond, ◌&&◌, ◌==◌, is_some, Option, Some, None, option_map}
use Rattle.std.proofs.Common.{slice_get, get_or, inl, inr, refl, sym, ap, arith}
use Rattle.std.proofs.lemmas.Bool.{cases_Bool, cases_eq, le-ltb, lt-ltb}
use Rattle.std.proofs.lemmas.Option.{slice_get-map, slice_get-get_or}
use Rattle.std.proofs.lemmas.List.{reverse-append, length-map, take_all}
use Rattle.std.proofs.Math.Bool.{and-true, and-false}
use Rattle.wire_runs.specs.Plan.{admits}
use Rattle.wire_runs.proofs.Lists.{take_get}
use Rattle.wire_store.specs.declared.chain.Slot.{Slot}
use Rattle.wire_store.specs.declared.seen.Seen.TheVariants.{Value, Outside}
use Rattle.wire_store.specs.Kept.{KeptPut, last_put, last_stored, seen}
use Rattle.wire_store.specs.Slots.{put_in, put_at, last_slot_with, last_slot, IsStoredTo, IsSlotIndex}
use Rattle.wire_store.proofs.Elements.{missing_within}
use Rattle.wire_store.proofs.Linked.{last_slot_below}

find_back : (test : KeptPut → Bool) (slots : List Slot) (key n : ℕ) → ((i : ℕ) (slot : Slot) → i < n → slice_get slots i ≡ Some slot → test (put_in slot) ≡ (slot.key == key)) → n ≤ length slots →
    find test (reverse (take n (map put_in slots))) ≡ put_at slots (last_slot slots key n)
find_back test slots key zero same le = refl
find_back test slots key (suc n) same le =
    go (slice_get slots n) refl (find_back test slots key n (λ i slot low. same i slot (omega (arith, low))) (omega (arith, le)))
  where
    go : (o : Option Slot) → slice_get slots n ≡ o → find test (reverse (take n (map put_in slots))) ≡ put_at slots (last_slot slots key n) →
        find test (reverse (take (suc n) (map put_in slots))) ≡ put_at slots (last_slot_with key n (last_slot slots key n) o)
    go None e ih = absurd (missing_within slots n e (omega (arith, le)))
    go (Some slot) e ih =
        ap (λ xs. find test (reverse xs)) (take_get (map put_in slots) n (put_in slot) (slice_get-map put_in slots n ∙ ap (option_map put_in) e))
        ∙ ap (find test) (reverse-append (take n (map put_in slots)) (put_in slot ∷ []))
        ∙ ap (λ b. cond b (Some (put_in slot)) (find test (reverse (take n (map put_in slots))))) (same n slot (omega arith) e)
        ∙ elim (cases_Bool (slot.key == key)) [
          | inl t ↦ rw t (sym (ap (option_map put_in) e))
          | inr f ↦ rw f ih
        ]

-- slots that fail the test don't matter
pub find_front : (test : KeptPut → Bool) (slots : List Slot) (m n : ℕ) → ((i : ℕ) (slot : Slot) → m ≤ i → i < n → slice_get slots i ≡ Some slot → test (put_in slot) ≡ false) → m ≤ n →
    n ≤ length slots → find test (reverse (take n (map put_in slots))) ≡ find test (reverse (take m (map put_in slots)))
find_front test slots m zero fails below le = let e : m ≡ 0 = omega (arith, below) in ap (λ k. find test (reverse (take k (map put_in slots)))) (sym e)
find_front test slots m (suc n) fails below le = elim (cases_eq m (suc n)) [
  | inl e ↦ ap (λ k. find test (reverse (take k (map put_in slots)))) (sym e)
  | inr ne ↦ go (slice_get slots n) refl (omega (arith, below, ne)) (find_front test slots m n (λ i slot high low. fails i slot high (omega (arith, low))) (omega (arith, below, ne))
      (omega (arith, le)))
]
  where
    go : (o : Option Slot) → slice_get slots n ≡ o → m ≤ n → find test (reverse (take n (map put_in slots))) ≡ find test (reverse (take m (map put_in slots))) →
        find test (reverse (take (suc n) (map put_in slots))) ≡ find test (reverse (take m (map put_in slots)))
    go None e high ih = absurd (missing_within slots n e (omega (arith, le)))
    go (Some slot) e high ih =
        ap (λ xs. find test (reverse xs)) (take_get (map put_in slots) n (put_in slot) (slice_get-map put_in slots n ∙ ap (option_map put_in) e))
        ∙ ap (find test) (reverse-append (take n (map put_in slots)) (put_in slot ∷ []))
        ∙ ap (λ b. cond b (Some (put_in slot)) (find test (reverse (take n (map put_in slots))))) (fails n slot high (omega arith) e)
        ∙ ih

-- the last put of a key is in the last slot of the key
pub last_put_in : (slots : List Slot) (key : ℕ) → last_put key (map put_in slots) ≡ put_at slots (last_slot slots key (length slots))
last_put_in slots key =
    ap (λ xs. find (λ p. p.key == key) (reverse xs)) (sym (take_all (length slots) (map put_in slots) (let len = length-map slots put_in in omega (arith, len))))
    ∙ find_back (λ p. p.key == key) slots key (length slots) (λ i slot low is. refl) (omega arith)

-- the last stored put of a key is in the last slot of the key that is stored
pub last_stored_in : (slots : List Slot) (key committed : ℕ) → IsStoredTo slots committed → committed ≤ length slots → last_stored key (map put_in slots) ≡ put_at slots (last_slot slots key committed)
last_stored_in slots key committed stored within =
    let test : KeptPut → Bool = λ p. p.key == key && is_some p.stored_by in
    ap (λ xs. find test (reverse xs)) (sym (take_all (length slots) (map put_in slots) (let len = length-map slots put_in in omega (arith, len))))
    ∙ find_front test slots committed (length slots)
    (λ i slot high low is. ap (λ b. slot.key == key && b) (stored i slot is ∙ le-ltb i committed high) ∙ and-false (slot.key == key))
    within (omega arith)
    ∙ find_back test slots key committed
    (λ i slot low is. ap (λ b. slot.key == key && b) (stored i slot is ∙ lt-ltb i committed low) ∙ and-true (slot.key == key))
    within

-- what is looked up
pub newest_within : (slots : List Slot) (committed : ℕ) (number_of : ℕ → Option ℕ) (key i : ℕ) → IsSlotIndex slots committed number_of → Some i ≡ number_of key → i < length slots
newest_within slots committed number_of key i index is = last_slot_below slots key (length slots) i (sym (is ∙ index.newest key))

pub own_put_in : (slots : List Slot) (committed : ℕ) (number_of : ℕ → Option ℕ) (key i : ℕ) (slot : Slot) → IsSlotIndex slots committed number_of → Some i ≡ number_of key →
    slot ≡ get_or slots i slot → last_put key (map put_in slots) ≡ Some (put_in slot)
own_put_in slots committed number_of key i slot index is read =
    last_put_in slots key
    ∙ ap (put_at slots) (sym (is ∙ index.newest key))
    ∙ ap (option_map put_in) (slice_get-get_or slots i slot (newest_within slots committed number_of key i index is))
    ∙ ap (λ s. Some (put_in s)) (sym read)

pub own_nothing : (slots : List Slot) (committed : ℕ) (number_of : ℕ → Option ℕ) (key : ℕ) → IsSlotIndex slots committed number_of → None ≡ number_of key → last_put key (map put_in slots) ≡ None
own_nothing slots committed number_of key index is = last_put_in slots key ∙ ap (put_at slots) (sym (is ∙ index.newest key))

pub stored_put_in : (slots : List Slot) (committed : ℕ) (number_of : ℕ → Option ℕ) (key i : ℕ) (slot : Slot) → IsSlotIndex slots committed number_of → Some i ≡ last_slot slots key committed →
    slot ≡ get_or slots i slot → last_stored key (map put_in slots) ≡ Some (put_in slot)
stored_put_in slots committed number_of key i slot index is read =
    let low = last_slot_below slots key committed i (sym is) in
    let within = index.within in
    last_stored_in slots key committed index.stored index.within
    ∙ ap (put_at slots) (sym is)
    ∙ ap (option_map put_in) (slice_get-get_or slots i slot (omega (arith, low, within)))
    ∙ ap (λ s. Some (put_in s)) (sym read)

pub stored_within : (slots : List Slot) (committed : ℕ) (number_of : ℕ → Option ℕ) (key i : ℕ) → IsSlotIndex slots committed number_of → Some i ≡ last_slot slots key committed → i < length slots
stored_within slots committed number_of key i index is =
    let low = last_slot_below slots key committed i (sym is) in
    let within = index.within in
    omega (arith, low, within)

pub stored_nothing : (slots : List Slot) (committed : ℕ) (number_of : ℕ → Option ℕ) (key : ℕ) → IsSlotIndex slots committed number_of → None ≡ last_slot slots key committed →
    last_stored key (map put_in slots) ≡ None
stored_nothing slots committed number_of key index is = last_stored_in slots key committed index.stored index.within ∙ ap (put_at slots) (sym is)

-- what `seen_from` finds
pub last_is : (slots part : List Slot) (key committed : ℕ) (newest last : Option ℕ) (number_of : ℕ → Option ℕ) → part ≡ slots → IsSlotIndex slots committed number_of → newest ≡ number_of key →
    ((k : ℕ) → newest ≡ last_slot part k (length part) → last ≡ last_slot part k committed) → last ≡ last_slot slots key committed
last_is slots part key committed newest last number_of here index is found =
    found key (is ∙ index.newest key ∙ ap (λ xs. last_slot xs key (length xs)) (sym here)) ∙ ap (λ xs. last_slot xs key committed) here

pub seen_value : (same : Bool) (last : Option KeptPut) (put : KeptPut) → last ≡ Some put → true ≡ admits put.scope same → Value put.call ≡ seen same last
seen_value same last put is admitted = sym (ap (seen same) is ∙ ap (λ b. cond b (Value put.call) Outside) (sym admitted))

pub seen_outside : (same : Bool) (last : Option KeptPut) (put : KeptPut) → last ≡ Some put → false ≡ admits put.scope same → Outside ≡ seen same last
seen_outside same last put is refused = sym (ap (seen same) is ∙ ap (λ b. cond b (Value put.call) Outside) (sym refused))

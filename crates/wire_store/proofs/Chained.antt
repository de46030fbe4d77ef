-- What a walk back over the slots of a key finds.
use Rattle.std.proofs.Common.{◌≡◌, ◌∙◌, ℕ, zero, suc, ◌<◌, ◌≤◌, true, false, List, [], ◌∷◌, map, take, length, reverse, find, ◌&&◌, ◌==◌, is_some, Option, Some, None, option_map, slice_get}
use Rattle.std.proofs.Common.{inl, inr, refl, sym, ap, arith}
use Rattle.std.proofs.lemmas.Bool.{cases_Bool, cases_eq, le-ltb, true≢false, eq-eqb}
use Rattle.std.proofs.lemmas.Option.{none-some, same_Some, slice_get-map, slice_get_within}
use Rattle.std.proofs.lemmas.List.{reverse-append, length-map, take_all}
use Rattle.std.proofs.Math.Bool.{and-false}
use Rattle.wire_runs.proofs.Lists.{take_get}
use Rattle.wire_store.specs.declared.chain.Slot.{Slot}
use Rattle.wire_store.specs.Kept.{KeptPut, is_stored_before, last_stored_before}
use Rattle.wire_store.specs.Slots.{put_in, put_at, last_slot_with, last_slot, IsStoredTo, IsNamed, IsChained}
use Rattle.wire_store.proofs.Linked.{last_slot_below, last_slot_there}
use Rattle.wire_store.proofs.Found.{find_front}

-- what is found among the first slots
abbrev pub found_before : List Slot → ℕ → ℕ → ℕ → Option KeptPut
found_before slots key event n = last_stored_before key event (take n (map put_in slots))

-- from the last slot of the key on none is of the key
not_of_key : (slots : List Slot) (key n low : ℕ) → ((i : ℕ) → last_slot slots key n ≡ Some i → i < low) → (j : ℕ) (slot : Slot) → low ≤ j → j < n → slice_get slots j ≡ Some slot →
    (slot.key == key) ≡ false
not_of_key slots key zero low last j slot high below is = absurd (omega (arith, below))
not_of_key slots key (suc n) low last j slot high below is = go (slice_get slots n) refl last (λ was low_j. not_of_key slots key n low was j slot high low_j is)
  where
    go : (o : Option Slot) → slice_get slots n ≡ o → ((i : ℕ) → last_slot_with key n (last_slot slots key n) o ≡ Some i → i < low) →
        (((i : ℕ) → last_slot slots key n ≡ Some i → i < low) → j < n → (slot.key == key) ≡ false) → (slot.key == key) ≡ false
    go None e last ih = elim (cases_eq j n) [
      | inl here ↦ absurd (none-some slot (sym e ∙ ap (slice_get slots) (sym here) ∙ is))
      | inr ne ↦ ih last (omega (arith, below, ne))
    ]
    go (Some at_n) e last ih = elim (cases_Bool (at_n.key == key)) [
      | inl t ↦ let low_n = last n (rw t refl) in absurd (omega (arith, low_n, high, below))
      | inr f ↦
          elim (cases_eq j n) [
            | inl here ↦ ap (λ s. s.key == key) (same_Some slot at_n (sym is ∙ ap (slice_get slots) here ∙ e)) ∙ f
            | inr ne ↦ ih (λ i was. last i (rw f was)) (omega (arith, below, ne))
          ]
    ]

none_of_key : (slots : List Slot) (key event n : ℕ) → n ≤ length slots → last_slot slots key n ≡ None → found_before slots key event n ≡ None
none_of_key slots key event n le none =
    find_front (λ put. put.key == key && is_stored_before event put.stored_by) slots 0 n
    (λ j slot high low is. ap (λ b. b && is_stored_before event slot.stored_by) (not_of_key slots key n 0 (λ i was. absurd (none-some i (sym none ∙ was))) j slot high low is))
    (omega arith) le

up_to_last : (slots : List Slot) (key event n i : ℕ) → n ≤ length slots → last_slot slots key n ≡ Some i → found_before slots key event n ≡ found_before slots key event (suc i)
up_to_last slots key event n i le is =
    let below = last_slot_below slots key n i is in
    find_front (λ put. put.key == key && is_stored_before event put.stored_by) slots (suc i) n
    (λ j slot high low there. ap (λ b. b && is_stored_before event slot.stored_by)
    (not_of_key slots key n (suc i) (λ k was. let same = same_Some i k (sym is ∙ was) in omega (arith, same)) j slot high low there))
    (omega (arith, below)) le

found_at : (slots : List Slot) (key event i : ℕ) (slot : Slot) → slice_get slots i ≡ Some slot → slot.key ≡ key → is_stored_before event slot.stored_by ≡ true →
    found_before slots key event (suc i) ≡ Some (put_in slot)
found_at slots key event i slot is of_key stored =
    ap (λ xs. find (λ put. put.key == key && is_stored_before event put.stored_by) (reverse xs))
    (take_get (map put_in slots) i (put_in slot) (slice_get-map put_in slots i ∙ ap (option_map put_in) is))
    ∙ ap (find (λ put. put.key == key && is_stored_before event put.stored_by)) (reverse-append (take i (map put_in slots)) (put_in slot ∷ []))
    ∙ rw (eq-eqb slot.key key of_key, stored) refl

-- the slots that the chain leaves out have the commit of the slot that it left
chained_back : (slots : List Slot) (key event i : ℕ) (slot : Slot) → slice_get slots i ≡ Some slot → is_stored_before event slot.stored_by ≡ false → (named : IsNamed slots i slot) →
    found_before slots key event (suc i) ≡ found_before slots key event named.among
chained_back slots key event i slot is later named =
    let within = slice_get_within slots i slot is in
    let below = named.below in
    find_front (λ put. put.key == key && is_stored_before event put.stored_by) slots named.among (suc i)
    (λ j other high low there.
    ap (λ o. other.key == key && is_stored_before event o) (named.together j other there high (omega (arith, low)))
    ∙ ap (λ b. other.key == key && b) later ∙ and-false (other.key == key))
    (omega (arith, below)) (omega (arith, within))

-- where a walk stands that began at the last of the first n slots
pub record StandsAt (slots : List Slot) (key event n : ℕ) (last : Option ℕ) : Type 0 where
  pub among : ℕ
  pub within : among ≤ length slots
  pub is : last ≡ last_slot slots key among
  pub found : found_before slots key event n ≡ found_before slots key event among

pub stands_first : (slots : List Slot) (key event n : ℕ) (last : Option ℕ) → n ≤ length slots → last ≡ last_slot slots key n → StandsAt slots key event n last
stands_first slots key event n last within is = record { among = n; within = within; is = is; found = refl }

pub stands_back : (slots : List Slot) (key event n i : ℕ) (slot : Slot) (next : Option ℕ) → IsChained slots → slice_get slots i ≡ Some slot → is_stored_before event slot.stored_by ≡ false →
    next ≡ slot.stored_before → StandsAt slots key event n (Some i) → StandsAt slots key event n next
stands_back slots key event n i slot next chained is later next_is stands =
    let named = chained i slot is in
    let below = named.below in
    let within = slice_get_within slots i slot is in
    let there = last_slot_there slots key stands.among i (sym stands.is) in
    let of_key : slot.key ≡ key = ap (λ s. s.key) (same_Some slot there.0 (sym is ∙ there.1)) ∙ there.2 in
    record {
      among = named.among;
      within = omega (arith, below, within);
      is = next_is ∙ named.names ∙ ap (λ k. last_slot slots k named.among) of_key;
      found = stands.found ∙ up_to_last slots key event stands.among i stands.within (sym stands.is) ∙ chained_back slots key event i slot is later named;
    }

pub stands_found : (slots : List Slot) (key event n i : ℕ) (slot : Slot) → slice_get slots i ≡ Some slot → is_stored_before event slot.stored_by ≡ true → StandsAt slots key event n (Some i) →
    put_at slots (Some i) ≡ found_before slots key event n
stands_found slots key event n i slot is stored stands =
    let there = last_slot_there slots key stands.among i (sym stands.is) in
    let of_key : slot.key ≡ key = ap (λ s. s.key) (same_Some slot there.0 (sym is ∙ there.1)) ∙ there.2 in
    ap (option_map put_in) is
    ∙ sym (stands.found ∙ up_to_last slots key event stands.among i stands.within (sym stands.is) ∙ found_at slots key event i slot is of_key stored)

pub stands_at_none : (slots : List Slot) (key event n : ℕ) → StandsAt slots key event n None → put_at slots None ≡ found_before slots key event n
stands_at_none slots key event n stands = sym (stands.found ∙ none_of_key slots key event stands.among stands.within (sym stands.is))

-- how far back a walk may go
abbrev pub steps_left : Option ℕ → ℕ
steps_left None = 0
steps_left (Some i) = suc i

-- the slot that the chain names is before its own
pub named_below : (slots : List Slot) (i j : ℕ) (slot : Slot) → IsChained slots → slice_get slots i ≡ Some slot → slot.stored_before ≡ Some j → j < i
named_below slots i j slot chained is next =
    let named = chained i slot is in
    let below = named.below in
    let low = last_slot_below slots slot.key named.among j (sym named.names ∙ next) in
    omega (arith, below, low)

pub fewer_left : (slots : List Slot) (i : ℕ) (slot : Slot) → IsChained slots → slice_get slots i ≡ Some slot → steps_left slot.stored_before < suc i
fewer_left slots i slot chained is = go slot.stored_before refl
  where
    go : (o : Option ℕ) → slot.stored_before ≡ o → steps_left o < suc i
    go None e = omega arith
    go (Some j) e = let low = named_below slots i j slot chained is e in omega (arith, low)

pub names_within : (slots : List Slot) (i j : ℕ) (slot : Slot) → IsChained slots → slice_get slots i ≡ Some slot → slot.stored_before ≡ Some j → j < length slots
names_within slots i j slot chained is next =
    let low = named_below slots i j slot chained is next in
    let within = slice_get_within slots i slot is in
    omega (arith, low, within)

-- what isn't stored was stored before no event
not_stored : (event : ℕ) (o : Option ℕ) → is_some o ≡ false → is_stored_before event o ≡ false
not_stored event None h = refl
not_stored event (Some commit) h = absurd (true≢false h)

pub found_stored : (slots : List Slot) (key event committed : ℕ) → IsStoredTo slots committed → committed ≤ length slots →
    found_before slots key event committed ≡ last_stored_before key event (map put_in slots)
found_stored slots key event committed stored within =
    sym (
    find_front (λ put. put.key == key && is_stored_before event put.stored_by) slots committed (length slots)
    (λ i slot high low is. ap (λ b. slot.key == key && b) (not_stored event slot.stored_by (stored i slot is ∙ le-ltb i committed high)) ∙ and-false (slot.key == key))
    within (omega arith)
    )
    ∙ ap (last_stored_before key event) (take_all (length slots) (map put_in slots) (let len = length-map slots put_in in omega (arith, len)))

-- what `as_of` finds
pub found_in_part : (slots part : List Slot) (key event n : ℕ) (stored result : Option ℕ) → part ≡ slots → n ≤ length slots → stored ≡ last_slot slots key n →
    ((k m : ℕ) → m ≤ length part → stored ≡ last_slot part k m → put_at part result ≡ found_before part k event m) → put_at slots result ≡ found_before slots key event n
found_in_part slots part key event n stored result here within is found =
    let same = ap length here in
    ap (λ xs. put_at xs result) (sym here)
    ∙ found key n (omega (arith, within, same)) (is ∙ ap (λ xs. last_slot xs key n) (sym here))
    ∙ ap (λ xs. found_before xs key event n) here

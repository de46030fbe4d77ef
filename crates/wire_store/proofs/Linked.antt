-- The last slot of a key, and the last that is stored.
use Rattle.std.proofs.Common.{◌≡◌, ◌∙◌, ℕ, zero, suc, ◌<◌, ◌≤◌, List, length, cond, ◌==◌, Option, Some, None, option_map, slice_get, get_or, ◌⊎◌, inl, inr, refl, sym, ap, arith, eqb-true}
use Rattle.std.proofs.lemmas.Bool.{cases_Bool, cases_eq}
use Rattle.std.proofs.lemmas.Option.{none-some, same_Some, slice_get-get_or}
use Rattle.wire_store.specs.declared.chain.Slot.{Slot}
use Rattle.wire_store.specs.Slots.{last_slot_with, last_slot, IsLinked}

-- one more slot
last_slot_step : (slots : List Slot) (key n i : ℕ) → last_slot slots key (suc n) ≡ Some i → (last_slot slots key n ≡ Some i)
    ⊎ ((i ≡ n) × ((slot : Slot) × (slice_get slots n ≡ Some slot) × (slot.key ≡ key)))
last_slot_step slots key n i h = go (slice_get slots n) refl h
  where
    go : (o : Option Slot) → slice_get slots n ≡ o → last_slot_with key n (last_slot slots key n) o ≡ Some i → (last_slot slots key n ≡ Some i)
        ⊎ ((i ≡ n) × ((slot : Slot) × (slice_get slots n ≡ Some slot) × (slot.key ≡ key)))
    go None e was = inl was
    go (Some slot) e was = elim (cases_Bool (slot.key == key)) [
      | inl t ↦ let at_n = rw t at was in inr (sym (same_Some n i at_n), (slot, e, eqb-true slot.key key t))
      | inr f ↦ inl (rw f at was)
    ]

last_slot_none : (slots : List Slot) (key n : ℕ) → last_slot slots key (suc n) ≡ None → last_slot slots key n ≡ None
last_slot_none slots key n h = go (slice_get slots n) h
  where
    go : (o : Option Slot) → last_slot_with key n (last_slot slots key n) o ≡ None → last_slot slots key n ≡ None
    go None was = was
    go (Some slot) was = elim (cases_Bool (slot.key == key)) [
      | inl t ↦ let at_n = rw t at was in absurd (none-some n (sym at_n))
      | inr f ↦ rw f at was
    ]

pub last_slot_below : (slots : List Slot) (key n i : ℕ) → last_slot slots key n ≡ Some i → i < n
last_slot_below slots key zero i h = absurd (none-some i h)
last_slot_below slots key (suc n) i h = elim (last_slot_step slots key n i h) [
  | inl was ↦ let below = last_slot_below slots key n i was in omega (arith, below)
  | inr here ↦ let e = here.0 in omega (arith, e)
]

pub last_slot_there : (slots : List Slot) (key n i : ℕ) → last_slot slots key n ≡ Some i → (slot : Slot) × (slice_get slots i ≡ Some slot) × (slot.key ≡ key)
last_slot_there slots key zero i h = absurd (none-some i h)
last_slot_there slots key (suc n) i h = elim (last_slot_step slots key n i h) [
  | inl was ↦ last_slot_there slots key n i was
  | inr here ↦ let slot = here.1 in (slot.0, ap (slice_get slots) here.0 ∙ slot.1, slot.2)
]

-- what is last among the first n and below m is last among the first m
pub last_slot_among : (slots : List Slot) (key n m i : ℕ) → last_slot slots key n ≡ Some i → i < m → m ≤ n → last_slot slots key m ≡ Some i
last_slot_among slots key zero m i h low le = absurd (none-some i h)
last_slot_among slots key (suc n) m i h low le = elim (cases_eq m (suc n)) [
  | inl e ↦ ap (last_slot slots key) e ∙ h
  | inr ne ↦
      elim (last_slot_step slots key n i h) [
        | inl was ↦ last_slot_among slots key n m i was low (omega arith)
        | inr here ↦ let e = here.0 in absurd (omega (arith, e))
      ]
]

pub last_slot_nothing : (slots : List Slot) (key n m : ℕ) → last_slot slots key n ≡ None → m ≤ n → last_slot slots key m ≡ None
last_slot_nothing slots key zero m h le = let e : m ≡ 0 = omega arith in ap (last_slot slots key) e
last_slot_nothing slots key (suc n) m h le = elim (cases_eq m (suc n)) [
  | inl e ↦ ap (last_slot slots key) e ∙ h
  | inr ne ↦ last_slot_nothing slots key n m (last_slot_none slots key n h) (omega arith)
]

-- it goes by the keys alone
pub last_slot_with_same : (key n : ℕ) (before : Option ℕ) (o p : Option Slot) → option_map (λ slot. slot.key) o ≡ option_map (λ slot. slot.key) p →
    last_slot_with key n before o ≡ last_slot_with key n before p
last_slot_with_same key n before None None same = refl
last_slot_with_same key n before None (Some p) same = absurd (none-some p.key same)
last_slot_with_same key n before (Some o) None same = absurd (none-some o.key (sym same))
last_slot_with_same key n before (Some o) (Some p) same = ap (λ k. cond (k == key) (Some n) before) (same_Some o.key p.key same)

pub last_slot_same : (xs ys : List Slot) (key n : ℕ) → ((i : ℕ) → i < n → option_map (λ slot. slot.key) (slice_get xs i) ≡ option_map (λ slot. slot.key) (slice_get ys i)) →
    last_slot xs key n ≡ last_slot ys key n
last_slot_same xs ys key zero same = refl
last_slot_same xs ys key (suc n) same =
    ap (λ before. last_slot_with key n before (slice_get xs n)) (last_slot_same xs ys key n (λ i low. same i (omega (arith, low))))
    ∙ last_slot_with_same key n (last_slot ys key n) (slice_get xs n) (slice_get ys n) (same n (omega arith))

-- the newest slot of a key, where it isn't stored, names the last that is
pub named_last : (slots : List Slot) (key committed i : ℕ) (d : Slot) → IsLinked slots committed → committed ≤ i → i < length slots → Some i ≡ last_slot slots key (length slots) →
    (get_or slots i d).stored_before ≡ last_slot slots key committed
named_last slots key committed i d linked high within is =
    let slot = get_or slots i d in
    let there = slice_get-get_or slots i d within in
    let found = last_slot_there slots key (length slots) i (sym is) in
    let same : found.0 ≡ slot = same_Some found.0 slot (sym found.1 ∙ there) in
    let of_key : slot.key ≡ key = ap (λ s. s.key) (sym same) ∙ found.2 in
    linked i slot there high ∙ ap (λ k. last_slot slots k committed) of_key

pub newest_stored : (slots : List Slot) (key committed i : ℕ) → i < committed → committed ≤ length slots → Some i ≡ last_slot slots key (length slots) → Some i ≡ last_slot slots key committed
newest_stored slots key committed i low within is = sym (last_slot_among slots key (length slots) committed i (sym is) low within)

pub never_put : (slots : List Slot) (key committed : ℕ) → committed ≤ length slots → None ≡ last_slot slots key (length slots) → None ≡ last_slot slots key committed
never_put slots key committed within is = sym (last_slot_nothing slots key (length slots) committed (sym is) within)

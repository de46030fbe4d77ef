-- The slots of a store, and how it finds the last of a key.
use Rattle.std.specs.Prelude.{◌≡◌, ℕ, zero, suc, ◌≤◌, List, length, Option, Some, None, is_some, option_map, slice_get}
use Rattle.std.specs.Prelude.{nat_lt, ◌==◌, if◌then◌else◌}
use Rattle.wire_store.specs.declared.chain.Slot.{Slot}
use Rattle.wire_store.specs.Kept.{KeptPut}

-- the put that a slot holds
abbrev pub put_in : Slot → KeptPut
put_in slot = record { at = slot.at; key = slot.key; scope = slot.scope; call = slot.call; stored_by = slot.stored_by }

-- the put that the slot of this number holds
abbrev pub put_at : List Slot → Option ℕ → Option KeptPut
put_at slots None = None
put_at slots (Some i) = option_map put_in (slice_get slots i)

-- the slot, stored by the commit of this number
abbrev pub store_slot : ℕ → Slot → Slot
store_slot at slot = record slot { stored_by = Some at }

abbrev pub last_slot_with : ℕ → ℕ → Option ℕ → Option Slot → Option ℕ
last_slot_with key n before None = before
last_slot_with key n before (Some slot) = if slot.key == key then Some n else before

-- the last of the first n slots that holds a put of the key
abbrev pub last_slot : List Slot → ℕ → ℕ → Option ℕ
last_slot slots key zero = None
last_slot slots key (suc n) = last_slot_with key n (last_slot slots key n) (slice_get slots n)

-- each slot that isn't stored names the last stored slot of its key
abbrev pub IsLinked : List Slot → ℕ → Type 0
IsLinked slots committed = (i : ℕ) (slot : Slot) → slice_get slots i ≡ Some slot → committed ≤ i → slot.stored_before ≡ last_slot slots slot.key committed

-- the slot of this number names the last of its key among the first slots, so many that the slots from there on
-- to the slot itself have one commit, or none
pub record IsNamed (slots : List Slot) (i : ℕ) (slot : Slot) : Type 0 where
  pub among : ℕ
  pub below : among ≤ i
  pub names : slot.stored_before ≡ last_slot slots slot.key among
  pub together : (j : ℕ) (other : Slot) → slice_get slots j ≡ Some other → among ≤ j → j ≤ i → other.stored_by ≡ slot.stored_by

abbrev pub IsChained : List Slot → Type 0
IsChained slots = (i : ℕ) (slot : Slot) → slice_get slots i ≡ Some slot → IsNamed slots i slot

-- the first slots, as many as this, are stored
abbrev pub IsStoredTo : List Slot → ℕ → Type 0
IsStoredTo slots committed = (i : ℕ) (slot : Slot) → slice_get slots i ≡ Some slot → is_some slot.stored_by ≡ nat_lt i committed

-- the slots are stored up to here; the last slot of each key is known, and from it the last that is stored
pub record IsSlotIndex (slots : List Slot) (committed : ℕ) (number_of : ℕ → Option ℕ) : Type 0 where
  pub within : committed ≤ length slots
  pub stored : IsStoredTo slots committed
  pub newest : (key : ℕ) → number_of key ≡ last_slot slots key (length slots)
  pub linked : IsLinked slots committed
  pub chained : IsChained slots

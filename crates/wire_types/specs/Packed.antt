-- What eight bytes say of a call.
use Rattle.std.specs.Prelude.{ℕ, ◌==◌, ◌/◌, ◌%◌, true, false, if◌then◌else◌}
use Rattle.wire_types.specs.declared.call.Call.{Call}
use Rattle.wire_types.specs.declared.call.Call.TheVariants.{Put, Commit, Fence, Get, GetNow, Publish, Lookup, LookupWait, Unpublish, UnpublishAll}
use Rattle.wire_types.specs.declared.call.Scope.TheVariants.{Local, Remote, Global}

-- the call of a verb's number, with an owner or a value, and a key, a name or a set
abbrev pub unpacked_call : ℕ → ℕ → ℕ → Call
unpacked_call verb upper about =
    if verb == 0 then Get (record { number = upper }) about
    else if verb == 1 then GetNow (record { number = upper }) about
    else if verb == 2 then Put Global about upper
    else if verb == 3 then Put Local about upper
    else if verb == 4 then Put Remote about upper
    else if verb == 5 then Commit
    else if verb == 6 then Fence about true
    else if verb == 7 then Fence about false
    else if verb == 8 then Publish about upper
    else if verb == 9 then Lookup about
    else if verb == 10 then LookupWait about
    else if verb == 11 then Unpublish about
    else UnpublishAll

-- the call in a word whose lowest four bits are the verb's number, and a word beside it
abbrev pub call_in : ℕ → ℕ → Call
call_in head about = unpacked_call (head % 16) (head / 16) about

-- what stands above the verb
abbrev pub upper_of : Call → ℕ
upper_of (Get owner key) = owner.number
upper_of (GetNow owner key) = owner.number
upper_of (Put scope key value) = value
upper_of (Publish name value) = value
upper_of _ = 0

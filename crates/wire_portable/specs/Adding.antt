-- How the list of lines grows: for the contracts of private functions.
use Rattle.std.specs.Prelude.{List}
use Rattle.wire_portable.specs.declared.libraries.Library.{Library}
use Rattle.wire_portable.specs.declared.listed.Unportable.{Unportable}
use Rattle.wire_portable.specs.Unportable.{IsUnblamed}

-- a library of which the new list has no line has none on the old list, and this holds of it
abbrev pub AddsUnportable : List Unportable → List Unportable → (Library → Type 0) → Type 0
AddsUnportable old new holds = (library : Library) → IsUnblamed library new → IsUnblamed library old × holds library

-- What the list of the calls by which a plan isn't portable tells.
use Rattle.std.specs.Prelude.{◌≡◌, ℕ, List, Bool, true, false, Option, Some, slice_get}
use Rattle.wire_scripts.specs.Scripts.{Scripts}
use Rattle.wire_scripts.specs.Planned.{plan_of}
use Rattle.wire_library_laws.specs.Portable.{IsPortable}
use Rattle.wire_library_laws.specs.Anywhere.{IsPortableAnywhere}
use Rattle.wire_portable.specs.Libraries.{family_of, has, is_empty}
use Rattle.wire_portable.specs.Words.{words_of}
use Rattle.wire_portable.specs.declared.libraries.Library.{Library}
use Rattle.wire_spelling.specs.declared.spelling.Spelt.{Spelt}
use Rattle.wire_portable.specs.declared.listed.Unportable.{Unportable}

-- no line has the library
abbrev pub IsUnblamed : Library → List Unportable → Type 0
IsUnblamed library lines = (k : ℕ) (line : Unportable) → slice_get lines k ≡ Some line → has line.libraries library ≡ false

-- each line names a library
abbrev pub EachNamesSome : List Unportable → Type 0
EachNamesSome lines = (k : ℕ) (line : Unportable) → slice_get lines k ≡ Some line → is_empty line.libraries ≡ false

-- for each library that no line has, the plan of the scripts is portable
abbrev pub AreUnportable : Scripts → List (List (Option Spelt)) → List Unportable → Type 0
AreUnportable s rows lines =
    (library : Library) → IsUnblamed library lines → IsPortable (family_of library) (words_of library s rows) (plan_of s)

-- and wherever its processes are
abbrev pub AreUnportableAnywhere : Scripts → List (List (Option Spelt)) → List Unportable → Type 0
AreUnportableAnywhere s rows lines =
    (library : Library) → IsUnblamed library lines → IsPortableAnywhere (family_of library) (words_of library s rows) (plan_of s)

-- on the plan's nodes, or wherever its processes are
abbrev pub AreUnportableOn : (anywhere : Bool) → Scripts → List (List (Option Spelt)) → List Unportable → Type 0
AreUnportableOn false s rows lines = AreUnportable s rows lines
AreUnportableOn true s rows lines = AreUnportableAnywhere s rows lines

-- The libraries of which a plan is judged: OpenPMIx 4.2, 5.0 and 7.0, and in what they differ.
use Rattle.std.specs.Prelude.{Bool, true, false, not, ◌&&◌, ◌||◌}
use Rattle.wire_library_laws.specs.Library.{Family}
use Rattle.wire_portable.specs.declared.libraries.Libraries.{Libraries}
use Rattle.wire_portable.specs.declared.libraries.Library.{Library}
use Rattle.wire_portable.specs.declared.libraries.Library.TheVariants.{V4, V5, V7}

-- the family of a library, as it was measured
abbrev pub family_of : Library → Family
family_of V4 = record { flaky = true; at_once = true; brings = true; names = true; star = false }
family_of V5 = record { flaky = false; at_once = false; brings = false; names = true; star = false }
family_of V7 = record { flaky = false; at_once = false; brings = true; names = true; star = true }

-- whether a library is of a set
abbrev pub has : Libraries → Library → Bool
has libraries V4 = libraries.v4
has libraries V5 = libraries.v5
has libraries V7 = libraries.v7

abbrev pub none : Libraries
none = record { v4 = false; v5 = false; v7 = false }

abbrev pub all : Libraries
all = record { v4 = true; v5 = true; v7 = true }

abbrev pub only_v4 : Libraries
only_v4 = record { v4 = true; v5 = false; v7 = false }

abbrev pub only_v5 : Libraries
only_v5 = record { v4 = false; v5 = true; v7 = false }

abbrev pub is_empty : Libraries → Bool
is_empty s = not s.v4 && (not s.v5 && not s.v7)

abbrev pub is_all : Libraries → Bool
is_all s = s.v4 && (s.v5 && s.v7)

-- those of either set
abbrev pub either : Libraries → Libraries → Libraries
either s t = record { v4 = s.v4 || t.v4; v5 = s.v5 || t.v5; v7 = s.v7 || t.v7 }

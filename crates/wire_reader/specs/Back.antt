-- The canonical text reads back, and tells scripts apart.
use Rattle.std.specs.Prelude.{◌≡◌, ℕ, ◌≤◌, List, length, Ok}
use Rattle.wire_scripts.specs.Scripts.{Scripts, under_version_2}
use Rattle.wire_scripts.specs.Canonical.{canonical}
use Rattle.wire_reader.specs.declared.limits.Size.{Size}
use Rattle.wire_reader.specs.Limits.{file_bytes}
use Rattle.wire_reader.specs.Reads.{Reads}

-- the canonical text of scripts that were read reads as these scripts, where it is within the limit
abbrev pub ReadsBack : Type 0
ReadsBack = (size : Size) (bytes : List ℕ) (s : Scripts) → Reads size bytes (Ok s) → length (canonical s) ≤ file_bytes size → Reads size (canonical s) (Ok s)

-- and so does that of the same under version 2
abbrev pub MigratedReadsBack : Type 0
MigratedReadsBack = (size : Size) (bytes : List ℕ) (s : Scripts) → Reads size bytes (Ok s) → length (canonical (under_version_2 s)) ≤ file_bytes size
    → Reads size (canonical (under_version_2 s)) (Ok (under_version_2 s))

-- scripts that were read and have the same canonical text are the same, however long that text is
abbrev pub OneCanonical : Type 0
OneCanonical = (size : Size) (a b : List ℕ) (s t : Scripts) → Reads size a (Ok s) → Reads size b (Ok t) → canonical s ≡ canonical t → s ≡ t

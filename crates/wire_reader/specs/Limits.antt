-- How large a file, an order, and what a file declares may be.
use Rattle.std.specs.Prelude.{ℕ}
use Rattle.wire_types.specs.declared.Version.{Version}
use Rattle.wire_types.specs.declared.Version.TheVariants as version
use Rattle.wire_reader.specs.declared.limits.Limits.{Limits}
use Rattle.wire_reader.specs.declared.limits.Size.{Size}
use Rattle.wire_reader.specs.declared.limits.Size.TheVariants.{OfVersion, Large}

-- how many bytes a name of a node or a job, and a key, may have
abbrev pub name_bytes : ℕ
name_bytes = 63

-- and a value
abbrev pub value_bytes : ℕ
value_bytes = 255

-- how many bytes a file may have
abbrev pub file_bytes : Size → ℕ
file_bytes OfVersion = 4194304
file_bytes Large = 1073741824

-- and an order
abbrev pub order_bytes : Size → ℕ
order_bytes OfVersion = 8388608
order_bytes Large = 1073741824

-- how many nodes, jobs, processes and calls a file with a header of this version may declare
abbrev pub limits_of : Size → Version → Limits
limits_of OfVersion version.One = record { nodes = 64; jobs = 16; processes = 256; calls = 16384 }
limits_of OfVersion version.Two = record { nodes = 64; jobs = 16; processes = 512; calls = 32768 }
limits_of Large version = record { nodes = 65536; jobs = 256; processes = 1048576; calls = 33554432 }

-- the largest of all
abbrev pub largest : Limits
largest = limits_of Large version.Two

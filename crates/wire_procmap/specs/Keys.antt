-- What a get of a key asks of the process map.
use Rattle.std.specs.Prelude.{ℕ, Bool, true, false, List, codes, if◌then◌else◌}
use Rattle.std.specs.Str.{bytes_eq}
use Rattle.wire_types.specs.Said.{is_reserved}
use Rattle.wire_procmap.specs.declared.key.KeyKind.{KeyKind}
use Rattle.wire_procmap.specs.declared.key.KeyKind.TheVariants.{Plain, Rank, LocalRank, NodeRank, JobSize, Hostname}
use Rattle.wire_procmap.specs.declared.key.KeyKind.TheVariants.{Other}

unfoldable pub key_kind : List ℕ → KeyKind
key_kind key =
    if bytes_eq key (codes "PMIX_RANK") then Rank
    else if bytes_eq key (codes "PMIX_LOCAL_RANK") then LocalRank
    else if bytes_eq key (codes "PMIX_NODE_RANK") then NodeRank
    else if bytes_eq key (codes "PMIX_JOB_SIZE") then JobSize
    else if bytes_eq key (codes "PMIX_HOSTNAME") then Hostname
    else if is_reserved key then Other
    else Plain

abbrev pub is_reserved_kind : KeyKind → Bool
is_reserved_kind Plain = false
is_reserved_kind Rank = true
is_reserved_kind LocalRank = true
is_reserved_kind NodeRank = true
is_reserved_kind JobSize = true
is_reserved_kind Hostname = true
is_reserved_kind Other = true

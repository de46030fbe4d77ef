-- What a get of a reserved key replies: the five keys of the process map are answered at once, all others aren't found.
use Rattle.std.specs.Prelude.{ℕ, List, codes, if◌then◌else◌}
use Rattle.std.specs.Str.{bytes_eq}
use Rattle.wire_types.specs.Replies.{bare, success_with}
use Rattle.wire_types.specs.declared.Reply.{Reply}
use Rattle.wire_types.specs.declared.Status.TheVariants.{NotFound}
use Rattle.wire_types.specs.declared.Value.TheVariants.{Number, NodeName}
use Rattle.wire_scripts.specs.Scripts.{Process}
use Rattle.wire_scripts.specs.Map.{job_at, node_at, rank_of, local_rank_of, node_rank_of, size_of_job}

abbrev pub reserved_reply : List Process → ℕ → List ℕ → Reply
reserved_reply processes p key =
    if bytes_eq key (codes "PMIX_RANK") then success_with (Number (rank_of processes p))
    else if bytes_eq key (codes "PMIX_LOCAL_RANK") then success_with (Number (local_rank_of processes p))
    else if bytes_eq key (codes "PMIX_NODE_RANK") then success_with (Number (node_rank_of processes p))
    else if bytes_eq key (codes "PMIX_JOB_SIZE") then success_with (Number (size_of_job processes (job_at processes p)))
    else if bytes_eq key (codes "PMIX_HOSTNAME") then success_with (NodeName (node_at processes p))
    else bare NotFound

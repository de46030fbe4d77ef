-- What the map keeps of each process.
use Rattle.std.specs.Prelude.{ℕ, List, length, map}
use Rattle.std.specs.List.{range_with_len}
use Rattle.wire_scripts.specs.Scripts.{Process}
use Rattle.wire_scripts.specs.Map.{job_at, node_at, rank_of, local_rank_of, node_rank_of, size_of_job}
use Rattle.wire_types.specs.Replies.{bare, success_with}
use Rattle.wire_types.specs.declared.Reply.{Reply}
use Rattle.wire_types.specs.declared.Status.TheVariants.{NotFound}
use Rattle.wire_types.specs.declared.Value.TheVariants.{Number, NodeName}
use Rattle.wire_procmap.specs.declared.key.KeyKind.{KeyKind}
use Rattle.wire_procmap.specs.declared.key.KeyKind.TheVariants.{Plain, Rank, LocalRank, NodeRank, JobSize, Hostname}
use Rattle.wire_procmap.specs.declared.key.KeyKind.TheVariants.{Other}
use Rattle.wire_procmap.specs.declared.row.ProcessNumbers.{ProcessNumbers}

unfoldable pub row_of : List Process → ℕ → ProcessNumbers
row_of processes p = record {
  job = job_at processes p;
  node = node_at processes p;
  rank = rank_of processes p;
  local_rank = local_rank_of processes p;
  node_rank = node_rank_of processes p;
  job_size = size_of_job processes (job_at processes p);
}

-- the row of each process
abbrev pub rows_of : List Process → List ProcessNumbers
rows_of processes = map (row_of processes) (range_with_len 0 (length processes))

-- what a get of a key of this kind replies of the process of this row
abbrev pub reply_of : ProcessNumbers → KeyKind → Reply
reply_of row Plain = bare NotFound
reply_of row Rank = success_with (Number row.rank)
reply_of row LocalRank = success_with (Number row.local_rank)
reply_of row NodeRank = success_with (Number row.node_rank)
reply_of row JobSize = success_with (Number row.job_size)
reply_of row Hostname = success_with (NodeName row.node)
reply_of row Other = bare NotFound
